use Rattle.std.proofs.Common.{◌<◌, ◌-◌, length, map}
use Rattle.std.specs.Prelude.{IfSome, option_map, unwrap_or}
use Rattle.ctl_core.specs.Board.{slot_state}
use Rattle.ctl_core.proofs.FlipSteps.{FlipsLeft}
use Rattle.ctl_core.proofs.flips.make_flips.Given as goal

abbrev pub invariant-loop-next : goal.invariant-loop-next
invariant-loop-next g l = record {
  left : FlipsLeft l.faults.flips l.event l.next (map slot_state l.fn.slots.items) l.slots.items;
  within : IfSome l.next (λ n. n < length l.faults.flips);
}

abbrev pub decreases-loop-next : goal.decreases-loop-next
decreases-loop-next g l = unwrap_or (option_map (λ n. length l.faults.flips - n) l.next) 0
