use Rattle.std.proofs.Common.{◌≡◌, ◌++◌, length, map}
use Rattle.ctl_core.specs.Board.{slot_state}
use Rattle.ctl_core.specs.SlotState.{slot_first}
use Rattle.ctl_core.proofs.starting.first_slots.Given as goal

abbrev pub invariant-loop-flash : goal.invariant-loop-flash
invariant-loop-flash g l = record {
  so_far : map slot_state l.slots.items ++ map slot_first (map g.F.Flash.state l.rest) ≡ map slot_first (map g.F.Flash.state l.fn.flashes);
}

abbrev pub decreases-loop-flash : goal.decreases-loop-flash
decreases-loop-flash g l = length l.rest
