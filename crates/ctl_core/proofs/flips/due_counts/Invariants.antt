use Rattle.std.proofs.Common.{◌≡◌, ◌<◌, ◌+◌, ◌-◌, List, length}
use Rattle.std.specs.Prelude.{IfSome, option_map, unwrap_or}
use Rattle.nand_model.specs.Flips.{due_flips}
use Rattle.nand_model.specs.declared.words.Flip.{Flip}
use Rattle.ctl_core.specs.Flips.{bit_count, flips_on}
use Rattle.ctl_core.proofs.FlipSteps.{AreLeft}
use Rattle.ctl_core.proofs.flips.due_counts.Given as goal

abbrev pub invariant-loop-next : goal.invariant-loop-next
invariant-loop-next l = record {
  counted : (left : List Flip) × AreLeft l.faults.flips l.event l.next left
      × (l.pages + length (flips_on l.chip left) ≡ length (flips_on l.chip (due_flips l.faults.flips l.event)))
      × (l.bits + bit_count (flips_on l.chip left) ≡ bit_count (flips_on l.chip (due_flips l.faults.flips l.event)));
  within : IfSome l.next (λ n. n < length l.faults.flips);
}

abbrev pub decreases-loop-next : goal.decreases-loop-next
decreases-loop-next l = unwrap_or (option_map (λ n. length l.faults.flips - n) l.next) 0
