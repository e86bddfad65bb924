use Rattle.std.proofs.Common.{◌≡◌, ◌<◌, ◌+◌, ℕ, length, map}
use Rattle.std.specs.Prelude.{IfSome, slice_get}
use Rattle.nand_model.specs.Flips.{due_flips}
use Rattle.ctl_core.specs.Board.{slot_state, HasRoom}
use Rattle.ctl_core.specs.Flips.{bit_count, flips_on}
use Rattle.ctl_core.proofs.flips.reserve_for.Given as goal

abbrev pub invariant-loop-k : goal.invariant-loop-k
invariant-loop-k g l = record {
  room : (j : ℕ) → j < l.k → IfSome (slice_get l.slots.items j)
      (HasRoom (1 + length (flips_on j (due_flips l.faults.flips l.event))) (bit_count (flips_on j (due_flips l.faults.flips l.event))));
  same : map slot_state l.slots.items ≡ map slot_state l.fn.slots.items;
}
