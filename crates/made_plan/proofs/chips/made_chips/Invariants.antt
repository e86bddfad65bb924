use Rattle.std.proofs.Common.{◌≡◌}
use Rattle.std.specs.Prelude.{replicate}
use Rattle.made_plan.specs.Made.{made_chip}
use Rattle.made_plan.proofs.chips.made_chips.Given as goal

-- the chips so far
abbrev pub invariant-loop-chip : goal.invariant-loop-chip
invariant-loop-chip l = l.chips ≡ replicate l._chip made_chip
