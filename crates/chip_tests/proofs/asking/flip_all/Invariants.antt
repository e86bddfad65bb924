use Rattle.std.proofs.Common.{◌≡◌}
use Rattle.chip_core.specs.Chip.{chip_stage}
use Rattle.chip_tests.proofs.asking.flip_all.Given as goal

-- flips leave the stage
abbrev pub invariant-loop-bit : goal.invariant-loop-bit
invariant-loop-bit g l = chip_stage l.chip ≡ chip_stage l.fn.chip
