use Rattle.std.proofs.Common.{◌≡◌, true}
use Rattle.chip_paths.specs.Stage.{is_resting}
use Rattle.chip_core.specs.Chip.{chip_stage}
use Rattle.chip_tests.proofs.asking.first_other_of.Given as goal

-- nothing is in flight
abbrev pub invariant-loop-place : goal.invariant-loop-place
invariant-loop-place g l = is_resting (chip_stage l.chip) ≡ true
