use Rattle.std.proofs.Common.{◌≡◌, length}
use Rattle.std.specs.Prelude.{All}
use Rattle.ctl_tests.specs.Small.{IsSmallFlip}
use Rattle.ctl_tests.proofs.flips.faults_of.Given as goal

abbrev pub invariant-loop-one : goal.invariant-loop-one
invariant-loop-one l = record { small : All IsSmallFlip l.faults.flips; count : length l.faults.flips ≡ l.one-index }
