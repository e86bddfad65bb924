-- The numbers begin at 3, and each row adds at most one partition.
use Rattle.std.proofs.Common.{◌≡◌, ◌≤◌, length}
use Rattle.mtd_part.proofs.parts.tests.adds_and_translates.Given as goal

abbrev pub invariant-loop-chip : goal.invariant-loop-chip
invariant-loop-chip g l = (l.parts.first ≡ 3) × (length l.parts.parts ≤ l.chip-index)
