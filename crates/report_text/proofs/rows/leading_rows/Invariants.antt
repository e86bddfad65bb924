use Rattle.std.proofs.Common.{◌≡◌, ◌+◌, ◌*◌, ◌<◌, ◌≤◌, length}
use Rattle.report_model.specs.Report.{rows_in}
use Rattle.report_model.proofs.RowLemmas.{leading}
use Rattle.report_text.proofs.rows.leading_rows.Given as goal

-- the rows counted so far and those at the front of the rest are all rows at the front
abbrev pub invariant-loop-rest : goal.invariant-loop-rest
invariant-loop-rest l =
    (leading l.row (rows_in l.fn.bytes) ≡ l.count + leading l.row (rows_in l.rest))
    × (0 < length l.rest → 32 * l.count + length l.rest ≡ length l.fn.bytes)
    × (32 * l.count ≤ length l.fn.bytes + 31)

abbrev pub decreases-loop-rest : goal.decreases-loop-rest
decreases-loop-rest l = length l.rest
