use Rattle.std.proofs.Common.{◌≡◌, ◌+◌, ◌*◌, ◌<◌, ◌≤◌, ◌++◌, length}
use Rattle.report_model.specs.Report.{rows_in, rows_text, runs_text}
use Rattle.report_text.proofs.rows.put_rows.Given as goal

-- the text so far and the rest's rows make the whole
abbrev pub invariant-loop-rest : goal.invariant-loop-rest
invariant-loop-rest l =
    (l.out ++ runs_text l.at (rows_in l.rest) ≡ l.initial.out ++ rows_text l.fn.bytes)
    × (0 < length l.rest → 32 * l.at + length l.rest ≡ length l.fn.bytes)
    × (32 * l.at ≤ length l.fn.bytes + 31)

abbrev pub decreases-loop-rest : goal.decreases-loop-rest
decreases-loop-rest l = length l.rest
