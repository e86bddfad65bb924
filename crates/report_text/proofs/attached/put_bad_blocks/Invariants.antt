use Rattle.std.proofs.Common.{◌≡◌, ◌++◌, drop}
use Rattle.report_model.specs.Report.{bad_entries, joined_by_commas}
use Rattle.report_text.proofs.Entries.{rest_text}
use Rattle.report_text.proofs.attached.put_bad_blocks.Given as goal

-- the text so far and what is still to print make the whole
abbrev pub invariant-loop-block : goal.invariant-loop-block
invariant-loop-block l = l.out ++ rest_text l.any l.block (drop l.block l.states) ≡ l.initial.out ++ joined_by_commas (bad_entries 0 l.fn.states)
