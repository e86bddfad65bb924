use Rattle.std.proofs.Common.{◌∙◌, ap, take, drop}
use Rattle.report_text.proofs.RowSteps.{take-min, drop-min}
use Rattle.report_text.proofs.rows.split_row.Goals as goal

pub returns-clause-row : goal.returns-clause-row
returns-clause-row c = c.split_at.ensures.front ∙ ap (λ n. take n c.args.bytes.now) c.min.ensures ∙ take-min 32 c.args.bytes.now

pub returns-clause-later : goal.returns-clause-later
returns-clause-later c = c.split_at.ensures.back ∙ ap (λ n. drop n c.args.bytes.now) c.min.ensures ∙ drop-min 32 c.args.bytes.now
