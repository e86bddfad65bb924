use Rattle.std.proofs.Common.{◌∙◌, ◌*◌, ap, drop}
use Rattle.report_text.proofs.RowSteps.{drop-min}
use Rattle.report_text.proofs.rows.skip_rows.Goals as goal

pub returns : goal.returns
returns c =
    c.split_at.ensures.back ∙ ap (λ n. drop n c.args.bytes.now) c.min.ensures
    ∙ drop-min (32 * c.args.count) c.args.bytes.now
