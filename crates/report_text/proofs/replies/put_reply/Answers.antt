use Rattle.std.specs.Prelude.{codes}
use Rattle.report_model.specs.Report.{which_text}
use Rattle.report_text.proofs.Pieces.{then_named}
use Rattle.report_text.proofs.replies.put_reply.Goals as goal

pub returns-in_ok-put_text-in-TableFailed : goal.returns-in_ok-put_text-in-TableFailed
returns-in_ok-put_text-in-TableFailed c =
    rw c.in-TableFailed.is
    (then_named _ c.args.out.now c.put_text-in-TableFailed.new.out _ (codes "table failed ")
    c.copy_name.result.now (which_text c.in-TableFailed.which) c.in_ok-put_text-in-TableFailed.ensures
    c.copy_name.ensures c.put_text-in-TableFailed-2.ensures)
