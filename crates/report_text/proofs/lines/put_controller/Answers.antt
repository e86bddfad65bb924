use Rattle.std.proofs.Common.{◌++◌}
use Rattle.std.specs.Prelude.{codes, decimal}
use Rattle.report_text.proofs.Pieces.{ended}
use Rattle.report_text.proofs.lines.put_controller.Goals as goal

pub returns : goal.returns
returns c =
    ended _ c.args.out.now c.put_index.new.out _ (codes "controller " ++ decimal c.args.controller) _
    c.in_ok-put_index.ensures c.put_text.ensures
