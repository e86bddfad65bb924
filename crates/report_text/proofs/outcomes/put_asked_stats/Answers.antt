use Rattle.std.proofs.Common.{◌++◌}
use Rattle.std.specs.Prelude.{codes, decimal}
use Rattle.report_model.specs.Report.{device_name}
use Rattle.report_text.proofs.Pieces.{counted, ended}
use Rattle.report_text.proofs.outcomes.put_asked_stats.Goals as goal

pub returns : goal.returns
returns c =
    let out = c.args.out.now in
    let named = c.put_device_name.new.out in
    let one = c.put_count.new.out in
    let two = c.put_count-2.new.out in
    let three = c.put_count-3.new.out in
    let name = codes "stats " ++ device_name c.args.dev in
    ended _ out three _ _ _
    (counted out two three _ (codes ", bad ") (decimal c.args.bad)
    (counted out one two _ (codes ", failed ") (decimal c.args.failed)
    (counted out named one name (codes ": corrected ") (decimal c.args.corrected)
    c.in_ok-put_device_name.ensures
    c.in_ok-put_count.ensures)
    c.in_ok-put_count-2.ensures)
    c.in_ok-put_count-3.ensures)
    c.put_text.ensures
