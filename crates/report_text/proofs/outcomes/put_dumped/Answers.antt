use Rattle.std.proofs.Common.{◌++◌}
use Rattle.std.specs.Prelude.{codes, decimal}
use Rattle.report_model.specs.Report.{device_name}
use Rattle.report_text.proofs.Pieces.{counted, ended}
use Rattle.report_text.proofs.outcomes.put_dumped.Goals as goal

pub returns : goal.returns
returns c =
    let out = c.args.out.now in
    let named = c.put_device_name.new.out in
    let one = c.put_count.new.out in
    let two = c.put_count-2.new.out in
    let three = c.put_count-3.new.out in
    let four = c.put_count-4.new.out in
    let name = codes "nanddump " ++ device_name c.args.dev in
    ended _ out four _ _ _
    (counted out three four _ (codes ", failed ") (decimal c.args.failed)
    (counted out two three _ (codes ", corrected ") (decimal c.args.corrected)
    (counted out one two _ (codes ", bad ") (decimal c.args.bad)
    (counted out named one name (codes ": pages ") (decimal c.args.pages)
    c.in_ok-put_device_name.ensures
    c.in_ok-put_count.ensures)
    c.in_ok-put_count-2.ensures)
    c.in_ok-put_count-3.ensures)
    c.in_ok-put_count-4.ensures)
    c.put_text.ensures
