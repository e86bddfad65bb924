use Rattle.std.proofs.Common.{◌++◌}
use Rattle.std.specs.Prelude.{codes, decimal}
use Rattle.report_text.proofs.Pieces.{counted, ended}
use Rattle.report_text.proofs.outcomes.put_compared.Goals as goal

pub returns : goal.returns
returns c =
    let out = c.args.out.now in
    let one = c.put_count.new.out in
    let two = c.put_count-2.new.out in
    let three = c.put_count-3.new.out in
    ended _ out three _ _ _
    (counted out two three _ (codes ", failed ") (decimal c.args.failed)
    (counted out one two (codes ", mismatched " ++ decimal c.args.mismatched) (codes ", corrected ")
    (decimal c.args.corrected)
    c.in_ok-put_count.ensures
    c.in_ok-put_count-2.ensures)
    c.in_ok-put_count-3.ensures)
    c.put_text.ensures
