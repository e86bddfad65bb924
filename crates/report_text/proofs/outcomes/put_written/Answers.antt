use Rattle.std.proofs.Common.{◌∙◌, ◌++◌, ℕ, List, ap}
use Rattle.std.specs.Prelude.{codes, decimal}
use Rattle.report_model.specs.Report.{device_name, ending_text}
use Rattle.report_text.proofs.Pieces.{counted, ended, then}
use Rattle.report_text.proofs.outcomes.put_written.Goals as goal

pub returns : goal.returns
returns c =
    let out = c.args.out.now in
    let named = c.put_device_name.new.out in
    let one = c.put_count.new.out in
    let two = c.put_count-2.new.out in
    let three = c.put_count-3.new.out in
    let four = c.put_text.new.out in
    let name = codes "nandwrite " ++ device_name c.args.dev in
    let counts =
    name ++ codes ": pages " ++ decimal c.args.pages ++ codes ", skipped " ++ decimal c.args.skipped
    ++ codes ", failed " ++ decimal c.args.failed in
    ended _ out four _ _ _
    (then out three four counts (ending_text c.args.ending)
    (counted out two three _ (codes ", failed ") (decimal c.args.failed)
    (counted out one two _ (codes ", skipped ") (decimal c.args.skipped)
    (counted out named one name (codes ": pages ") (decimal c.args.pages)
    c.in_ok-put_device_name.ensures
    c.in_ok-put_count.ensures)
    c.in_ok-put_count-2.ensures)
    c.in_ok-put_count-3.ensures)
    (c.in_ok-put_text.ensures ∙ ap (λ (words : List ℕ). three ++ words) c.ending_words.ensures))
    c.put_text-2.ensures
