use Rattle.std.proofs.Common.{◌++◌, ◌∷◌, []}
use Rattle.std.specs.Prelude.{codes, decimal}
use Rattle.report_model.specs.Report.{device_name, spaced}
use Rattle.report_text.proofs.Pieces.{ended, then}
use Rattle.report_text.proofs.notes.put_operation.Goals as goal

pub returns : goal.returns
returns c =
    let out = c.args.out.now in
    let begun = c.put_index.new.out in
    let parted = c.put_text.new.out in
    let named = c.put_text-2.new.out in
    let placed = c.put_device_name.new.out in
    let whole = c.put_index-2.new.out in
    let session = codes "b " ++ decimal c.args.session in
    let device = codes " " ++ device_name c.args.dev in
    let number = codes " " ++ decimal c.args.number in
    ended _ out whole _
    (spaced (codes "b" ∷ decimal c.args.session ∷ c.args.name.now ∷ device_name c.args.dev ∷ decimal c.args.number ∷ [])) _
    (then out begun whole session (codes " " ++ (c.args.name.now ++ (device ++ number))) c.in_ok-put_index.ensures
    (then begun parted whole (codes " ") (c.args.name.now ++ (device ++ number)) c.in_ok-put_text.ensures
    (then parted named whole c.args.name.now (device ++ number) c.in_ok-put_text-2.ensures
    (then named placed whole device number c.in_ok-put_device_name.ensures
    c.in_ok-put_index-2.ensures))))
    c.put_text-3.ensures
