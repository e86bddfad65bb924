use Rattle.std.proofs.Common.{sym}
use Rattle.plan_words.proofs.Parts.{parts_without, parts_around}
use Rattle.plan_words.proofs.forms.split_once.Goals as goal

pub returns-in_err-place : goal.returns-in_err-place
returns-in_err-place c =
    rw c.from_residual.ensures (parts_without c.args.separator c.args.text.now (sym c.in_err-place.ensures))

pub returns : goal.returns
returns c = parts_around c.args.separator c.args.text.now c.in_ok-place.place (sym c.in_ok-place.ensures)
