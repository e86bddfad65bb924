use Rattle.plan_words.proofs.Parts.{not_halved}
use Rattle.plan_words.proofs.forms.halves.Goals as goal

pub returns-in-Some : goal.returns-in-Some
returns-in-Some c =
    not_halved c.args.separator c.args.text.now c.in_ok-first.first.now c.in_ok-first.second.now
    c.in-Some.field-0.0.now c.in-Some.field-0.1.now c.in_ok-first.ensures c.in-Some.ensures
