use Rattle.std.proofs.Common.{◌≡◌, List, not, ap, ◌∙◌}
use Rattle.session_steps.specs.Standing.{Standing, outcomes_by}
use Rattle.session_steps.proofs.Mirrors.{asked_kept}
use Rattle.session_steps.proofs.session.Session.settle.Goals as goal

pub returns-in_ok-put_outcomes_down-clause-outcomes : goal.returns-in_ok-put_outcomes_down-clause-outcomes
returns-in_ok-put_outcomes_down-clause-outcomes c =
    ap (λ (st : Standing). st.outcomes) c.in_ok-put_outcomes_down.ensures.put_down
    ∙ ap (λ (st : Standing). outcomes_by c.args.commands.now st) c.in_ok-resume.ensures.stands

pub returns-else-is_none-clause-outcomes : goal.returns-else-is_none-clause-outcomes
returns-else-is_none-clause-outcomes c =
    asked_kept c.args.commands.now _ _ c.in_ok-resume.field-0 c.in_ok-resume.ensures.stands c.in_ok-resume.ensures.op (c.is_none.ensures ∙ ap not c.if-is_none.false)
