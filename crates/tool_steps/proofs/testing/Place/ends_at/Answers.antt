use Rattle.std.proofs.Common.{[], ◌∷◌, sym, ap, ◌∙◌}
use Rattle.command_model.specs.Command.{Script, after_replies, next_in}
use Rattle.tool_steps.specs.Steps.{is_over, state_left}
use Rattle.tool_steps.specs.Testing.{later_left, place_left, pass_seed, test_mode}
use Rattle.tool_steps.specs.declared.step.State.{State}
use Rattle.tool_steps.specs.declared.testing.Place.{Place}
use Rattle.tool_steps.proofs.Testings.{goes_on, keeps_on}
use Rattle.tool_steps.proofs.testing.Place.ends_at.Goals as goal
use Rattle.tool_steps.proofs.testing.Place.ends_at.Goals.{in-Over-matches-4, in_default-matches-4}

pub returns-in-Keeping : goal.returns-in-Keeping
returns-in-Keeping c =
    λ kept.
    let g = c.args.g.now in
    let p = c.in-Keeping.field-0 in
    sym (keeps_on g (test_mode p.at.walk.called) (pass_seed p.at.walk) p.at.walk.called.dev p.at.walk.block p.rest _ _ _ (later_left g p.at))
    ∙ ap (λ (place : Place). is_over (next_in (after_replies (c.args.reply.now ∷ []) (place_left g kept place)))) (sym c.in-Keeping.is)

pub returns-after-matches-5 : goal.returns-after-matches-5
returns-after-matches-5 c =
    λ kept.
    let g = c.args.g.now in
    elim c.match-matches-5.branch [
      | in-Over-matches-4 w ↦ w.matches-is ∙ ap (λ (s : State Place). is_over (next_in (state_left (place_left g kept) s))) (sym w.in-Over-matches-4.is)
      | in_default-matches-4 w ↦ w.matches-is ∙ sym (goes_on g kept c.next.result w.in_default-matches-4.not-Over)
    ]
    ∙ ap (λ (s : Script). is_over (next_in s)) (c.next.ensures g kept)
    ∙ ap (λ (place : Place). is_over (next_in (after_replies (c.args.reply.now ∷ []) (place_left g kept place)))) (sym c.in-Marking.is)
