use Rattle.std.proofs.Common.{[], ◌∷◌, IfOk, sym, ap, ◌∙◌, subst}
use Rattle.command_model.specs.Command.{Script, after_replies}
use Rattle.tool_steps.specs.Steps.{TurnsTo}
use Rattle.tool_steps.specs.declared.testing.Place.{Place}
use Rattle.tool_steps.specs.Testing.{place_left, testing_left}
use Rattle.tool_steps.proofs.testing.Testing.answered.Goals as goal

pub returns-in-Marking-clause-turn : goal.returns-in-Marking-clause-turn
returns-in-Marking-clause-turn c =
    let g = c.args.g.now in
    let kept = c.args.self.now.kept in
    subst (λ (script : Script). IfOk c.stands-in-Marking.result (λ turn. TurnsTo turn (testing_left g c.stands-in-Marking.new.self) script))
    (c.next.ensures g kept ∙ ap (λ (p : Place). after_replies (c.args.reply.now ∷ []) (place_left g kept p)) (sym c.in-Marking.is))
    c.stands-in-Marking.ensures.turn
