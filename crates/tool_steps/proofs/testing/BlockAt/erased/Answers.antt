use Rattle.std.proofs.Common.{ℕ, ◌∙◌}
use Rattle.command_model.specs.Command.{Script}
use Rattle.command_model.specs.NandTest.{after_change, write_bodies}
use Rattle.tool_steps.specs.declared.testing.BlockAt.{BlockAt}
use Rattle.tool_steps.specs.Testing.{body_left, refused_left, worn_left, written_left}
use Rattle.tool_steps.proofs.testing.BlockAt.erased.Goals as goal

pub returns : goal.returns
returns c =
    λ kept.
    let g = c.args.g.now in
    let writes : BlockAt → (left place : ℕ) → Script = λ b left place.
    write_bodies g b.walk.called.dev b.walk.block (body_left g kept b c.args.bodies) left place (written_left g kept b c.args.bodies) (worn_left g b) (refused_left g b) in
    c.changed.ensures g kept
    ∙ (λ i. after_change c.args.reply.now (writes (c.first_page-page.ensures.at i) (c.first_page-page.ensures.rest i) (c.first_page-page.ensures.place i))
    (worn_left g c.args.self) (refused_left g c.args.self))
