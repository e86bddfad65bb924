use Rattle.std.proofs.Common.{ℕ, false, sym, ap, ◌∙◌}
use Rattle.command_model.specs.Command.{Script}
use Rattle.command_model.specs.NandTest.{compare_bodies, pass_body}
use Rattle.tool_steps.specs.declared.testing.BlockAt.{BlockAt}
use Rattle.tool_steps.specs.declared.testing.Bodies.{Bodies}
use Rattle.tool_steps.specs.Testing.{compared_left, counts_of, pass_seed, written_left}
use Rattle.tool_steps.proofs.testing.BlockAt.all_written.Goals as goal

pub returns-in-OfThePass : goal.returns-in-OfThePass
returns-in-OfThePass c =
    λ kept.
    let g = c.args.g.now in
    let compares : BlockAt → (left place : ℕ) → Script = λ b left place.
    compare_bodies g b.walk.called.dev b.walk.block (pass_body g (pass_seed b.walk) b.walk.block) left place false (counts_of b.counts) (compared_left g kept b) in
    (λ i. compares (c.first_page.ensures.at i) (c.first_page.ensures.rest i) (c.first_page.ensures.place i))
    ∙ ap (λ (bodies : Bodies). written_left g kept c.args.self bodies) (sym c.in-OfThePass.is)

pub returns-in-Kept : goal.returns-in-Kept
returns-in-Kept c =
    λ kept. c.passed.ensures c.args.g.now kept ∙ ap (λ (bodies : Bodies). written_left c.args.g.now kept c.args.self bodies) (sym c.in-Kept.is)
