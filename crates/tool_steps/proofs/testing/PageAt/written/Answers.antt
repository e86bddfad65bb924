use Rattle.std.proofs.Common.{◌≡◌, ℕ, ◌+◌, sym, ap, ◌∙◌, arith}
use Rattle.command_model.specs.Command.{Script}
use Rattle.command_model.specs.NandTest.{after_change, write_bodies}
use Rattle.tool_steps.specs.declared.testing.BlockAt.{BlockAt}
use Rattle.tool_steps.specs.declared.testing.PageAt.{PageAt}
use Rattle.tool_steps.specs.Testing.{body_left, refused_left, worn_left, written_left}
use Rattle.tool_steps.proofs.testing.PageAt.written.Goals as goal

pub returns-then-self-eq0 : goal.returns-then-self-eq0
returns-then-self-eq0 c =
    λ kept.
    let g = c.args.g.now in
    let p : PageAt = c.args.self in
    let none : c.args.self.rest ≡ 0 = omega (arith, c.if-self-eq0.true) in
    c.changed.ensures g kept
    ∙ (λ i. after_change c.args.reply.now (c.all_written.ensures kept i) (worn_left g p.at) (refused_left g p.at))
    ∙ ap (λ (n : ℕ). after_change c.args.reply.now (write_bodies g p.at.walk.called.dev p.at.walk.block (body_left g kept p.at c.args.bodies) n (p.place + 1)
    (written_left g kept p.at c.args.bodies) (worn_left g p.at) (refused_left g p.at)) (worn_left g p.at) (refused_left g p.at)) (sym none)

pub returns : goal.returns
returns c =
    λ kept.
    let g = c.args.g.now in
    let p : PageAt = c.args.self in
    let writes : BlockAt → (left place : ℕ) → Script = λ b left place.
    write_bodies g b.walk.called.dev b.walk.block (body_left g kept b c.args.bodies) left place (written_left g kept b c.args.bodies) (worn_left g b) (refused_left g b) in
    c.changed-2.ensures g kept
    ∙ (λ i. after_change c.args.reply.now (writes (c.next-next.ensures.at i) (c.next-next.ensures.rest i) (c.next-next.ensures.place i))
    (worn_left g p.at) (refused_left g p.at))
