use Rattle.std.proofs.Common.{◌≡◌, Bool, true, false, [], ℕ, sym, ap, ◌∙◌}
use Rattle.std.specs.Prelude.{if◌then◌else◌}
use Rattle.command_model.specs.Command.{Script, says_bad}
use Rattle.command_model.specs.NandTest.{read_bodies, test_keep, test_rewrite}
use Rattle.tool_steps.specs.declared.testing.BlockAt.{BlockAt}
use Rattle.tool_steps.specs.Testing.{counts_of, later_left, pass_seed, refused_left, test_mode}
use Rattle.tool_steps.proofs.testing.BlockAt.looked.Goals as goal

pub returns-then-tells_bad : goal.returns-then-tells_bad
returns-then-tells_bad c =
    let g = c.args.g.now in
    let b : BlockAt = c.args.self in
    let bad : says_bad c.args.reply.now ≡ true = sym c.tells_bad.ensures ∙ c.if-tells_bad.true in
    c.refused.ensures g []
    ∙ ap (λ (is : Bool). if is then refused_left g b else test_keep g (test_mode b.walk.called) (pass_seed b.walk) b.walk.block (counts_of b.counts) (later_left g b)) (sym bad)

pub returns-then-self : goal.returns-then-self
returns-then-self c =
    let g = c.args.g.now in
    let b : BlockAt = c.args.self in
    let good : says_bad c.args.reply.now ≡ false = sym c.tells_bad.ensures ∙ c.if-tells_bad.false in
    let kept_first : BlockAt → (left place : ℕ) → Script = λ b left place.
    read_bodies g b.walk.called.dev b.walk.block left place [] (counts_of b.counts)
    (λ bytes d. test_rewrite g (test_mode b.walk.called) (pass_seed b.walk) b.walk.block bytes d (later_left g b)) in
    (λ i. kept_first (c.first_page.ensures.at i) (c.first_page.ensures.rest i) (c.first_page.ensures.place i))
    ∙ ap (λ (keep : Bool). if keep then kept_first b g.pages_per_block 0
    else test_rewrite g (test_mode b.walk.called) (pass_seed b.walk) b.walk.block [] (counts_of b.counts) (later_left g b)) (sym c.if-self.true)
    ∙ ap (λ (is : Bool). if is then refused_left g b else test_keep g (test_mode b.walk.called) (pass_seed b.walk) b.walk.block (counts_of b.counts) (later_left g b)) (sym good)
