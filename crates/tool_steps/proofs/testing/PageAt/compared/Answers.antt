use Rattle.std.proofs.Common.{◌≡◌, ℕ, ◌+◌, Bool, not, bytes_eq, sym, ap, ◌∙◌, arith}
use Rattle.std.specs.Prelude.{◌||◌}
use Rattle.command_model.specs.Command.{Script}
use Rattle.command_model.specs.NandTest.{TestCounts, body_read, compare_bodies, pass_body, test_body, with_page_compared}
use Rattle.tool_steps.specs.declared.testing.BlockAt.{BlockAt}
use Rattle.tool_steps.specs.declared.testing.PageAt.{PageAt}
use Rattle.tool_steps.specs.Testing.{compared_left, counts_of, pass_seed}
use Rattle.tool_steps.proofs.testing.PageAt.compared.Goals as goal

pub returns-then-self-eq0 : goal.returns-then-self-eq0
returns-then-self-eq0 c =
    λ kept.
    let g = c.args.g.now in
    let p : PageAt = c.args.self in
    let none : c.args.self.rest ≡ 0 = omega (arith, c.if-self-eq0.true) in
    let differs : not c.is_test_body-differs.result ≡ not (bytes_eq (pass_body g (pass_seed p.at.walk) p.at.walk.block p.place) (body_read g c.args.reply.now)) =
    ap not (c.is_test_body-differs.ensures ∙ (λ i. bytes_eq (test_body g (c.seed.ensures i) (c.page.ensures i)) (c.page_body-body.ensures i))) in
    let counts : TestCounts → Bool → Script = λ d b. compared_left g kept p.at (c.args.differ || b) d in
    c.all_compared.ensures g kept
    ∙ (λ i. counts (c.with_compared-counts.ensures i) (not c.is_test_body-differs.result))
    ∙ (λ i. counts (with_page_compared (counts_of p.at.counts) (differs i) c.args.reply.now) (differs i))
    ∙ ap (λ (n : ℕ). compare_bodies g p.at.walk.called.dev p.at.walk.block (pass_body g (pass_seed p.at.walk) p.at.walk.block) n (p.place + 1)
    (c.args.differ || not (bytes_eq (pass_body g (pass_seed p.at.walk) p.at.walk.block p.place) (body_read g c.args.reply.now)))
    (with_page_compared (counts_of p.at.counts) (not (bytes_eq (pass_body g (pass_seed p.at.walk) p.at.walk.block p.place) (body_read g c.args.reply.now))) c.args.reply.now)
    (compared_left g kept p.at)) (sym none)

pub returns : goal.returns
returns c =
    λ kept.
    let g = c.args.g.now in
    let p : PageAt = c.args.self in
    let differs : not c.is_test_body-differs.result ≡ not (bytes_eq (pass_body g (pass_seed p.at.walk) p.at.walk.block p.place) (body_read g c.args.reply.now)) =
    ap not (c.is_test_body-differs.ensures ∙ (λ i. bytes_eq (test_body g (c.seed.ensures i) (c.page.ensures i)) (c.page_body-body.ensures i))) in
    let compares : BlockAt → (left place : ℕ) → Bool → TestCounts → Script = λ b left place differ d.
    compare_bodies g b.walk.called.dev b.walk.block (pass_body g (pass_seed b.walk) b.walk.block) left place differ d (compared_left g kept b) in
    (λ i. compares (c.next.ensures.at i) (c.next.ensures.rest i) (c.next.ensures.place i) (c.args.differ || not c.is_test_body-differs.result)
    (counts_of (c.next.ensures.at i).counts))
    ∙ (λ i. compares p.at p.rest (p.place + 1) (c.args.differ || not c.is_test_body-differs.result) (c.with_compared-counts.ensures i))
    ∙ (λ i. compares p.at p.rest (p.place + 1) (c.args.differ || differs i) (with_page_compared (counts_of p.at.counts) (differs i) c.args.reply.now))
