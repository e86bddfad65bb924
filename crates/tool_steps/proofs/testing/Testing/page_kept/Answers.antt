use Rattle.std.proofs.Common.{◌≡◌, ℕ, ◌+◌, List, ◌++◌, sym, ap, ◌∙◌, arith}
use Rattle.command_model.specs.Command.{Script, Do, next_in}
use Rattle.command_model.specs.NandTest.{TestCounts, body_read, read_bodies, test_rewrite, with_test_read}
use Rattle.tool_steps.specs.declared.testing.BlockAt.{BlockAt}
use Rattle.tool_steps.specs.declared.testing.PageAt.{PageAt}
use Rattle.tool_steps.specs.Testing.{counts_of, later_left, pass_seed, test_mode}
use Rattle.tool_steps.proofs.testing.Testing.page_kept.Goals as goal

pub returns-then-page-eq0-clause-turn : goal.returns-then-page-eq0-clause-turn
returns-then-page-eq0-clause-turn c =
    let g = c.args.g.now in
    let p : PageAt = c.args.page in
    let kept = c.in_ok-push_slice.ensures.ok ∙ ap (λ (xs : List ℕ). c.args.self.now.kept ++ xs) c.page_body.ensures in
    let none : c.args.page.rest ≡ 0 = omega (arith, c.if-page-eq0.true) in
    let go_on : List ℕ → TestCounts → Script = λ bytes d. test_rewrite g (test_mode p.at.walk.called) (pass_seed p.at.walk) p.at.walk.block bytes d (later_left g p.at) in
    let same =
    (λ i. test_rewrite g (test_mode p.at.walk.called) (pass_seed p.at.walk) p.at.walk.block (kept i) (c.with_page-counts.ensures i) (later_left g p.at))
    ∙ sym (ap (λ (n : ℕ). read_bodies g p.at.walk.called.dev p.at.walk.block n (p.place + 1) (c.args.self.now.kept ++ body_read g c.args.reply.now)
    (with_test_read (counts_of p.at.counts) c.args.reply.now) go_on) none) in
    (same, ap next_in (sym same) ∙ ap Do (sym c.erase.ensures))

pub returns-clause-turn : goal.returns-clause-turn
returns-clause-turn c =
    let g = c.args.g.now in
    let p : PageAt = c.args.page in
    let kept = c.in_ok-push_slice.ensures.ok ∙ ap (λ (xs : List ℕ). c.args.self.now.kept ++ xs) c.page_body.ensures in
    let left : BlockAt → (rest place : ℕ) → List ℕ → TestCounts → Script = λ b rest place bytes d.
    read_bodies g b.walk.called.dev b.walk.block rest place bytes d
    (λ xs e. test_rewrite g (test_mode b.walk.called) (pass_seed b.walk) b.walk.block xs e (later_left g b)) in
    let same =
    (λ i. left (c.next-next.ensures.at i) (c.next-next.ensures.rest i) (c.next-next.ensures.place i) (kept i) (counts_of (c.next-next.ensures.at i).counts))
    ∙ (λ i. left p.at p.rest (p.place + 1) (c.args.self.now.kept ++ body_read g c.args.reply.now) (c.with_page-counts.ensures i)) in
    (same, ap next_in (sym same) ∙ ap Do (sym c.read.ensures))
