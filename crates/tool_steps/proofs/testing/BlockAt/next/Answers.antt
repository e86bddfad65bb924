use Rattle.std.proofs.Common.{◌≡◌, ℕ, suc, ◌+◌, ◌-◌, sym, ap, ◌∙◌, arith}
use Rattle.command_model.specs.NandTest.{test_blocks, test_passes}
use Rattle.tool_steps.proofs.Testings.{first_of_pass}
use Rattle.tool_steps.specs.Testing.{counts_of, pass_seed, test_mode}
use Rattle.tool_steps.specs.declared.testing.Walk.{Walk}
use Rattle.tool_steps.proofs.testing.BlockAt.next.Goals as goal

pub returns-then-walk-gt0 : goal.returns-then-walk-gt0
returns-then-walk-gt0 c =
    λ g kept.
    let w : Walk = c.args.self.walk in
    let one_less : suc (c.args.self.walk.rest - 1) ≡ c.args.self.walk.rest = omega (arith, c.if-walk-gt0.true) in
    ap (λ (n : ℕ). test_blocks g (test_mode w.called) (pass_seed w) n (w.block + 1) (counts_of c.args.counts)
    (λ d. test_passes g (test_mode w.called) w.first w.count w.passes d)) one_less

pub returns-then-walk-gt0-2 : goal.returns-then-walk-gt0-2
returns-then-walk-gt0-2 c =
    λ g kept.
    let w : Walk = c.args.self.walk in
    let none : c.args.self.walk.rest ≡ 0 = omega (arith, c.if-walk-gt0.false) in
    first_of_pass g (test_mode w.called) w.first w.count w.passes (counts_of c.args.counts) c.args.self.walk.some (omega (arith, c.if-walk-gt0-2.true))
    ∙ ap (λ (n : ℕ). test_blocks g (test_mode w.called) (pass_seed w) n (w.block + 1) (counts_of c.args.counts)
    (λ d. test_passes g (test_mode w.called) w.first w.count w.passes d)) (sym none)
