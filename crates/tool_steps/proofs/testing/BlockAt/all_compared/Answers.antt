use Rattle.std.proofs.Common.{Bool, sym, ap, ◌∙◌}
use Rattle.std.specs.Prelude.{if◌then◌else◌}
use Rattle.command_model.specs.NandTest.{kept_body, test_change}
use Rattle.tool_steps.specs.Testing.{compared_left, counts_of, later_left, passed_left, test_mode}
use Rattle.tool_steps.proofs.testing.BlockAt.all_compared.Goals as goal

pub returns-then-differ : goal.returns-then-differ
returns-then-differ c =
    λ g kept. c.worn.ensures g kept ∙ ap (λ (differ : Bool). compared_left g kept c.args.self differ (counts_of c.args.self.counts)) (sym c.if-differ.true)

pub returns-else-self : goal.returns-else-self
returns-else-self c =
    λ g kept.
    let b = c.args.self in
    c.passed.ensures g kept
    ∙ ap (λ (keep : Bool). if keep
    then test_change g (test_mode b.walk.called) b.walk.block (kept_body g kept) (counts_of b.counts) (later_left g b) (passed_left g b)
    else passed_left g b) (sym c.if-self.false)
    ∙ ap (λ (differ : Bool). compared_left g kept c.args.self differ (counts_of c.args.self.counts)) (sym c.if-differ.false)
