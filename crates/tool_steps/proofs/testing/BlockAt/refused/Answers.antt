use Rattle.std.proofs.Common.{◌∙◌}
use Rattle.tool_steps.specs.Testing.{counts_of, later_left}
use Rattle.tool_steps.proofs.testing.BlockAt.refused.Goals as goal

pub returns : goal.returns
returns c =
    λ g kept.
    c.next.ensures g kept ∙ (λ i. later_left g c.args.self (record (counts_of c.args.self.counts) { bad = c.saturating_add.ensures i }))
