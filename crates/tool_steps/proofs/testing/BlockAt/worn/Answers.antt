use Rattle.std.proofs.Common.{Bool, sym, ap, ◌∙◌}
use Rattle.std.specs.Prelude.{if◌then◌else◌}
use Rattle.nand_model.specs.declared.words.Op.TheVariants.{Mark}
use Rattle.command_model.specs.Command.{Ask}
use Rattle.command_model.specs.NandTest.{TestCounts, counted}
use Rattle.tool_steps.specs.Testing.{counts_of, later_left}
use Rattle.tool_steps.proofs.testing.BlockAt.worn.Goals as goal

pub returns-else-self : goal.returns-else-self
returns-else-self c =
    λ g kept.
    let b = c.args.self in
    let more : TestCounts = record (counts_of c.args.self.counts) { worn = counted c.args.self.counts.worn 1 } in
    c.next.ensures g kept ∙ (λ i. later_left g c.args.self (record (counts_of c.args.self.counts) { worn = c.saturating_add.ensures i }))
    ∙ ap (λ (marks : Bool). if marks then Ask (Mark b.walk.called.dev b.walk.block) (λ r. later_left g b more) else later_left g b more) (sym c.if-self.false)
