use Rattle.std.proofs.Common.{◌≡◌, sym, ap, ◌∙◌, arith}
use Rattle.nand_model.specs.declared.geometry.Geometry.{Geometry}
use Rattle.command_model.specs.Command.{cost_of}
use Rattle.plan_grammar.specs.declared.lines.CommandLine.{CommandLine}
use Rattle.plan_grammar.specs.Costs.{command_on}
use Rattle.plan_costs.specs.Room.{in_long}
use Rattle.plan_costs.proofs.base.base_cost.Goals as goal

pub returns-in-NandDump : goal.returns-in-NandDump
returns-in-NandDump c = λ plan e.
    let g : Geometry = c.args.size.now.geometry in
    let small : c.dump_cost.result ≡ in_long c.dump_cost.result = omega (arith, c.dump_cost.ensures.small) in
    small ∙ ap in_long (c.dump_cost.ensures.cost c.in-NandDump.dev c.in-NandDump.raw c.in-NandDump.oob c.in-NandDump.bad
    ∙ sym (ap (λ (command : CommandLine). cost_of g (command_on plan c.args.size.now.blocks command) 0) c.in-NandDump.is))

pub returns-in-NandTest : goal.returns-in-NandTest
returns-in-NandTest c = λ plan e.
    let g : Geometry = c.args.size.now.geometry in
    c.test_cost.ensures c.in-NandTest.dev c.in-NandTest.seed c.in-NandTest.mark
    ∙ sym (ap (λ (command : CommandLine). in_long (cost_of g (command_on plan c.args.size.now.blocks command) 0)) c.in-NandTest.is)
