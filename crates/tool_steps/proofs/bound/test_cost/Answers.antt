use Rattle.std.proofs.Common.{arith}
use Rattle.nand_model.proofs.Bounds.{pages-le}
use Rattle.tool_steps.proofs.bound.test_cost.Goals as goal

pub tests_cost-for_keeping-requires-clause-each : goal.tests_cost-for_keeping-requires-clause-each
tests_cost-for_keeping-requires-clause-each c = rw c.from-pages.ensures (omega (arith, pages-le c.args.g.now))

pub tests_cost-requires-clause-each : goal.tests_cost-requires-clause-each
tests_cost-requires-clause-each c = rw c.from-pages.ensures (omega (arith, pages-le c.args.g.now))
