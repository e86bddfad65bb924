use Rattle.std.proofs.Common.{arith}
use Rattle.nand_model.proofs.Bounds.{pages-le, pages-some}
use Rattle.tool_steps.proofs.testing.BlockAt.first_page.Goals as goal

pub overflow_sub-result : goal.overflow_sub-result
overflow_sub-result c = omega (arith, pages-some c.args.g.now)

pub invariant_of-result : goal.invariant_of-result
invariant_of-result c = record { in_block = omega (arith, pages-some c.args.g.now, pages-le c.args.g.now) }

pub returns-clause-rest : goal.returns-clause-rest
returns-clause-rest c = omega (arith, pages-some c.args.g.now)
