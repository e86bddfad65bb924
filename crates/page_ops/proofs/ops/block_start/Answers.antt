use Rattle.std.proofs.Common.{arith}
use Rattle.page_ops.proofs.Places.{first_page-lt, first_page-small}
use Rattle.page_ops.proofs.ops.block_start.Goals as goal

pub overflow_mul-result : goal.overflow_mul-result
overflow_mul-result c = let small = first_page-small c.args.g.now c.args.block c.requires in omega (arith, small)

pub returns-clause-there : goal.returns-clause-there
returns-clause-there c = first_page-lt c.args.g.now c.args.block c.requires
