use Rattle.std.proofs.Common.{arith}
use Rattle.onfi_bus.proofs.Sizes.{page_count_small}
use Rattle.onfi_bus.proofs.phase.pages_of.Goals as goal

pub overflow_mul-result : goal.overflow_mul-result
overflow_mul-result c = omega (arith, page_count_small c.args.g.now)

pub returns-clause-few : goal.returns-clause-few
returns-clause-few c = omega (arith, page_count_small c.args.g.now)
