use Rattle.std.proofs.Common.{arith}
use Rattle.plan_store.proofs.Controllers.{few_pages}
use Rattle.plan_store.proofs.faults.page_count.Goals as goal

pub overflow_mul-result : goal.overflow_mul-result
overflow_mul-result c = omega (arith, few_pages c.args.g.now)

pub returns-clause-few : goal.returns-clause-few
returns-clause-few c = few_pages c.args.g.now
