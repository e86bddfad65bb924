use Rattle.std.proofs.Common.{arith}
use Rattle.plan_costs.proofs.Sizes.{block-low}
use Rattle.plan_costs.proofs.base.block_len.Goals as goal

pub returns-clause-some : goal.returns-clause-some
returns-clause-some c = rw (c.from.ensures, c.from-2.ensures) (block-low c.args.g.now)
