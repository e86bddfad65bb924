use Rattle.std.proofs.Common.{refl}
use Rattle.plan_costs.proofs.Boots.{costs_boot}
use Rattle.plan_costs.proofs.costs.CostIndex.with_boot.Goals as goal

pub returns : goal.returns
returns c = λ plan boot none s. costs_boot plan c.args.self _ boot none refl c.new.ensures.empty s
