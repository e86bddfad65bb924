use Rattle.plan_costs.proofs.Rests.{costs_grow}
use Rattle.plan_costs.proofs.laws.costs_grow.Goals as goal

pub returns : goal.returns
returns c = costs_grow
