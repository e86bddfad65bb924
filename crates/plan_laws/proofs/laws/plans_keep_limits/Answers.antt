use Rattle.plan_laws.proofs.Limits.{keep_limits}
use Rattle.plan_laws.proofs.laws.plans_keep_limits.Goals as goal

pub returns : goal.returns
returns c = keep_limits
