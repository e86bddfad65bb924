use Rattle.plan_laws.proofs.Ready.{are_ready}
use Rattle.plan_laws.proofs.laws.plans_are_ready.Goals as goal

pub returns : goal.returns
returns g c = are_ready _
