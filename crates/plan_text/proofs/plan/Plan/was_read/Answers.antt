use Rattle.std.proofs.Common.{subst}
use Rattle.plan_text.specs.Plan.{IsOfBytes}
use Rattle.plan_text.proofs.plan.Plan.was_read.Goals as goal

pub returns : goal.returns
returns c = subst IsOfBytes c.self.view_is c.self.invariant.read
