use Rattle.std.proofs.Common.{arith}
use Rattle.plan_text.proofs.OwnParts.{devices_more, devices_within}
use Rattle.plan_text.proofs.parts.devices_before.Goals as goal

pub devices_on-count-requires : goal.devices_on-count-requires
devices_on-count-requires c = omega (arith, devices_within c.args.controllers.now c.loop-n.n c.get.result.now c.get.ensures)

pub overflow_add-count : goal.overflow_add-count
overflow_add-count c = omega (arith, devices_within c.args.controllers.now c.loop-n.n c.get.result.now c.get.ensures)

pub loop-n-preserved : goal.loop-n-preserved
loop-n-preserved c = omega (arith, devices_more c.args.controllers.now c.loop-n.n c.get.result.now c.get.ensures)
