use Rattle.std.proofs.Common.{arith}
use Rattle.plan_replay.proofs.Buses.{next_new, none_new}
use Rattle.plan_replay.proofs.replay.new_flashes.Goals as goal

pub loop-controller-init : goal.loop-controller-init
loop-controller-init c = none_new c.args.plan.now c.new-flashes.result c.new-flashes.ensures

pub loop-controller-preserved : goal.loop-controller-preserved
loop-controller-preserved c =
    next_new c.args.plan.now c.loop-controller.controller c.loop-controller.flashes c.append.new.self _ c.loop-controller.invariant
    (omega (arith, c.loop-controller-test.true, c.controllers-controller-end.ensures)) c.in_ok-new_chips.ensures.states
    c.in_ok-new_chips.ensures.buses c.in_ok-append.ensures.ok
