use Rattle.plan_replay.proofs.Buses.{AreNew}
use Rattle.plan_replay.proofs.replay.new_flashes.Given as goal

-- the controllers so far have new chips
abbrev pub invariant-loop-controller : goal.invariant-loop-controller
invariant-loop-controller l = AreNew l.plan l.controller l.flashes
