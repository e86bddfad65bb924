use Rattle.std.proofs.Common.{length, map}
use Rattle.onfi_bus.specs.Lab.{lab_state}
use Rattle.plan_grammar.specs.Meaning.{plan_of}
use Rattle.plan_replay.proofs.Through.{AreOnTheWay}
use Rattle.plan_replay.proofs.boot.run_controllers.Given as goal

-- some controllers went through the boot, and the others have their flashes
abbrev pub invariant-loop-own : goal.invariant-loop-own
invariant-loop-own l =
    AreOnTheWay (plan_of l.plan) l.boot (map (map lab_state) l.fn.flashes) (map (map lab_state) l.rest) l.ends l.initial.out l.out

abbrev pub decreases-loop-own : goal.decreases-loop-own
decreases-loop-own l = length l.rest
