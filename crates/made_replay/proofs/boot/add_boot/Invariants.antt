use Rattle.std.proofs.Common.{length, map}
use Rattle.onfi_bus.specs.Lab.{lab_state}
use Rattle.plan_grammar.specs.Meaning.{plan_of}
use Rattle.made_replay.proofs.Adding.{IsOnTheWay}
use Rattle.made_replay.proofs.boot.add_boot.Given as goal

-- some controllers went through the boot and were added up, and the others have their flashes
abbrev pub invariant-loop-own : goal.invariant-loop-own
invariant-loop-own l =
    IsOnTheWay (plan_of l.plan) l.boot (map (map lab_state) l.fn.flashes) (map (map lab_state) l.rest)
    (map (map lab_state) l.left.flashes) l.fn.sums l.sums l.left.bad_blocks

abbrev pub decreases-loop-own : goal.decreases-loop-own
decreases-loop-own l = length l.rest
