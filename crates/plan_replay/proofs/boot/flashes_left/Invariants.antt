use Rattle.std.proofs.Common.{◌≡◌, ◌++◌, length, map}
use Rattle.onfi_bus.specs.Lab.{lab_state}
use Rattle.plan_replay.specs.Boots.{states_left}
use Rattle.plan_replay.proofs.boot.flashes_left.Given as goal

-- the flashes so far and those that are left make the whole
abbrev pub invariant-loop-ended : goal.invariant-loop-ended
invariant-loop-ended l = map (map lab_state) l.flashes ++ states_left l.rest ≡ states_left l.fn.ends

abbrev pub decreases-loop-ended : goal.decreases-loop-ended
decreases-loop-ended l = length l.rest
