use Rattle.std.proofs.Common.{◌≡◌, ◌+◌}
use Rattle.std.specs.VecDeque.Iter.{deque_iter_rest}
use Rattle.plan_text.specs.Boot.{devices_on}
use Rattle.plan_text.proofs.parts.devices_on.Given as goal

-- the devices so far and those of the chips that are left are all of them
abbrev pub invariant-loop-chip : goal.invariant-loop-chip
invariant-loop-chip l = l.count + devices_on (deque_iter_rest l.chip-iterator) ≡ devices_on l.chips
