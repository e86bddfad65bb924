use Rattle.std.proofs.Common.{◌≡◌, ◌++◌, take}
use Rattle.std.specs.Prelude.{flat_map}
use Rattle.plan_replay.specs.Ends.{device_text}
use Rattle.plan_replay.proofs.devices.put_devices.Given as goal

-- the lines of the devices so far stand at the end
abbrev pub invariant-loop-n : goal.invariant-loop-n
invariant-loop-n l = l.out ≡ l.initial.out ++ flat_map device_text (take l.n l.stats)
