use Rattle.std.proofs.Common.{◌≡◌, ◌++◌, take}
use Rattle.std.specs.Prelude.{flat_map}
use Rattle.plan_replay.specs.Boots.{devices_text}
use Rattle.plan_replay.proofs.devices.put_all_devices.Given as goal

-- the lines of the controllers so far stand at the end
abbrev pub invariant-loop-n : goal.invariant-loop-n
invariant-loop-n l = l.out ≡ l.initial.out ++ flat_map devices_text (take l.n l.ends)
