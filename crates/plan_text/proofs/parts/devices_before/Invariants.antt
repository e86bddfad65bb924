use Rattle.std.proofs.Common.{◌≡◌}
use Rattle.plan_text.specs.Boot.{devices_before}
use Rattle.plan_text.proofs.parts.devices_before.Given as goal

-- the devices of the controllers so far
abbrev pub invariant-loop-n : goal.invariant-loop-n
invariant-loop-n l = l.count ≡ devices_before l.n l.controllers
