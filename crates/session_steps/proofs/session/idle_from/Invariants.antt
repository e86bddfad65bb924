use Rattle.std.proofs.Common.{◌≡◌, ◌+◌, drop}
use Rattle.session_steps.specs.Standing.{idle_first}
use Rattle.session_steps.proofs.session.idle_from.Given as goal

abbrev pub invariant-loop-place : goal.invariant-loop-place
invariant-loop-place l = idle_first (drop l.initial.from l.commands) + l.initial.from ≡ l.place + idle_first (drop l.place l.commands)
