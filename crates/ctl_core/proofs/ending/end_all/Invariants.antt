use Rattle.std.proofs.Common.{◌≡◌, length}
use Rattle.ctl_core.specs.Ended.{ends_beside}
use Rattle.ctl_core.proofs.ending.end_all.Given as goal

-- the sessions so far have ended
abbrev pub invariant-loop-session : goal.invariant-loop-session
invariant-loop-session l = record { ended : l.ends ≡ ends_beside l.boot.sessions l.notes.notes l.yielded; many : length l.ends ≡ length l.yielded }
