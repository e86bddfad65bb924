use Rattle.std.proofs.Common.{◌≡◌, ◌≤◌, ◌-◌, ℕ, List, length, Some}
use Rattle.std.specs.Prelude.{slice_get}
use Rattle.nand_model.specs.declared.words.Command.{Command}
use Rattle.session_steps.specs.declared.session.Session.{Session}
use Rattle.ctl_core.specs.Sessions.{HasNotBegun}
use Rattle.ctl_core.proofs.starting.first_sessions.Given as goal

abbrev pub invariant-loop-number : goal.invariant-loop-number
invariant-loop-number l = record {
  within : length l.sessions.items ≤ length l.boot.sessions;
  each : (i : ℕ) (b : ℕ × List Command) (s : Session) → slice_get l.boot.sessions i ≡ Some b → slice_get l.sessions.items i ≡ Some s → HasNotBegun b.0 s;
}

abbrev pub decreases-loop-number : goal.decreases-loop-number
decreases-loop-number l = length l.boot.sessions - length l.sessions.items
