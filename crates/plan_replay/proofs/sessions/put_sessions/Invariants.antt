use Rattle.std.proofs.Common.{◌≡◌, ◌<◌, ◌++◌, ℕ, length, map, take, get_or}
use Rattle.plan_model.specs.Plan.{sessions_from}
use Rattle.report_model.specs.Report.{session_lines}
use Rattle.plan_grammar.specs.Meaning.{plan_of}
use Rattle.plan_laws.specs.Ready.{boot_at}
use Rattle.plan_replay.specs.Boots.{notes_of}
use Rattle.plan_replay.proofs.sessions.put_sessions.Given as goal

-- the lines of the sessions so far stand at the end, and each controller's place is the number of
-- its own among them
abbrev pub invariant-loop-session : goal.invariant-loop-session
invariant-loop-session l = record {
  printed : l.out ≡ l.initial.out ++ session_lines (plan_of l.plan) 0 (take l.session (boot_at (plan_of l.plan) l.boot).sessions) (map notes_of l.ends);
  many : length l.places.items ≡ length l.ends;
  placed : (c : ℕ) → c < length l.ends
      → get_or l.places.items c 0 ≡ length (sessions_from c 0 (take l.session (boot_at (plan_of l.plan) l.boot).sessions));
}
