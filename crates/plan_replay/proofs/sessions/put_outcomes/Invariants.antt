use Rattle.std.proofs.Common.{◌≡◌, ◌++◌, take}
use Rattle.report_model.specs.Report.{outcome_lines}
use Rattle.plan_grammar.specs.Meaning.{plan_of}
use Rattle.plan_text.specs.Plan.{session_at}
use Rattle.plan_replay.proofs.sessions.put_outcomes.Given as goal

-- the lines of the commands so far stand at the end
abbrev pub invariant-loop-n : goal.invariant-loop-n
invariant-loop-n l =
    l.out ≡ l.initial.out ++ outcome_lines (take l.n (session_at (plan_of l.plan) l.boot l.session).commands) (take l.n l.end.outcomes)
