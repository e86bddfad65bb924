use Rattle.std.proofs.Common.{◌≡◌, ◌++◌}
use Rattle.std.specs.VecDeque.Iter.{deque_iter_rest}
use Rattle.std.specs.Prelude.{flat_map}
use Rattle.plan_grammar.specs.Canonical.{session_lines}
use Rattle.plan_print.specs.Lines.{text_of}
use Rattle.plan_print.proofs.boots.put_sessions.Given as goal

-- the text so far and what is left make the whole
abbrev pub invariant-loop-session : goal.invariant-loop-session
invariant-loop-session l =
    l.out ++ text_of (flat_map session_lines (deque_iter_rest l.session-iterator))
    ≡ l.initial.out ++ text_of (flat_map session_lines l.sessions)
