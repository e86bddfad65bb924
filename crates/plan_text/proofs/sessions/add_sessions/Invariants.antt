use Rattle.std.proofs.Common.{◌≡◌, ◌+◌, length}
use Rattle.std.specs.Prelude.{All}
use Rattle.std.specs.VecDeque.Iter.{deque_iter_rest}
use Rattle.plan_text.specs.Boot.{AreBelow, AreSmall, sessions_for, with_sessions}
use Rattle.plan_text.proofs.sessions.add_sessions.Given as goal

-- the sessions so far and what is left make the whole
abbrev pub invariant-loop-session : goal.invariant-loop-session
invariant-loop-session l = record {
  whole : with_sessions l.boot (sessions_for l.draft l.controller l.number (deque_iter_rest l.session-iterator))
      ≡ with_sessions l.fn.boot (sessions_for l.draft l.controller 0 l.sessions);
  below : AreBelow l.number l.boot.sessions;
  small : All AreSmall (deque_iter_rest l.session-iterator);
  count : l.number + length (deque_iter_rest l.session-iterator) ≡ length l.sessions;
}
