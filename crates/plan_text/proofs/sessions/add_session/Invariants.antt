use Rattle.std.proofs.Common.{map}
use Rattle.std.specs.Prelude.{All}
use Rattle.std.specs.VecDeque.Iter.{deque_iter_rest}
use Rattle.plan_grammar.specs.Meaning.{command_of}
use Rattle.plan_text.specs.Plan.{HasSmallDevice}
use Rattle.plan_text.proofs.OwnSessions.{IsSoFar}
use Rattle.plan_text.proofs.sessions.add_session.Given as goal

-- the session has the commands of the lines so far
abbrev pub invariant-loop-line : goal.invariant-loop-line
invariant-loop-line l = record {
  so_far : IsSoFar l.fn.boot l.boot l.number (map (command_of l.draft) (deque_iter_rest l.line-iterator))
      (map (command_of l.draft) l.session.commands);
  small : All HasSmallDevice (deque_iter_rest l.line-iterator);
}
