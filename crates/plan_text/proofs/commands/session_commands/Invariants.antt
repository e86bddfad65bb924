use Rattle.std.proofs.Common.{◌≡◌, ◌++◌, map}
use Rattle.std.specs.VecDeque.Iter.{deque_iter_rest}
use Rattle.std.specs.Prelude.{All}
use Rattle.plan_grammar.specs.declared.lines.SessionLines.{SessionLines}
use Rattle.plan_grammar.specs.Meaning.{command_of}
use Rattle.plan_text.specs.Plan.{HasSmallDevice, session_commands}
use Rattle.plan_text.proofs.commands.session_commands.Given as goal

-- the commands so far and what is left make the whole
abbrev pub invariant-loop-session : goal.invariant-loop-session
invariant-loop-session l = record {
  whole : l.commands
      ++ map (λ (session : SessionLines). map (command_of l.draft) session.commands) (deque_iter_rest l.session-iterator)
      ≡ session_commands l.draft l.boot;
  small : All (λ (session : SessionLines). All HasSmallDevice session.commands) (deque_iter_rest l.session-iterator);
}
