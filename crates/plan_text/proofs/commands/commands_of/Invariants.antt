use Rattle.std.proofs.Common.{◌≡◌, ◌++◌, map}
use Rattle.std.specs.VecDeque.Iter.{deque_iter_rest}
use Rattle.std.specs.Prelude.{All}
use Rattle.plan_grammar.specs.Meaning.{command_of}
use Rattle.plan_text.specs.Plan.{HasSmallDevice}
use Rattle.plan_text.proofs.commands.commands_of.Given as goal

-- the commands so far and what is left make the whole
abbrev pub invariant-loop-line : goal.invariant-loop-line
invariant-loop-line l = record {
  whole : l.commands ++ map (command_of l.draft) (deque_iter_rest l.line-iterator) ≡ map (command_of l.draft) l.lines;
  small : All HasSmallDevice (deque_iter_rest l.line-iterator);
}
