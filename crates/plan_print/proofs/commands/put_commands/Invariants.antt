use Rattle.std.proofs.Common.{◌≡◌, ◌++◌}
use Rattle.std.specs.VecDeque.Iter.{deque_iter_rest}
use Rattle.std.specs.Prelude.{map}
use Rattle.plan_grammar.specs.Canonical.{command_words}
use Rattle.plan_print.specs.Lines.{text_of}
use Rattle.plan_print.proofs.commands.put_commands.Given as goal

-- the text so far and what is left make the whole
abbrev pub invariant-loop-command : goal.invariant-loop-command
invariant-loop-command l =
    l.out ++ text_of (map command_words (deque_iter_rest l.command-iterator))
    ≡ l.initial.out ++ text_of (map command_words l.commands)
