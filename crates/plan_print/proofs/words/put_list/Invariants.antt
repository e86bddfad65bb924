use Rattle.std.proofs.Common.{◌≡◌, ◌++◌}
use Rattle.std.specs.VecDeque.Iter.{deque_iter_rest}
use Rattle.plan_grammar.specs.Canonical.{decimals}
use Rattle.plan_print.specs.Lines.{behind_blanks}
use Rattle.plan_print.proofs.words.put_list.Given as goal

-- the text so far and what is left make the whole
abbrev pub invariant-loop-number : goal.invariant-loop-number
invariant-loop-number l =
    l.out ++ behind_blanks (decimals (deque_iter_rest l.number-iterator))
    ≡ l.initial.out ++ behind_blanks (decimals l.numbers)
