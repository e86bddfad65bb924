use Rattle.std.proofs.Common.{◌≡◌, ◌++◌}
use Rattle.std.specs.VecDeque.Iter.{deque_iter_rest}
use Rattle.std.specs.Prelude.{map}
use Rattle.plan_grammar.specs.Canonical.{data_words}
use Rattle.plan_print.specs.Lines.{text_of}
use Rattle.plan_print.proofs.payloads.put_payloads.Given as goal

-- the text so far and what is left make the whole
abbrev pub invariant-loop-payload : goal.invariant-loop-payload
invariant-loop-payload l =
    l.out ++ text_of (map data_words (deque_iter_rest l.payload-iterator))
    ≡ l.initial.out ++ text_of (map data_words l.payloads)
