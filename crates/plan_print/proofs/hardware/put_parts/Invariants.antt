use Rattle.std.proofs.Common.{◌≡◌, ◌++◌}
use Rattle.std.specs.VecDeque.Iter.{deque_iter_rest}
use Rattle.std.specs.Prelude.{map}
use Rattle.plan_grammar.specs.Canonical.{part_words}
use Rattle.plan_print.specs.Lines.{text_of}
use Rattle.plan_print.proofs.hardware.put_parts.Given as goal

-- the text so far and what is left make the whole
abbrev pub invariant-loop-part : goal.invariant-loop-part
invariant-loop-part l =
    l.out ++ text_of (map part_words (deque_iter_rest l.part-iterator))
    ≡ l.initial.out ++ text_of (map part_words l.parts)
