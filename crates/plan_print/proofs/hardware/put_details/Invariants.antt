use Rattle.std.proofs.Common.{◌≡◌, ◌++◌}
use Rattle.std.specs.VecDeque.Iter.{deque_iter_rest}
use Rattle.std.specs.Prelude.{map}
use Rattle.plan_grammar.specs.Canonical.{detail_words}
use Rattle.plan_print.specs.Lines.{text_of}
use Rattle.plan_print.proofs.hardware.put_details.Given as goal

-- the text so far and what is left make the whole
abbrev pub invariant-loop-detail : goal.invariant-loop-detail
invariant-loop-detail l =
    l.out ++ text_of (map detail_words (deque_iter_rest l.detail-iterator))
    ≡ l.initial.out ++ text_of (map detail_words l.details)
