use Rattle.std.proofs.Common.{◌≡◌, ◌++◌}
use Rattle.std.specs.VecDeque.Iter.{deque_iter_rest}
use Rattle.std.specs.Prelude.{map}
use Rattle.plan_grammar.specs.Canonical.{fault_words}
use Rattle.plan_print.specs.Lines.{text_of}
use Rattle.plan_print.proofs.boots.put_faults.Given as goal

-- the text so far and what is left make the whole
abbrev pub invariant-loop-fault : goal.invariant-loop-fault
invariant-loop-fault l =
    l.out ++ text_of (map fault_words (deque_iter_rest l.fault-iterator))
    ≡ l.initial.out ++ text_of (map fault_words l.faults)
