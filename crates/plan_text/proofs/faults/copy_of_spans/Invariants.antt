use Rattle.std.proofs.Common.{◌≡◌, ◌++◌}
use Rattle.std.specs.VecDeque.Iter.{deque_iter_rest}
use Rattle.plan_text.proofs.faults.copy_of_spans.Given as goal

-- the spans so far and what is left make the whole
abbrev pub invariant-loop-span : goal.invariant-loop-span
invariant-loop-span l = l.copy ++ deque_iter_rest l.span-iterator ≡ l.spans
