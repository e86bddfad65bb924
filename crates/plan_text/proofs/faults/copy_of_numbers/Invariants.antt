use Rattle.std.proofs.Common.{◌≡◌, ◌++◌}
use Rattle.std.specs.VecDeque.Iter.{deque_iter_rest}
use Rattle.plan_text.proofs.faults.copy_of_numbers.Given as goal

-- the numbers so far and what is left make the whole
abbrev pub invariant-loop-number : goal.invariant-loop-number
invariant-loop-number l = l.copy ++ deque_iter_rest l.number-iterator ≡ l.numbers
