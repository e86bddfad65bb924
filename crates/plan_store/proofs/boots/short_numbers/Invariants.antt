use Rattle.std.proofs.Common.{◌≡◌, ◌++◌, true, nat_lt}
use Rattle.std.specs.List.{list_all}
use Rattle.std.specs.VecDeque.Iter.{deque_iter_rest}
use Rattle.plan_store.proofs.boots.short_numbers.Given as goal

-- the numbers so far and those that are left are all of them, and small
abbrev pub invariant-loop-number : goal.invariant-loop-number
invariant-loop-number l =
    (l.short ++ deque_iter_rest l.number-iterator ≡ l.numbers)
    × (list_all (λ s. nat_lt s 64) (deque_iter_rest l.number-iterator) ≡ true)
