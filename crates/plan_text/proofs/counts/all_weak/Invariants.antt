use Rattle.std.proofs.Common.{◌≡◌, ◌+◌}
use Rattle.std.specs.Prelude.{sum_by}
use Rattle.std.specs.VecDeque.Iter.{deque_iter_rest}
use Rattle.plan_text.specs.Counts.{weak_lines}
use Rattle.plan_text.proofs.counts.all_weak.Given as goal

-- the lines so far and those of the controllers that are left are all of them
abbrev pub invariant-loop-chips : goal.invariant-loop-chips
invariant-loop-chips l = l.count + sum_by (sum_by (weak_lines l.kind)) (deque_iter_rest l.chips-iterator) ≡ sum_by (sum_by (weak_lines l.kind)) l.controllers
