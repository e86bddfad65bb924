use Rattle.std.proofs.Common.{arith}
use Rattle.std.specs.Prelude.{sum_by}
use Rattle.std.specs.VecDeque.Iter.{deque_iter_rest}
use Rattle.plan_text.specs.Counts.{weak_lines}
use Rattle.plan_text.proofs.LineCounts.{sum_first}
use Rattle.plan_text.proofs.counts.all_weak.Goals as goal

pub overflow_add-count : goal.overflow_add-count
overflow_add-count c =
    omega (arith, sum_first (sum_by (weak_lines c.args.kind)) (deque_iter_rest c.loop-chips.chips-iterator) (deque_iter_rest c.next.new.self) c.in-Some.chips.now c.in-Some.ensures.steps)

pub loop-chips-preserved : goal.loop-chips-preserved
loop-chips-preserved c =
    omega (arith, sum_first (sum_by (weak_lines c.args.kind)) (deque_iter_rest c.loop-chips.chips-iterator) (deque_iter_rest c.next.new.self) c.in-Some.chips.now c.in-Some.ensures.steps)
