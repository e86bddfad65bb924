use Rattle.std.proofs.Common.{arith}
use Rattle.std.specs.VecDeque.Iter.{deque_iter_rest}
use Rattle.plan_text.specs.Counts.{weak_lines}
use Rattle.plan_text.proofs.LineCounts.{sum_first}
use Rattle.plan_text.proofs.counts.weak_of_chips.Goals as goal

pub overflow_add-count : goal.overflow_add-count
overflow_add-count c =
    omega (arith, sum_first (weak_lines c.args.kind) (deque_iter_rest c.loop-chip.chip-iterator) (deque_iter_rest c.next.new.self) c.in-Some.chip.now c.in-Some.ensures.steps)

pub loop-chip-preserved : goal.loop-chip-preserved
loop-chip-preserved c =
    omega (arith, sum_first (weak_lines c.args.kind) (deque_iter_rest c.loop-chip.chip-iterator) (deque_iter_rest c.next.new.self) c.in-Some.chip.now c.in-Some.ensures.steps)
