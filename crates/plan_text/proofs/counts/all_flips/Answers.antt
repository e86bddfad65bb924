use Rattle.std.proofs.Common.{arith}
use Rattle.std.specs.VecDeque.Iter.{deque_iter_rest}
use Rattle.plan_grammar.specs.Faults.{flips_of}
use Rattle.plan_text.proofs.LineCounts.{sum_first}
use Rattle.plan_text.proofs.counts.all_flips.Goals as goal

pub overflow_add-count : goal.overflow_add-count
overflow_add-count c =
    omega (arith, sum_first flips_of (deque_iter_rest c.loop-boot.boot-iterator) (deque_iter_rest c.next.new.self) c.in-Some.boot.now c.in-Some.ensures.steps)

pub loop-boot-preserved : goal.loop-boot-preserved
loop-boot-preserved c =
    omega (arith, sum_first flips_of (deque_iter_rest c.loop-boot.boot-iterator) (deque_iter_rest c.next.new.self) c.in-Some.boot.now c.in-Some.ensures.steps)
