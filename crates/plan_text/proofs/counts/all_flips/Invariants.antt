use Rattle.std.proofs.Common.{◌≡◌, ◌+◌}
use Rattle.std.specs.Prelude.{sum_by}
use Rattle.std.specs.VecDeque.Iter.{deque_iter_rest}
use Rattle.plan_grammar.specs.Faults.{flips_of}
use Rattle.plan_text.proofs.counts.all_flips.Given as goal

-- the lines so far and those of the boots that are left are all of them
abbrev pub invariant-loop-boot : goal.invariant-loop-boot
invariant-loop-boot l = l.count + sum_by flips_of (deque_iter_rest l.boot-iterator) ≡ sum_by flips_of l.boots
