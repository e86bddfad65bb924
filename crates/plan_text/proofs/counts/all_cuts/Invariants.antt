use Rattle.std.proofs.Common.{◌≡◌, ◌+◌}
use Rattle.std.specs.Prelude.{sum_by}
use Rattle.std.specs.VecDeque.Iter.{deque_iter_rest}
use Rattle.plan_text.specs.Counts.{cuts_of}
use Rattle.plan_text.proofs.counts.all_cuts.Given as goal

-- the lines so far and those of the boots that are left are all of them
abbrev pub invariant-loop-boot : goal.invariant-loop-boot
invariant-loop-boot l = l.count + sum_by cuts_of (deque_iter_rest l.boot-iterator) ≡ sum_by cuts_of l.boots
