use Rattle.std.proofs.Common.{◌≡◌, ◌+◌}
use Rattle.std.specs.Prelude.{sum_by}
use Rattle.std.specs.VecDeque.Iter.{deque_iter_rest}
use Rattle.plan_text.specs.Counts.{weak_lines}
use Rattle.plan_text.proofs.counts.weak_of_chips.Given as goal

-- the lines so far and those of the chips that are left are all of them
abbrev pub invariant-loop-chip : goal.invariant-loop-chip
invariant-loop-chip l = l.count + sum_by (weak_lines l.kind) (deque_iter_rest l.chip-iterator) ≡ sum_by (weak_lines l.kind) l.chips
