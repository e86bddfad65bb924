use Rattle.std.proofs.Common.{◌≡◌}
use Rattle.std.specs.VecDeque.Iter.{deque_iter_rest}
use Rattle.plan_text.specs.Boot.{cut_for}
use Rattle.plan_text.proofs.faults.cut_for.Given as goal

-- the cut is among what is left
abbrev pub invariant-loop-line : goal.invariant-loop-line
invariant-loop-line l = cut_for l.controller (deque_iter_rest l.line-iterator) ≡ cut_for l.controller l.lines
