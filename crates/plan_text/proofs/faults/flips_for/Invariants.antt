use Rattle.std.proofs.Common.{◌≡◌, ◌++◌, None}
use Rattle.std.specs.VecDeque.Iter.{deque_iter_rest}
use Rattle.plan_text.specs.Boot.{flips_for}
use Rattle.plan_text.proofs.faults.flips_for.Given as goal

-- the flips so far and what is left make the whole
abbrev pub invariant-loop-line : goal.invariant-loop-line
invariant-loop-line l = record {
  flips : l.flips.flips ++ flips_for l.controller (deque_iter_rest l.line-iterator) ≡ flips_for l.controller l.lines;
  uncut : l.flips.cut ≡ None;
}
