use Rattle.std.proofs.Common.{◌∙◌}
use Rattle.std.specs.VecDeque.Iter.{deque_iter_rest}
use Rattle.plan_text.proofs.OwnFlips.{flips_more}
use Rattle.plan_text.proofs.faults.flips_for.Goals as goal

pub loop-line-preserved : goal.loop-line-preserved
loop-line-preserved c = record {
  flips =
      flips_more c.args.controller c.loop-line.flips.flips c.add_flip.new.flips.flips _ _ (deque_iter_rest c.next.new.self) c.in-Some.line.now
      c.loop-line.invariant.flips c.in-Some.ensures.steps c.in_ok-add_flip.ensures.flips;
  uncut = c.add_flip.ensures.cut ∙ c.loop-line.invariant.uncut;
}
