use Rattle.std.specs.VecDeque.Iter.{deque_iter_rest}
use Rattle.plan_grammar.specs.Meaning.{command_of}
use Rattle.plan_text.specs.Plan.{HasSmallDevice}
use Rattle.plan_text.proofs.Mapped.{mapped_on, all_first, all_later}
use Rattle.plan_text.proofs.commands.commands_of.Goals as goal

pub command_of-requires : goal.command_of-requires
command_of-requires c =
    all_first HasSmallDevice _ (deque_iter_rest c.next.new.self) c.in-Some.line.now c.loop-line.invariant.small c.in-Some.ensures.steps

pub loop-line-preserved : goal.loop-line-preserved
loop-line-preserved c = record {
  whole = mapped_on (command_of c.args.draft.now) c.loop-line.commands c.append.new.self _ (deque_iter_rest c.next.new.self)
      c.in-Some.line.now c.in_ok-command_of.field-0 _ c.loop-line.invariant.whole c.in-Some.ensures.steps
      c.in_ok-command_of.ensures c.in_ok-append.ensures.ok;
  small = all_later HasSmallDevice _ (deque_iter_rest c.next.new.self) c.in-Some.line.now c.loop-line.invariant.small c.in-Some.ensures.steps;
}
