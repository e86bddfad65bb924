use Rattle.std.specs.VecDeque.Iter.{deque_iter_rest}
use Rattle.plan_text.specs.Plan.{HaveSmallDevices, session_commands}
use Rattle.plan_text.proofs.Mapped.{mapped_on, all_first, all_later}
use Rattle.plan_text.proofs.commands.all_commands.Goals as goal

pub session_commands-requires : goal.session_commands-requires
session_commands-requires c =
    all_first HaveSmallDevices _ (deque_iter_rest c.next.new.self) c.in-Some.boot.now c.loop-boot.invariant.small c.in-Some.ensures.steps

pub loop-boot-preserved : goal.loop-boot-preserved
loop-boot-preserved c = record {
  whole = mapped_on (session_commands c.args.draft.now) c.loop-boot.commands c.append.new.self _ (deque_iter_rest c.next.new.self)
      c.in-Some.boot.now c.in_ok-session_commands.field-0 _ c.loop-boot.invariant.whole c.in-Some.ensures.steps
      c.in_ok-session_commands.ensures c.in_ok-append.ensures.ok;
  small = all_later HaveSmallDevices _ (deque_iter_rest c.next.new.self) c.in-Some.boot.now c.loop-boot.invariant.small c.in-Some.ensures.steps;
}
