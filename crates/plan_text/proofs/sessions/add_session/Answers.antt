use Rattle.std.proofs.Common.{◌∙◌, ap, subst, sym}
use Rattle.std.specs.Prelude.{All}
use Rattle.std.proofs.lemmas.List.{nil_from_length}
use Rattle.std.specs.VecDeque.Iter.{deque_iter_rest}
use Rattle.plan_grammar.specs.Meaning.{command_of}
use Rattle.plan_text.specs.Plan.{HasSmallDevice}
use Rattle.plan_text.specs.Boot.{with_sessions}
use Rattle.plan_text.proofs.Mapped.{all_first, all_later}
use Rattle.plan_text.proofs.OwnSessions.{other_session, own_session, so_far_begins, so_far_end, so_far_more, so_far_some}
use Rattle.plan_text.proofs.sessions.add_session.Goals as goal

pub returns-then-session-controller : goal.returns-then-session-controller
returns-then-session-controller c =
    other_session c.args.draft.now c.args.controller c.args.number c.args.session.now c.args.boot.now c.if-session-controller.true

pub loop-line-init : goal.loop-line-init
loop-line-init c = record {
  so_far = so_far_begins (command_of c.args.draft.now) c.args.boot.now c.add_session.new.self c.args.number _ _ c.in_ok-add_session.ensures.ok
      c.into_iter-line-iterator.ensures.into_iter_gives;
  small = subst (All HasSmallDevice) (sym c.into_iter-line-iterator.ensures.into_iter_gives) c.requires.small;
}

pub command_of-requires : goal.command_of-requires
command_of-requires c =
    all_first HasSmallDevice _ (deque_iter_rest c.next.new.self) c.in-Some.line.now c.loop-line.invariant.small c.in-Some.ensures.steps

pub add_command-requires : goal.add_command-requires
add_command-requires c = so_far_some c.args.boot.now c.loop-line.boot c.args.number _ _ c.loop-line.invariant.so_far

pub loop-line-preserved : goal.loop-line-preserved
loop-line-preserved c = record {
  so_far = so_far_more (command_of c.args.draft.now) c.args.boot.now c.loop-line.boot c.add_command.new.boot c.args.number _
      (deque_iter_rest c.next.new.self) _ c.in-Some.line.now c.in_ok-command.command c.loop-line.invariant.so_far c.in-Some.ensures.steps
      c.in_ok-command.ensures c.in_ok-add_command.ensures;
  small = all_later HasSmallDevice _ (deque_iter_rest c.next.new.self) c.in-Some.line.now c.loop-line.invariant.small c.in-Some.ensures.steps;
}

pub returns : goal.returns
returns c =
    so_far_end (command_of c.args.draft.now) c.args.boot.now c.loop-line.boot c.args.number _ _ c.loop-line.invariant.so_far
    (nil_from_length (deque_iter_rest c.loop-line.line-iterator) c.in-None.ensures.steps.0)
    ∙ ap (with_sessions c.args.boot.now)
    (sym (own_session c.args.draft.now c.args.controller c.args.number c.args.session.now c.if-session-controller.false))
