use Rattle.std.proofs.Common.{List, length, ap, arith, subst, sym}
use Rattle.std.specs.Prelude.{All}
use Rattle.std.proofs.lemmas.List.{nil_from_length}
use Rattle.plan_grammar.specs.declared.lines.SessionLines.{SessionLines}
use Rattle.std.specs.VecDeque.Iter.{deque_iter_rest}
use Rattle.plan_text.specs.Boot.{AreSmall, sessions_for, with_sessions}
use Rattle.plan_text.proofs.Mapped.{all_first, all_later}
use Rattle.plan_text.proofs.OwnSessions.{below_more, below_none, sessions_end, sessions_more}
use Rattle.plan_text.proofs.sessions.add_sessions.Goals as goal

pub loop-session-init : goal.loop-session-init
loop-session-init c =
    let all = c.into_iter-session-iterator.ensures.into_iter_gives in
    let size = ap length all in
    record {
      whole = ap (λ (ss : List SessionLines). with_sessions c.args.boot.now (sessions_for c.args.draft.now c.args.controller 0 ss)) all;
      below = below_none c.args.boot.now c.requires.none_yet;
      small = subst (All AreSmall) (sym all) c.requires.small;
      count = omega (arith, size);
    }

pub add_session-requires-clause-small : goal.add_session-requires-clause-small
add_session-requires-clause-small c =
    all_first AreSmall _ (deque_iter_rest c.next.new.self) c.in-Some.session.now c.loop-session.invariant.small c.in-Some.ensures.steps

pub overflow_add-number : goal.overflow_add-number
overflow_add-number c =
    let size = ap length c.in-Some.ensures.steps in
    let count = c.loop-session.invariant.count in
    omega (arith, size, count, c.requires.few)

pub loop-session-preserved : goal.loop-session-preserved
loop-session-preserved c =
    let size = ap length c.in-Some.ensures.steps in
    let count = c.loop-session.invariant.count in
    record {
      whole = sessions_more c.args.draft.now c.args.controller c.loop-session.number c.loop-session.boot _ _ c.loop-session.invariant.whole
          (deque_iter_rest c.next.new.self) c.in-Some.session.now c.add_session.new.boot c.in-Some.ensures.steps c.in_ok-add_session.ensures;
      below = below_more c.args.draft.now c.args.controller c.loop-session.number c.in-Some.session.now c.loop-session.boot c.add_session.new.boot
          c.loop-session.invariant.below c.in_ok-add_session.ensures;
      small = all_later AreSmall _ (deque_iter_rest c.next.new.self) c.in-Some.session.now c.loop-session.invariant.small c.in-Some.ensures.steps;
      count = omega (arith, size, count);
    }

pub returns : goal.returns
returns c =
    sessions_end c.args.draft.now c.args.controller c.loop-session.number c.loop-session.boot _ _ c.loop-session.invariant.whole
    (nil_from_length (deque_iter_rest c.loop-session.session-iterator) c.in-None.ensures.steps.0)
