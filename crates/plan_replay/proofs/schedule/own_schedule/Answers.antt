use Rattle.std.proofs.Common.{◌<◌, ◌++◌, ◌∙◌, ℕ, Bool, length, ap, sym, subst}
use Rattle.std.specs.Prelude.{All, filter, ◌==◌}
use Rattle.std.specs.VecDeque.Iter.{deque_iter_rest}
use Rattle.plan_grammar.specs.Meaning.{plan_of}
use Rattle.plan_laws.specs.Ready.{boot_at}
use Rattle.plan_text.proofs.Mapped.{all_later}
use Rattle.headline_model.specs.Headline.{is_own, is_session_of}
use Rattle.plan_replay.proofs.Own.{own_turn_on}
use Rattle.plan_replay.proofs.Places.{good_boot, line_at}
use Rattle.plan_replay.proofs.schedule.own_schedule.Goals as goal

pub loop-session-init : goal.loop-session-init
loop-session-init c =
    let p : ℕ → Bool = is_own (boot_at (plan_of c.args.plan.now) c.args.boot) c.args.controller in
    let turns = c.into_iter-session-iterator.ensures.into_iter_gives ∙ c.schedule-session-items.ensures in
    record {
      whole = ap (λ o. o ++ filter p (deque_iter_rest c.into_iter-session-iterator.result)) c.new-own.ensures ∙ ap (filter p) turns;
      there = subst (All (λ s. s < length (boot_at (plan_of c.args.plan.now) c.args.boot).sessions)) (sym turns)
          (good_boot c.args.plan.now c.args.boot c.was_read.ensures c.requires).schedule;
    }

pub loop-session-preserved : goal.loop-session-preserved
loop-session-preserved c =
    let boot = boot_at (plan_of c.args.plan.now) c.args.boot in
    let at = line_at c.args.plan.now c.lines.result.now c.args.boot c.in-Some.session.now c.get.result.now c.get-in-loop-session.result.now c.lines.ensures
    c.get.ensures c.get-in-loop-session.ensures in
    record {
      whole = own_turn_on (is_own boot c.args.controller) c.loop-session.own c.add_own.new.own _ (deque_iter_rest c.next.new.self) _
          c.in-Some.session.now (c.get-in-loop-session.result.now.controller == c.args.controller) c.loop-session.invariant.whole c.in-Some.ensures.steps
          (ap (is_session_of c.args.controller) at) c.in_ok-add_own.ensures;
      there = all_later (λ s. s < length boot.sessions) _ (deque_iter_rest c.next.new.self) c.in-Some.session.now c.loop-session.invariant.there
          c.in-Some.ensures.steps;
    }
