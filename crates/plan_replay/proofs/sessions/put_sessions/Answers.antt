use Rattle.std.proofs.Common.{◌≡◌, ◌+◌, ◌∙◌, get_or, refl, ap, sym, arith}
use Rattle.std.specs.Prelude.{slice_get}
use Rattle.std.proofs.lemmas.List.{get_or_read, length-set}
use Rattle.std.proofs.lemmas.Option.{slice_get_within}
use Rattle.plan_grammar.specs.Meaning.{plan_of, session_plan}
use Rattle.plan_laws.specs.Ready.{boot_at}
use Rattle.plan_replay.proofs.Own.{few_own}
use Rattle.plan_replay.proofs.Places.{end_at, ends_there, line_at, places_on, session_on}
use Rattle.plan_replay.proofs.sessions.put_sessions.Goals as goal

pub index-place-requires : goal.index-place-requires
index-place-requires c =
    let at = line_at c.args.plan.now c.lines.result.now c.args.boot c.loop-session.session c.get.result.now c.get-in-loop-session.result.now c.lines.ensures
    c.get.ensures c.get-in-loop-session.ensures in
    let there = ends_there c.args.plan.now c.args.boot c.loop-session.session c.get-in-loop-session.result.now c.args.ends.now c.was_read.ensures
    c.requires.boots at c.requires.ended in
    omega (arith, there, c.loop-session.invariant.many, c.loop-session.places.ok.0)

pub get-requires-in-loop-session-2 : goal.get-requires-in-loop-session-2
get-requires-in-loop-session-2 c =
    let at = line_at c.args.plan.now c.lines.result.now c.args.boot c.loop-session.session c.get.result.now c.get-in-loop-session.result.now c.lines.ensures
    c.get.ensures c.get-in-loop-session.ensures in
    let there = ends_there c.args.plan.now c.args.boot c.loop-session.session c.get-in-loop-session.result.now c.args.ends.now c.was_read.ensures
    c.requires.boots at c.requires.ended in
    there

pub get-end-requires : goal.get-end-requires
get-end-requires c =
    let at = line_at c.args.plan.now c.lines.result.now c.args.boot c.loop-session.session c.get.result.now c.get-in-loop-session.result.now c.lines.ensures
    c.get.ensures c.get-in-loop-session.ensures in
    let there = ends_there c.args.plan.now c.args.boot c.loop-session.session c.get-in-loop-session.result.now c.args.ends.now c.was_read.ensures
    c.requires.boots at c.requires.ended in
    let long = c.loop-session.invariant.many in
    let read : c.index-place.result.now ≡ get_or c.loop-session.places.items c.get-in-loop-session.result.now.controller 0 =
    get_or_read c.loop-session.places.items c.get-in-loop-session.result.now.controller c.index-place.result.now (omega (arith, there, long)) c.index-place.ensures 0 in
    let placed = read ∙ c.loop-session.invariant.placed c.get-in-loop-session.result.now.controller there in
    let end = end_at (plan_of c.args.plan.now) c.args.boot c.args.ends.now c.requires.ended c.loop-session.session (session_plan c.args.plan.now c.get-in-loop-session.result.now) at c.get-in-loop-session-2.result.now c.get-in-loop-session-2.ensures in
    let below = slice_get_within c.get-in-loop-session-2.result.now.outcomes _ _ end in
    omega (arith, placed, below)

pub overflow_add-place : goal.overflow_add-place
overflow_add-place c =
    let at = line_at c.args.plan.now c.lines.result.now c.args.boot c.loop-session.session c.get.result.now c.get-in-loop-session.result.now c.lines.ensures
    c.get.ensures c.get-in-loop-session.ensures in
    let there = ends_there c.args.plan.now c.args.boot c.loop-session.session c.get-in-loop-session.result.now c.args.ends.now c.was_read.ensures
    c.requires.boots at c.requires.ended in
    let long = c.loop-session.invariant.many in
    let read : c.index-place.result.now ≡ get_or c.loop-session.places.items c.get-in-loop-session.result.now.controller 0 =
    get_or_read c.loop-session.places.items c.get-in-loop-session.result.now.controller c.index-place.result.now (omega (arith, there, long)) c.index-place.ensures 0 in
    let placed = read ∙ c.loop-session.invariant.placed c.get-in-loop-session.result.now.controller there in
    let few = few_own c.get-in-loop-session.result.now.controller (boot_at (plan_of c.args.plan.now) c.args.boot).sessions c.loop-session.session
    (omega (arith, c.loop-session-test.true, c.sessions-session-end.ensures)) in
    omega (arith, placed, few, c.loop-session-test.true, c.sessions-session-end.type_inv)

pub index_mut-requires : goal.index_mut-requires
index_mut-requires c =
    let at = line_at c.args.plan.now c.lines.result.now c.args.boot c.loop-session.session c.get.result.now c.get-in-loop-session.result.now c.lines.ensures
    c.get.ensures c.get-in-loop-session.ensures in
    let there = ends_there c.args.plan.now c.args.boot c.loop-session.session c.get-in-loop-session.result.now c.args.ends.now c.was_read.ensures
    c.requires.boots at c.requires.ended in
    omega (arith, there, c.loop-session.invariant.many, c.loop-session.places.ok.0)

pub loop-session-preserved : goal.loop-session-preserved
loop-session-preserved c =
    let at = line_at c.args.plan.now c.lines.result.now c.args.boot c.loop-session.session c.get.result.now c.get-in-loop-session.result.now c.lines.ensures
    c.get.ensures c.get-in-loop-session.ensures in
    let there = ends_there c.args.plan.now c.args.boot c.loop-session.session c.get-in-loop-session.result.now c.args.ends.now c.was_read.ensures
    c.requires.boots at c.requires.ended in
    let long = c.loop-session.invariant.many in
    let read : c.index-place.result.now ≡ get_or c.loop-session.places.items c.get-in-loop-session.result.now.controller 0 =
    get_or_read c.loop-session.places.items c.get-in-loop-session.result.now.controller c.index-place.result.now (omega (arith, there, long)) c.index-place.ensures 0 in
    let placed = read ∙ c.loop-session.invariant.placed c.get-in-loop-session.result.now.controller there in
    record {
      printed = session_on (plan_of c.args.plan.now) c.args.boot c.args.ends.now c.requires.ended c.loop-session.session (session_plan c.args.plan.now c.get-in-loop-session.result.now) at c.args.out.now c.loop-session.out c.put_end.new.out
          c.get-in-loop-session-2.result.now c.get-end.result.now c.get-in-loop-session-2.ensures
          (ap (slice_get c.get-in-loop-session-2.result.now.outcomes) (sym placed) ∙ c.get-end.ensures) c.loop-session.invariant.printed c.in_ok-put_end.ensures;
      many = length-set c.loop-session.places.items c.get-in-loop-session.result.now.controller (c.index-place.result.now + 1) ∙ long;
      placed = places_on (plan_of c.args.plan.now) c.args.boot c.args.ends.now c.requires.ended c.loop-session.session (session_plan c.args.plan.now c.get-in-loop-session.result.now) at c.loop-session.places.items _ c.index-place.result.now long there
          c.loop-session.invariant.placed read refl;
    }
