use Rattle.std.proofs.Common.{◌≡◌, ℕ, ◌++◌, Bor, true, false, not, length, map, sym, ap, ◌∙◌, subst, arith, length-set}
use Rattle.std.proofs.lemmas.List.{map_push}
use Rattle.std.proofs.lemmas.Iterator.Consumers.{YieldsList-from_deque, YieldsList-turn, YieldsList-so_far, YieldsList-end}
use Rattle.plan_grammar.specs.Devices.{are_different, has_number}
use Rattle.plan_index.specs.Places.{Tells, flag_at}
use Rattle.plan_index.proofs.Turns.{turn_splits}
use Rattle.plan_index.proofs.Places.{below_at, place_taken, place_refused}
use Rattle.plan_index.proofs.marks.take_places.Goals as goal

pub take_place-requires : goal.take_place-requires
take_place-requires c =
    let road = YieldsList-from_deque c.args.places.now c.into_iter-place-iterator.ensures.into_iter_gives in
    let turn = YieldsList-turn road c.loop-place.yielded _ c.loop-place.yielded_by _ _ c.in-Some.place c.in-Some.is c.next.ensures.steps in
    let small = below_at c.args.places.now (length c.args.flags.now) (length c.loop-place.yielded) c.in-Some.place.now c.requires turn.0 turn.1 in
    omega (arith, small, c.loop-place.invariant.0)

pub returns-then-not-take_place : goal.returns-then-not-take_place
returns-then-not-take_place c = λ xs tells different.
    let road = YieldsList-from_deque c.args.places.now c.into_iter-place-iterator.ensures.into_iter_gives in
    let turn = YieldsList-turn road c.loop-place.yielded _ c.loop-place.yielded_by _ _ c.in-Some.place c.in-Some.is c.next.ensures.steps in
    let front = YieldsList-so_far road c.loop-place.yielded _ c.loop-place.yielded_by in
    let split = turn_splits (λ (p : Bor ℕ). p.now) c.args.places.now c.loop-place.yielded c.in-Some.place front turn in
    let so_far = c.loop-place.invariant.1 xs tells different in
    let refused : not (flag_at c.loop-place.flags c.in-Some.place.now) ≡ false = sym c.take_place.ensures.free ∙ c.if-not-take_place.true in
    (sym (place_refused xs (map (λ (p : Bor ℕ). p.now) c.loop-place.yielded) c.args.places.now c.in-Some.place.now _ c.loop-place.flags (length c.args.flags.now) so_far.0 refused split), tt)

pub loop-place-preserved : goal.loop-place-preserved
loop-place-preserved c =
    let road = YieldsList-from_deque c.args.places.now c.into_iter-place-iterator.ensures.into_iter_gives in
    let turn = YieldsList-turn road c.loop-place.yielded _ c.loop-place.yielded_by _ _ c.in-Some.place c.in-Some.is c.next.ensures.steps in
    let small = below_at c.args.places.now (length c.args.flags.now) (length c.loop-place.yielded) c.in-Some.place.now c.requires turn.0 turn.1 in
    let free : not (flag_at c.loop-place.flags c.in-Some.place.now) ≡ true = sym c.take_place.ensures.free ∙ c.if-not-take_place.false in (
      ap length c.take_place.ensures.taken ∙ length-set c.loop-place.flags c.in-Some.place.now true ∙ c.loop-place.invariant.0,
      λ xs tells different.
          let so_far = c.loop-place.invariant.1 xs tells different in
          subst (λ ys. Tells c.take_place.new.flags (length c.args.flags.now) (has_number (xs ++ ys)) × (are_different (xs ++ ys) ≡ true)) (sym (map_push (λ (p : Bor ℕ). p.now) c.loop-place.yielded c.in-Some.place))
          (place_taken xs (map (λ (p : Bor ℕ). p.now) c.loop-place.yielded) c.in-Some.place.now c.loop-place.flags c.take_place.new.flags (length c.args.flags.now) so_far.0 so_far.1 free small c.take_place.ensures.taken),
    )

pub returns : goal.returns
returns c = λ xs tells different.
    let road = YieldsList-from_deque c.args.places.now c.into_iter-place-iterator.ensures.into_iter_gives in
    let over = YieldsList-end road c.loop-place.yielded _ c.loop-place.yielded_by _ _ c.in-None.is c.next.ensures.steps in
    let so_far = c.loop-place.invariant.1 xs tells different in
    let all' = subst (λ ys. Tells c.loop-place.flags (length c.args.flags.now) (has_number (xs ++ ys)) × (are_different (xs ++ ys) ≡ true)) over.0 so_far in
    (sym all'.1, all'.0)
