use Rattle.std.proofs.Common.{◌≡◌, ◌<◌, ◌++◌, ◌∷◌, [], List, length, map, refl, ap, sym, ◌∙◌, subst, arith}
use Rattle.std.specs.Prelude.{IsSome}
use Rattle.std.proofs.lemmas.List.{length-map, map_push}
use Rattle.onfi_bus.specs.Lab.{lab_state}
use Rattle.plan_grammar.specs.Meaning.{plan_of}
use Rattle.plan_laws.specs.Ready.{HaveSizes, chips_at}
use Rattle.plan_text.proofs.WasRead.{limits_of}
use Rattle.made_plan.specs.Summary.{sums_of}
use Rattle.made_replay.proofs.Adding.{IsOnTheWay, all_added, few_bad, next_added, next_fits, next_is, none_added}
use Rattle.made_replay.proofs.boot.add_boot.Goals as goal

pub loop-own-init : goal.loop-own-init
loop-own-init c =
    none_added (plan_of c.args.plan.now) c.args.boot (map (map lab_state) c.args.flashes) (map (map lab_state) c.new.result) c.args.sums.now
    (ap (map (map lab_state)) c.new.ensures)

pub overflow_cast-controller : goal.overflow_cast-controller
overflow_cast-controller c =
    let there = next_is (plan_of c.args.plan.now) c.args.boot (map (map lab_state) c.args.flashes) (map (map lab_state) c.loop-own.rest)
    (map (map lab_state) c.take_first.new.self) (map (map lab_state) c.loop-own.left.flashes) (map lab_state c.in-Some.own) c.args.sums.now
    c.loop-own.sums c.loop-own.left.bad_blocks c.loop-own.invariant (ap (map (map lab_state)) c.in-Some.ensures.taken) c.requires.sizes in
    let few = (limits_of c.args.plan.now c.was_read.ensures).few_controllers in
    omega (arith, there, few, c.len-controller.ensures, length-map c.loop-own.left.flashes (map lab_state))

pub go_through-requires-clause-controllers : goal.go_through-requires-clause-controllers
go_through-requires-clause-controllers c =
    let there = next_is (plan_of c.args.plan.now) c.args.boot (map (map lab_state) c.args.flashes) (map (map lab_state) c.loop-own.rest)
    (map (map lab_state) c.take_first.new.self) (map (map lab_state) c.loop-own.left.flashes) (map lab_state c.in-Some.own) c.args.sums.now
    c.loop-own.sums c.loop-own.left.bad_blocks c.loop-own.invariant (ap (map (map lab_state)) c.in-Some.ensures.taken) c.requires.sizes in
    omega (arith, there, c.len-controller.ensures, length-map c.loop-own.left.flashes (map lab_state))

pub go_through-requires-clause-sizes : goal.go_through-requires-clause-sizes
go_through-requires-clause-sizes c =
    subst (λ k. HaveSizes (chips_at (plan_of c.args.plan.now) k) (map lab_state c.in-Some.own))
    (length-map c.loop-own.left.flashes (map lab_state) ∙ sym c.len-controller.ensures)
    (next_fits (plan_of c.args.plan.now) c.args.boot (map (map lab_state) c.args.flashes) (map (map lab_state) c.loop-own.rest)
    (map (map lab_state) c.take_first.new.self) (map (map lab_state) c.loop-own.left.flashes) (map lab_state c.in-Some.own) c.args.sums.now
    c.loop-own.sums c.loop-own.left.bad_blocks c.loop-own.invariant (ap (map (map lab_state)) c.in-Some.ensures.taken) c.requires.sizes)

pub bad_with-requires : goal.bad_with-requires
bad_with-requires c =
    few_bad (plan_of c.args.plan.now) c.args.boot (map (map lab_state) c.args.flashes) (map (map lab_state) c.loop-own.rest)
    (map (map lab_state) c.take_first.new.self) (map (map lab_state) c.loop-own.left.flashes) (map lab_state c.in-Some.own) c.args.sums.now
    c.loop-own.sums c.loop-own.left.bad_blocks c.loop-own.invariant (ap (map (map lab_state)) c.in-Some.ensures.taken) c.requires.sizes
    (limits_of c.args.plan.now c.was_read.ensures).few_controllers

pub loop-own-preserved : goal.loop-own-preserved
loop-own-preserved c =
    subst (IsOnTheWay (plan_of c.args.plan.now) c.args.boot (map (map lab_state) c.args.flashes) (map (map lab_state) c.take_first.new.self)
    (map (map lab_state) c.append.new.self) c.args.sums.now c.add_notes.new.self) (sym c.bad_with.ensures.sum)
    (next_added (plan_of c.args.plan.now) c.args.boot (map (map lab_state) c.args.flashes) (map (map lab_state) c.loop-own.rest)
    (map (map lab_state) c.take_first.new.self) (map (map lab_state) c.loop-own.left.flashes) (map lab_state c.in-Some.own) c.args.sums.now
    c.loop-own.sums c.loop-own.left.bad_blocks c.loop-own.invariant (ap (map (map lab_state)) c.in-Some.ensures.taken) c.requires.sizes
    c.in_ok-ended.ended _ c.add_notes.new.self c.len-controller.result
    (c.len-controller.ensures ∙ sym (length-map c.loop-own.left.flashes (map lab_state))) c.in_ok-ended.ensures.ends
    (ap (map (map lab_state)) c.in_ok-append.ensures.ok ∙ map_push (map lab_state) c.loop-own.left.flashes c.in_ok-ended.ended.flashes)
    (λ earlier same. c.add_notes.ensures earlier same ∙ ap (λ notes. sums_of (earlier ++ notes)) c.in_ok-ended.ensures.notes)
    c.bad_with.ensures.few)

-- a list without a first item
emptied : {A : Type 0} (xs : List A) → (0 < length xs → ⊥) → xs ≡ []
emptied [] h = refl
emptied (x ∷ xs) h = absurd (h (omega arith))

pub returns : goal.returns
returns c =
    let none : c.loop-own.rest ≡ [] = emptied c.loop-own.rest (λ h. let some = subst (λ o. IsSome o) c.in_default.is (c.take_first.ensures.some.1 h) in cc) in
    all_added (plan_of c.args.plan.now) c.args.boot (map (map lab_state) c.args.flashes) (map (map lab_state) c.loop-own.rest)
    (map (map lab_state) c.loop-own.left.flashes) c.args.sums.now c.loop-own.sums c.loop-own.left.bad_blocks c.loop-own.invariant
    (ap (map (map lab_state)) none) c.requires.sizes
