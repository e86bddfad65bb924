use Rattle.std.proofs.Common.{◌≡◌, ◌<◌, ◌++◌, ◌∷◌, ◌∙◌, [], List, length, map, refl, ap, sym, subst, arith}
use Rattle.std.specs.Prelude.{IsSome}
use Rattle.nand_model.specs.Chip.{SimFaults}
use Rattle.run_model.specs.Course.{Course}
use Rattle.onfi_bus.specs.Lab.{lab_state}
use Rattle.plan_grammar.specs.Meaning.{plan_of}
use Rattle.plan_laws.specs.Ready.{HaveSizes, chips_at}
use Rattle.plan_text.proofs.WasRead.{limits_of}
use Rattle.plan_replay.specs.declared.controller.EndedController.{EndedController}
use Rattle.plan_replay.specs.Ends.{notes_text}
use Rattle.plan_replay.specs.Boots.{EndsBoot, notes_of}
use Rattle.plan_replay.proofs.Through.{AreOnTheWay, all_through, next_sizes, next_there, next_through, none_through}
use Rattle.plan_replay.proofs.boot.run_controllers.Goals as goal

pub loop-own-init : goal.loop-own-init
loop-own-init c =
    none_through (plan_of c.args.plan.now) c.args.boot (map (map lab_state) c.args.flashes) c.new-ends.result c.args.out.now c.new-ends.ensures

pub overflow_cast-controller : goal.overflow_cast-controller
overflow_cast-controller c =
    let there = next_there (plan_of c.args.plan.now) c.args.boot (map (map lab_state) c.args.flashes) (map (map lab_state) c.loop-own.rest)
    (map (map lab_state) c.take_first.new.self) (map lab_state c.in-Some.own) c.loop-own.ends
    c.args.out.now c.loop-own.out c.loop-own.invariant (ap (map (map lab_state)) c.in-Some.ensures.taken) c.requires.sizes in
    let few = (limits_of c.args.plan.now c.was_read.ensures).few_controllers in
    omega (arith, there, few, c.len-controller.ensures)

pub run_controller-requires-clause-controllers : goal.run_controller-requires-clause-controllers
run_controller-requires-clause-controllers c =
    let there = next_there (plan_of c.args.plan.now) c.args.boot (map (map lab_state) c.args.flashes) (map (map lab_state) c.loop-own.rest)
    (map (map lab_state) c.take_first.new.self) (map lab_state c.in-Some.own) c.loop-own.ends
    c.args.out.now c.loop-own.out c.loop-own.invariant (ap (map (map lab_state)) c.in-Some.ensures.taken) c.requires.sizes in
    omega (arith, there, c.len-controller.ensures)

pub run_controller-requires-clause-sizes : goal.run_controller-requires-clause-sizes
run_controller-requires-clause-sizes c =
    subst (λ k. HaveSizes (chips_at (plan_of c.args.plan.now) k) (map lab_state c.in-Some.own)) (sym c.len-controller.ensures)
    (next_sizes (plan_of c.args.plan.now) c.args.boot (map (map lab_state) c.args.flashes) (map (map lab_state) c.loop-own.rest)
    (map (map lab_state) c.take_first.new.self) (map lab_state c.in-Some.own) c.loop-own.ends
    c.args.out.now c.loop-own.out c.loop-own.invariant (ap (map (map lab_state)) c.in-Some.ensures.taken) c.requires.sizes)

pub loop-own-preserved : goal.loop-own-preserved
loop-own-preserved c =
    let ended : EndedController = c.in_ok-run_controller.field-0 in
    subst (λ es. AreOnTheWay (plan_of c.args.plan.now) c.args.boot (map (map lab_state) c.args.flashes) (map (map lab_state) c.take_first.new.self) es
    c.args.out.now c.run_controller.new.out) (sym c.in_ok-append.ensures.ok)
    (next_through (plan_of c.args.plan.now) c.args.boot (map (map lab_state) c.args.flashes) (map (map lab_state) c.loop-own.rest)
    (map (map lab_state) c.take_first.new.self) (map lab_state c.in-Some.own) c.loop-own.ends
    c.args.out.now c.loop-own.out c.loop-own.invariant (ap (map (map lab_state)) c.in-Some.ensures.taken) ended c.run_controller.new.out
    (subst (λ k. (course : Course SimFaults) × EndsBoot (plan_of c.args.plan.now) c.args.boot k (map lab_state c.in-Some.own) course ended)
    c.len-controller.ensures c.in_ok-run_controller.ensures.ends)
    (c.in_ok-run_controller.ensures.text ∙ ap (λ k. c.loop-own.out ++ notes_text k (notes_of ended)) c.len-controller.ensures))

-- a list without a first item
emptied : {A : Type 0} (xs : List A) → (0 < length xs → ⊥) → xs ≡ []
emptied [] h = refl
emptied (x ∷ xs) h = absurd (h (omega arith))

pub returns : goal.returns
returns c =
    let none : c.loop-own.rest ≡ [] = emptied c.loop-own.rest (λ h. let some = subst (λ o. IsSome o) c.in_default.is (c.take_first.ensures.some.1 h) in cc) in
    all_through (plan_of c.args.plan.now) c.args.boot (map (map lab_state) c.args.flashes) (map (map lab_state) c.loop-own.rest) c.loop-own.ends
    c.args.out.now c.loop-own.out c.loop-own.invariant (ap (map (map lab_state)) none) c.requires.sizes
