use Rattle.std.proofs.Common.{◌≡◌, ◌+◌, ltb, Some, refl, sym, ap, ◌∙◌, subst, arith}
use Rattle.std.specs.Option.{option_copied}
use Rattle.std.proofs.lemmas.Bool.{ltb-true}
use Rattle.plan_grammar.specs.declared.kind.PlanKind.TheVariants.{TooLarge}
use Rattle.plan_grammar.specs.declared.lines.PlanLines.{PlanLines}
use Rattle.plan_grammar.specs.Rules.{last_of}
use Rattle.plan_store.specs.FlipCount.{AreFlips}
use Rattle.plan_index.specs.Data.{AreData}
use Rattle.plan_costs.specs.Costs.{AreCosts}
use Rattle.plan_costs.proofs.Boots.{costs_kept}
use Rattle.plan_store.specs.SessionCount.{HaveFewSessions}
use Rattle.plan_store.specs.Hardware.{HardwareInStep}
use Rattle.plan_store.proofs.ChipsAt.{small_numbers_of, some_item}
use Rattle.plan_store.proofs.FlipCounts.{flips_fault}
use Rattle.plan_store.proofs.SessionCounts.{few_kept}
use Rattle.plan_store.proofs.Found.{rule_true}
use Rattle.plan_store.proofs.draft.PlanDraft.add_flip.Goals as goal

pub overflow_cast-flip : goal.overflow_cast-flip
overflow_cast-flip c =
    let small = small_numbers_of c.draft.inside.lines c.draft.inside.hardware c.args.flip.controller c.args.flip.chip
    c.in_ok-named.named.now c.draft.invariant.hardware (sym c.chip_at.ensures ∙ ap option_copied c.in_ok-named.ensures.ok_part) in
    omega (arith, small.1)

pub overflow_cast-fault : goal.overflow_cast-fault
overflow_cast-fault c =
    let small = small_numbers_of c.draft.inside.lines c.draft.inside.hardware c.args.flip.controller c.args.flip.chip
    c.in_ok-named.named.now c.draft.invariant.hardware (sym c.chip_at.ensures ∙ ap option_copied c.in_ok-named.ensures.ok_part) in
    omega (arith, small.0)

pub invariant_of-draft : goal.invariant_of-draft
invariant_of-draft c =
    let some = some_item (last_of c.args.self.boots) c.requires in
    let last = subst (λ (plan : PlanLines). last_of plan.boots ≡ Some some.0) (sym c.draft.view_is) some.1 in
    let room = ltb-true c.draft.inside.flips 65536 (rule_true (ltb c.draft.inside.flips 65536) TooLarge c.in_ok-rule-2.field-0 (sym c.in_ok-rule-2.ensures)) in
    record {
      hardware = subst (λ (plan : PlanLines). HardwareInStep plan.controllers c.draft.inside.hardware) (sym c.in_ok-add_fault.ensures) c.draft.invariant.hardware;
      flips = subst (λ (plan : PlanLines). AreFlips plan.boots (c.draft.inside.flips + 1)) (sym c.in_ok-add_fault.ensures)
          (flips_fault c.draft.inside.lines.boots c.draft.inside.flips (c.draft.inside.flips + 1) some.0 _ last
          refl (omega (arith, room)) c.draft.invariant.flips);
      sessions = subst (λ (plan : PlanLines). HaveFewSessions plan.boots) (sym c.in_ok-add_fault.ensures)
          (few_kept c.draft.inside.lines.boots _ (λ boot. refl) c.draft.invariant.sessions);
      payloads = subst (λ (plan : PlanLines). AreData plan.payloads c.draft.inside.data) (sym c.in_ok-add_fault.ensures) c.draft.invariant.payloads;
      costs = subst (λ (plan : PlanLines). AreCosts plan c.draft.inside.costs) (sym c.in_ok-add_fault.ensures)
          (costs_kept c.draft.inside.lines c.draft.inside.costs some.0 _ last (λ boot. refl) c.draft.invariant.costs);
    }
