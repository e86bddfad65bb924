use Rattle.std.proofs.Common.{◌<◌, ltb, length, List, [], ◌∷◌, ◌++◌, sym, ap, ◌∙◌, subst}
use Rattle.plan_grammar.specs.declared.lines.ChipLines.{ChipLines}
use Rattle.std.proofs.lemmas.Bool.{ltb-true}
use Rattle.plan_grammar.specs.declared.kind.PlanKind.TheVariants.{WrongPlace, TooLarge}
use Rattle.plan_costs.proofs.Boots.{costs_of_none}
use Rattle.plan_store.proofs.Found.{rule_true, beginning_none}
use Rattle.plan_store.specs.Hardware.{HardwareInStep}
use Rattle.plan_store.proofs.Controllers.{step_controller}
use Rattle.plan_store.proofs.draft.PlanDraft.controller_line.Goals as goal

pub invariant_of-draft : goal.invariant_of-draft
invariant_of-draft c =
    let old : List (List ChipLines) = c.draft.inside.lines.controllers in
    let room : length old < 8 = subst (λ n. n < 8) c.len.ensures (ltb-true c.len.result 8
    (rule_true (ltb c.len.result 8) TooLarge c.in_ok-rule-3.field-0 (sym c.in_ok-rule-3.ensures))) in
    record {
      flips = c.draft.invariant.flips;
      sessions = c.draft.invariant.sessions;
      payloads = c.draft.invariant.payloads;
      costs =
          let may = sym c.may_begin_controller.ensures ∙ rule_true c.may_begin_controller.result WrongPlace c.in_ok-rule.field-0 (sym c.in_ok-rule.ensures) in
          let none = beginning_none c.draft.inside.lines may in
          costs_of_none c.draft.inside.lines _ c.draft.inside.costs none none c.draft.invariant.costs;
      hardware = subst (λ (cs : List (List ChipLines)). HardwareInStep cs c.draft.inside.hardware)
          (sym (c.in_ok-append.ensures.ok ∙ ap (λ (new : List ChipLines). old ++ new ∷ []) c.new.ensures))
          (step_controller old c.draft.inside.hardware room c.draft.invariant.hardware);
    }
