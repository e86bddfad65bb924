use Rattle.std.proofs.Common.{◌≡◌, ◌+◌, ◌<◌, true, ltb, leb, refl, sym, ap, ◌∙◌, subst}
use Rattle.std.proofs.lemmas.Bool.{and_parts, leb-true, ltb-true}
use Rattle.plan_grammar.specs.declared.kind.PlanKind.TheVariants.{WrongPlace, TooLarge}
use Rattle.plan_grammar.specs.declared.lines.PlanLines.{PlanLines}
use Rattle.plan_grammar.specs.declared.lines.ChipLines.{ChipLines}
use Rattle.plan_grammar.specs.Limits.{most_chips, most_pages}
use Rattle.plan_grammar.specs.Rules.{last_of}
use Rattle.plan_store.specs.declared.hardware.HardwareIndex.{HardwareIndex}
use Rattle.plan_store.specs.FlipCount.{AreFlips}
use Rattle.plan_index.specs.Data.{AreData}
use Rattle.plan_costs.specs.Costs.{AreCosts}
use Rattle.plan_costs.proofs.Boots.{costs_of_none}
use Rattle.plan_store.specs.SessionCount.{HaveFewSessions}
use Rattle.plan_store.specs.Hardware.{HardwareInStep}
use Rattle.plan_store.proofs.Controllers.{step_chip}
use Rattle.plan_store.proofs.Found.{hardware_none, there_found, rule_true}
use Rattle.plan_store.proofs.draft.PlanDraft.chip_line.Goals as goal

pub invariant_of-result : goal.invariant_of-result
invariant_of-result c =
    let new : HardwareIndex = record {
      pages = c.self.inside.hardware.pages + c.page_count.result;
      marks = c.in_ok-hardware.field-0;
      devices = c.self.inside.hardware.devices;
    } in
    let chip : ChipLines = record { geometry = c.in_ok-geometry.geometry; details = c.new.result; parts = c.new-2.result } in
    let found = there_found (last_of c.self.inside.lines.controllers) WrongPlace c.in_ok-last_chips.field-0.now c.in_ok-last_chips.ensures in
    let fits : c.chip_fits.result ≡ true = rule_true c.chip_fits.result TooLarge c.in_ok-rule-3.field-0 (sym c.in_ok-rule-3.ensures) in
    let both = and_parts (ltb c.len-chips.result most_chips) (leb new.pages most_pages) (sym c.chip_fits.ensures ∙ fits) in
    record {
      flips = subst (λ (plan : PlanLines). AreFlips plan.boots c.self.inside.flips) (sym c.in_ok-add_chip.ensures) c.self.invariant.flips;
      sessions = subst (λ (plan : PlanLines). HaveFewSessions plan.boots) (sym c.in_ok-add_chip.ensures) c.self.invariant.sessions;
      payloads = subst (λ (plan : PlanLines). AreData plan.payloads c.self.inside.data) (sym c.in_ok-add_chip.ensures) c.self.invariant.payloads;
      costs =
          let none = hardware_none c.self.inside.lines (sym c.is_hardware.ensures ∙ rule_true c.is_hardware.result WrongPlace c.in_ok-rule.field-0 (sym c.in_ok-rule.ensures)) in
          subst (λ (plan : PlanLines). AreCosts plan c.self.inside.costs) (sym c.in_ok-add_chip.ensures)
          (costs_of_none c.self.inside.lines _ c.self.inside.costs none none c.self.invariant.costs);
      hardware = subst (λ (plan : PlanLines). HardwareInStep plan.controllers new) (sym c.in_ok-add_chip.ensures)
          (step_chip c.self.inside.lines.controllers c.self.inside.hardware new c.in_ok-last_chips.field-0.now chip
          c.self.invariant.hardware found c.new-2.ensures (subst (λ n. n < most_chips) c.len-chips.ensures (ltb-true c.len-chips.result most_chips both.0)) c.in_ok-hardware.ensures
          (ap (λ n. c.self.inside.hardware.pages + n) c.page_count.ensures.pages) (leb-true new.pages most_pages both.1) refl);
    }
