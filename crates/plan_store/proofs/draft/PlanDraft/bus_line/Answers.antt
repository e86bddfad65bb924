use Rattle.std.proofs.Common.{refl, sym, subst}
use Rattle.plan_grammar.specs.declared.lines.PlanLines.{PlanLines}
use Rattle.plan_grammar.specs.declared.lines.DetailLine.TheVariants.{Bus}
use Rattle.plan_store.specs.declared.hardware.HardwareIndex.{HardwareIndex}
use Rattle.plan_store.specs.FlipCount.{AreFlips}
use Rattle.plan_index.specs.Data.{AreData}
use Rattle.plan_costs.specs.Costs.{AreCosts}
use Rattle.plan_costs.proofs.Boots.{costs_of_none}
use Rattle.plan_store.specs.SessionCount.{HaveFewSessions}
use Rattle.plan_store.specs.Hardware.{HardwareInStep}
use Rattle.plan_store.proofs.Controllers.{marks_of, open_at, step_detail}
use Rattle.plan_store.proofs.Found.{open_none, open_found}
use Rattle.plan_store.proofs.draft.PlanDraft.bus_line.Goals as goal

pub add_bus-requires : goal.add_bus-requires
add_bus-requires c =
    let h = open_found c.self.inside.lines c.in_ok-chip.chip.now c.in_ok-chip.ensures in
    marks_of _ c.in_ok-chip.chip.now c.self.inside.hardware.marks
    (open_at c.self.inside.lines.controllers h.0.chips c.in_ok-chip.chip.now h.0.controller_is h.0.chip_is) c.self.invariant.hardware.marks

pub invariant_of-result : goal.invariant_of-result
invariant_of-result c =
    let h = open_found c.self.inside.lines c.in_ok-chip.chip.now c.in_ok-chip.ensures in
    let new : HardwareIndex = record {
      pages = c.self.inside.hardware.pages;
      marks = c.in_ok-hardware.field-0;
      devices = c.self.inside.hardware.devices;
    } in
    record {
      flips = subst (λ (plan : PlanLines). AreFlips plan.boots c.self.inside.flips) (sym c.in_ok-add_detail.ensures) c.self.invariant.flips;
      sessions = subst (λ (plan : PlanLines). HaveFewSessions plan.boots) (sym c.in_ok-add_detail.ensures) c.self.invariant.sessions;
      payloads = subst (λ (plan : PlanLines). AreData plan.payloads c.self.inside.data) (sym c.in_ok-add_detail.ensures) c.self.invariant.payloads;
      costs =
          let none = open_none c.self.inside.lines c.in_ok-chip.chip.now c.in_ok-chip.ensures in
          subst (λ (plan : PlanLines). AreCosts plan c.self.inside.costs) (sym c.in_ok-add_detail.ensures)
          (costs_of_none c.self.inside.lines _ c.self.inside.costs none none c.self.invariant.costs);
      hardware = subst (λ (plan : PlanLines). HardwareInStep plan.controllers new) (sym c.in_ok-add_detail.ensures)
          (step_detail c.self.inside.lines.controllers c.self.inside.hardware new h.0.chips c.in_ok-chip.chip.now Bus
          c.self.invariant.hardware h.0.controller_is h.0.chip_is h.1 c.in_ok-hardware.ensures.1 refl refl);
    }
