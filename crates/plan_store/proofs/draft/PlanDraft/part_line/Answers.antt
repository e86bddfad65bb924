use Rattle.std.proofs.Common.{◌≡◌, ◌-◌, ℕ, Ok, length, refl, sym, ap, ◌∙◌, subst, arith}
use Rattle.plan_grammar.specs.declared.kind.PlanKind.TheVariants.{WrongPlace}
use Rattle.plan_grammar.specs.declared.lines.PlanLines.{PlanLines}
use Rattle.plan_grammar.specs.declared.lines.PartLine.{PartLine}
use Rattle.plan_grammar.specs.Hardware.{part_line, with_part}
use Rattle.plan_index.specs.declared.device.DeviceSize.{DeviceSize}
use Rattle.plan_store.specs.declared.hardware.HardwareIndex.{HardwareIndex}
use Rattle.plan_store.specs.FlipCount.{AreFlips}
use Rattle.plan_index.specs.Data.{AreData}
use Rattle.plan_costs.specs.Costs.{AreCosts}
use Rattle.plan_costs.proofs.Boots.{costs_of_none}
use Rattle.plan_store.specs.SessionCount.{HaveFewSessions}
use Rattle.plan_store.specs.Hardware.{HardwareInStep}
use Rattle.plan_store.proofs.Controllers.{marks_of, open_at, step_part, some_items}
use Rattle.plan_store.proofs.Found.{hardware_none, last_found, rule_true}
use Rattle.plan_store.proofs.Refused.{part_taken}
use Rattle.plan_store.proofs.draft.PlanDraft.part_line.Goals as goal

pub add_part-requires : goal.add_part-requires
add_part-requires c =
    let h = last_found c.self.inside.lines c.in_ok-chip.chip.now c.in_ok-chip.ensures in
    marks_of _ c.in_ok-chip.chip.now c.self.inside.hardware.marks
    (open_at c.self.inside.lines.controllers h.chips c.in_ok-chip.chip.now h.controller_is h.chip_is) c.self.invariant.hardware.marks

pub overflow_sub-device : goal.overflow_sub-device
overflow_sub-device c =
    let h = last_found c.self.inside.lines c.in_ok-chip.chip.now c.in_ok-chip.ensures in
    omega (arith, some_items c.self.inside.lines.controllers h.chips h.controller_is)

pub invariant_of-result : goal.invariant_of-result
invariant_of-result c =
    let h = last_found c.self.inside.lines c.in_ok-chip.chip.now c.in_ok-chip.ensures in
    let m = c.in_ok-part.ensures.2 in
    let new : HardwareIndex = record {
      pages = c.self.inside.hardware.pages;
      marks = c.in_ok-part.marks;
      devices = c.push_device.new.devices;
    } in
    let size : DeviceSize = record {
      controller = c.len.result - 1;
      geometry = c.in_ok-chip.chip.now.geometry;
      blocks = c.in_ok-part.part.count;
      weak = c.in_ok-part.marks.weak_programs;
    } in
    record {
      flips = subst (λ (plan : PlanLines). AreFlips plan.boots c.self.inside.flips) (sym c.in_ok-add_part.ensures) c.self.invariant.flips;
      sessions = subst (λ (plan : PlanLines). HaveFewSessions plan.boots) (sym c.in_ok-add_part.ensures) c.self.invariant.sessions;
      payloads = subst (λ (plan : PlanLines). AreData plan.payloads c.self.inside.data) (sym c.in_ok-add_part.ensures) c.self.invariant.payloads;
      costs =
          let none = hardware_none c.self.inside.lines (sym c.is_hardware.ensures ∙ rule_true c.is_hardware.result WrongPlace c.in_ok-rule.field-0 (sym c.in_ok-rule.ensures)) in
          subst (λ (plan : PlanLines). AreCosts plan c.self.inside.costs) (sym c.in_ok-add_part.ensures)
          (costs_of_none c.self.inside.lines _ c.self.inside.costs none none c.self.invariant.costs);
      hardware = subst (λ (plan : PlanLines). HardwareInStep plan.controllers new) (sym c.in_ok-add_part.ensures)
          (step_part c.self.inside.lines.controllers c.self.inside.hardware new h.chips c.in_ok-chip.chip.now c.in_ok-part.part
          size c.self.invariant.hardware h.controller_is h.chip_is m refl
          (ap (λ (n : ℕ). record size { controller = n - 1 }) c.len.ensures ∙ ap (λ (n : ℕ). record size { controller = length c.self.inside.lines.controllers - 1; weak = n }) m.weak)
          c.in_ok-push_device.ensures);
    }

pub returns : goal.returns
returns c =
    subst (λ (plan : PlanLines). part_line plan c.args.words ≡ Ok c.add_part-2.new.plan) c.self.view_is
    (part_taken c.self.inside.lines c.args.words c.in_ok-chip.chip.now c.in_ok-start.start.now c.in_ok-start.count.now
    c.in_ok-start-2.start c.in_ok-count.count (sym c.is_hardware.ensures ∙ rule_true c.is_hardware.result WrongPlace c.in_ok-rule.field-0 (sym c.in_ok-rule.ensures)) c.in_ok-chip.ensures c.in_ok-start.ensures (sym c.in_ok-start-2.ensures) (sym c.in_ok-count.ensures)
    c.in_ok-part.ensures.0
    ∙ ap Ok (ap (λ (part : PartLine). with_part part c.self.inside.lines) (sym c.in_ok-part.ensures.1) ∙ sym c.in_ok-add_part.ensures))
