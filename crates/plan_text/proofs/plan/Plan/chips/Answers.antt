use Rattle.std.proofs.Common.{◌≡◌, ◌∙◌, List, map, ap, sym, subst}
use Rattle.std.specs.Prelude.{IfOk, slice_get}
use Rattle.chip_sim.specs.declared.chip.SimChip.{SimChip}
use Rattle.chip_sim.specs.State.{sim_state}
use Rattle.plan_model.specs.Plan.{ChipPlan, new_chips}
use Rattle.plan_grammar.specs.declared.lines.PlanLines.{PlanLines}
use Rattle.plan_text.specs.Plan.{IsOfBytes}
use Rattle.plan_text.proofs.NewChips.{chips_are, made_of}
use Rattle.plan_text.proofs.plan.Plan.chips.Goals as goal

pub new_chips-requires : goal.new_chips-requires
new_chips-requires c =
    let read = subst IsOfBytes c.self.view_is c.self.invariant.read in
    let there = ap (λ (p : PlanLines). slice_get p.controllers c.args.controller) (sym c.lines.ensures) ∙ c.get.ensures in
    made_of c.args.self.now c.args.controller c.get.result.now read there

pub returns : goal.returns
returns c =
    let there = ap (λ (p : PlanLines). slice_get p.controllers c.args.controller) (sym c.lines.ensures) ∙ c.get.ensures in
    subst (λ (cs : List ChipPlan). IfOk c.new_chips.result (λ flashes. map sim_state flashes ≡ new_chips cs))
    (sym (chips_are c.args.self.now c.args.controller c.get.result.now there)) c.new_chips.ensures
