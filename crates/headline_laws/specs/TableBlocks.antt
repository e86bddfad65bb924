-- The blocks that a plan leaves its chips for tables.
use Rattle.std.specs.Prelude.{◌≡◌, ℕ, List, slice_get, Some}
use Rattle.plan_model.specs.Plan.{ChipPlan, PlanData}
use Rattle.run_model.specs.Run.{HasTableBlocks}

-- each chip of the plan that has tables has at most two factory-bad blocks among its last four
abbrev pub HaveTableBlocks : PlanData → Type 0
HaveTableBlocks plan =
    (c k : ℕ) (chips : List ChipPlan) (chip : ChipPlan) →
    slice_get plan.controllers c ≡ Some chips → slice_get chips k ≡ Some chip → HasTableBlocks chip.geometry chip.bad
