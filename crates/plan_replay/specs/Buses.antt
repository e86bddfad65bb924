-- Which chips of a plan's controllers are behind a bus.
use Rattle.std.specs.Prelude.{◌≡◌, ℕ, Bool, true, false, List, slice_get, Some}
use Rattle.onfi_bus.specs.declared.lab.LabChip.{LabChip}
use Rattle.onfi_bus.specs.declared.lab.LabChip.TheVariants.{Plain, Bus}
use Rattle.plan_grammar.specs.declared.lines.PlanLines.{PlanLines}
use Rattle.plan_text.specs.Plan.{on_bus}

-- a chip is behind a bus
abbrev pub is_bus_chip : LabChip → Bool
is_bus_chip (Plain chip) = false
is_bus_chip (Bus chip) = true

-- each of these chips of controller c is behind a bus exactly where its lines say so
abbrev pub AreOnTheirBuses : PlanLines → (controller : ℕ) → List LabChip → Type 0
AreOnTheirBuses plan c chips =
    (k : ℕ) (chip : LabChip) → slice_get chips k ≡ Some chip → is_bus_chip chip ≡ on_bus plan c k

-- the same of the chips of all controllers
abbrev pub AreAllOnTheirBuses : PlanLines → List (List LabChip) → Type 0
AreAllOnTheirBuses plan flashes =
    (c : ℕ) (chips : List LabChip) → slice_get flashes c ≡ Some chips → AreOnTheirBuses plan c chips
