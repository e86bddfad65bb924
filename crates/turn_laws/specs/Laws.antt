-- How long a boot is.
use Rattle.std.specs.Prelude.{ℕ, ◌+◌, ◌*◌, ◌-◌, ◌≤◌, List, [], length, sum_by}
use Rattle.nand_model.specs.declared.geometry.Geometry.{Geometry}
use Rattle.nand_model.specs.Chip.{ChipState, FaultModel}
use Rattle.command_model.specs.Boot.{Boot}
use Rattle.run_model.specs.Course.{course_after}
use Rattle.run_laws.specs.Turns.{busy_turns}
use Rattle.run_model.specs.Start.{boot_cost}

-- the most events of an operation: those of a mark, two for its block and twelve for its tables
abbrev pub events_of_operation : ℕ
events_of_operation = 14

-- the most steps of an operation: its begin, its events and its answer
abbrev pub steps_of_operation : ℕ
steps_of_operation = events_of_operation + 2

-- the most turns of a boot that do anything: the steps of each operation, and on each chip those of
-- one that does not come to its end
abbrev pub most_turns : {W : Type 0} → Boot → List (ChipState W) → ℕ
most_turns boot starts = steps_of_operation * boot_cost boot starts + (steps_of_operation - 1) * length starts

module _ {W : Type 0} (model : FaultModel W) (boot : Boot) (starts : List (ChipState W)) (attaches : ℕ)
    (turns : List ℕ) where
  -- the turns that do anything are few
  abbrev pub BusyTurnsAreFew : Type 0
  BusyTurnsAreFew =
      length (busy_turns model boot starts turns (course_after model boot starts attaches [])) ≤ most_turns boot starts

  -- each busy turn does at most one event
  abbrev pub EventsAreTurns : Type 0
  EventsAreTurns =
      (course_after model boot starts attaches turns).events
      ≤ (course_after model boot starts attaches []).events + length
      (busy_turns model boot starts turns (course_after model boot starts attaches []))

-- the most events of an attach: a read of each block's first page, four more of the table blocks,
-- and the twelve events of a writing
abbrev pub events_of_attach : Geometry → ℕ
events_of_attach g = g.blocks + 16

-- the most events of the attaches of these chips
abbrev pub events_of_attaches : {W : Type 0} → List (ChipState W) → ℕ
events_of_attaches {W} starts = sum_by (λ (s : ChipState W). events_of_attach s.geometry) starts

-- the attaches of these chips have no more
abbrev pub AttachesAreShort : {W : Type 0} → FaultModel W → Boot → List (ChipState W) → ℕ → Type 0
AttachesAreShort model boot starts attaches =
    (course_after model boot starts attaches []).events ≤ events_of_attaches starts
