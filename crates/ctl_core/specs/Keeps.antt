-- What a controller keeps, beside the course that it is on.
use Rattle.std.specs.Prelude.{◌≡◌, ℕ, Bool, List}
use Rattle.nand_model.specs.Partitions.{Partitions}
use Rattle.nand_model.specs.declared.words.Note.{Note}
use Rattle.run_model.specs.Course.{Course}
use Rattle.ctl_core.specs.SlotState.{SlotState, slots_as}

-- these chips, this number of events, whether the power has failed, and these notes are those of a
-- course
pub record Keeps {W : Type 0} (partitions : Partitions) (course : Course W) (chips : List (SlotState W)) (events : ℕ)
    (dark : Bool) (notes : List Note) : Type 0 where
  pub of_chips : chips ≡ slots_as partitions course.chips
  pub of_events : events ≡ course.events
  pub of_dark : dark ≡ course.dark
  pub of_notes : notes ≡ course.notes
