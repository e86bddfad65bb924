-- What a turn does to a course, and which turns of a list do anything.
use Rattle.std.specs.Prelude.{◌≡◌, ℕ, ◌+◌, List, [], ◌∷◌, ◌++◌, true, false, Some, None, if◌then◌else◌, length, Contains}
use Rattle.run_model.specs.Course.{Course, is_idle, turn_step, unattached, attach_step, sizes_of, turns_taken, is_over}
use Rattle.nand_model.specs.Chip.{FaultModel, ChipState}
use Rattle.command_model.specs.Boot.{Boot}
use Rattle.nand_model.specs.Partitions.{command_device, chip_of}
use Rattle.run_model.specs.History.{IsThere}
use Rattle.nand_model.specs.declared.words.Note.{Note}
use Rattle.nand_model.specs.declared.words.Note.TheVariants.{Began, Answered}
use Rattle.nand_model.specs.declared.words.Op.{Op}
use Rattle.nand_model.specs.declared.words.Reply.{Reply}
use Rattle.nand_model.specs.declared.geometry.Geometry.{Geometry}
use Rattle.nand_model.specs.declared.words.Command.{Command}

-- one step of a session: an operation begins, or one page event is done, or the operation is
-- answered
pub data IsStep {W : Type 0} (session : ℕ) (before after : Course W) : Type 0 where
  Begins : (op : Op) → after.notes ≡ before.notes ++ Began session op ∷ [] → after.events ≡ before.events
      → IsStep session before after
  DoesEvent : (new : List Note) → after.notes ≡ before.notes ++ new → after.events ≡ before.events + 1
      → IsStep session before after
  Answers : (reply : Reply) → after.notes ≡ before.notes ++ Answered session reply ∷ [] → after.events ≡ before.events
      → IsStep session before after

-- a turn changes nothing where it is idle, and is else one step
pub record TurnIsStep {W : Type 0} (model : FaultModel W) (boot : Boot) (sizes : Command → Geometry)
    (course : Course W) (session : ℕ) : Type 0 where
  pub nothing_where_idle : is_idle boot.partitions sizes course session ≡ true
      → turn_step model boot sizes course session ≡ course
  pub step_else : is_idle boot.partitions sizes course session ≡ false
      → IsStep session course (turn_step model boot sizes course session)

-- an attach step changes nothing where the controller is dark or all chips are attached, and is
-- else one page event
pub record AttachIsStep {W : Type 0} (model : FaultModel W) (boot : Boot) (sizes : Command → Geometry)
    (course : Course W) : Type 0 where
  pub nothing_where_dark : course.dark ≡ true → attach_step model boot sizes course ≡ course
  pub nothing_where_attached : unattached course ≡ None → attach_step model boot sizes course ≡ course
  pub event_else : (k : ℕ) → course.dark ≡ false → unattached course ≡ Some k
      → (attach_step model boot sizes course).events ≡ course.events + 1

module _ {W : Type 0} (model : FaultModel W) (boot : Boot) (starts : List (ChipState W)) where
  -- the turns of a list that are not idle when they come
  abbrev pub busy_turns : List ℕ → Course W → List ℕ
  busy_turns [] course = []
  busy_turns (session ∷ turns) course =
      (if is_idle boot.partitions (sizes_of boot starts) course session then [] else session ∷ [])
      ++ busy_turns turns (turn_step model boot (sizes_of boot starts) course session)

  -- the turns of a list that are not idle lead to the same course, and none of them is idle
  pub record BusyTurnsSuffice (turns : List ℕ) (course : Course W) : Type 0 where
    pub same_course : turns_taken model boot starts (busy_turns turns course) course
        ≡ turns_taken model boot starts turns course
    pub all_busy : busy_turns (busy_turns turns course) course ≡ busy_turns turns course

-- each command of a boot is of a device whose chip is there
abbrev pub HaveChips : {W : Type 0} → Boot → List (ChipState W) → Type 0
HaveChips boot starts =
    (session : ℕ) (commands : List Command) (command : Command) →
    Contains boot.sessions (session, commands) → Contains commands command
    → IsThere (length starts) (chip_of boot.partitions (command_device command))

-- where a course is not over and all chips are attached, the turn of some session of the boot is
-- not idle
abbrev pub SomeTurnIsBusy : {W : Type 0} → Boot → List (ChipState W) → Course W → Type 0
SomeTurnIsBusy boot starts course =
    is_over course ≡ false → unattached course ≡ None →
    (session : ℕ) × (commands : List Command) × Contains boot.sessions (session, commands)
    × (is_idle boot.partitions (sizes_of boot starts) course session ≡ false)
