-- What a controller did so far in a boot, and the course that follows from it.
use Rattle.std.specs.Prelude.{ℕ, ◌+◌, Bool, true, ◌||◌, List, [], ◌∷◌, ◌++◌, map, slice_get, Option, Some, None, is_none}
use Rattle.nand_model.specs.Chip.{ChipState, FaultModel}
use Rattle.chip_paths.specs.ChipRun.{ChipRun, Pending}
use Rattle.nand_model.specs.declared.geometry.Geometry.{Geometry}
use Rattle.nand_model.specs.declared.words.Command.{Command}
use Rattle.command_model.specs.Boot.{Boot}
use Rattle.turn_laws.specs.Laws.{most_turns}
use Rattle.run_model.specs.Course.{Course, session_run, unattached, course_after, turn_step, sizes_of}
use Rattle.command_model.specs.Session.{SessionRun, is_finished}

-- a controller's boot, the flashes with which it was started, the number of its attach steps, and
-- the sessions whose turns did something, in order
pub record Past (F : Type 0) : Type 0 where
  pub boot : Boot
  pub started : List F
  pub attaches : ℕ
  pub turns : List ℕ

-- a controller that has just started
abbrev pub at_start : {F : Type 0} → Boot → List F → Past F
at_start boot flashes = record { boot = boot; started = flashes; attaches = 0; turns = [] }

-- one more attach step
abbrev pub with_attach : {F : Type 0} → Past F → Past F
with_attach past = record past { attaches = past.attaches + 1 }

-- one more turn
abbrev pub with_turn : {F : Type 0} → Past F → ℕ → Past F
with_turn past session = record past { turns = past.turns ++ session ∷ [] }

-- the states in which the chips were at the start
abbrev pub starts_of : {F W : Type 0} → (F → ChipState W) → Past F → List (ChipState W)
starts_of state past = map state past.started

-- the most turns that do anything
abbrev pub turn_limit : {F W : Type 0} → (F → ChipState W) → Past F → ℕ
turn_limit state past = most_turns past.boot (starts_of state past)

-- the sizes of the chips of a controller's commands
abbrev pub sizes_in : {F W : Type 0} → (F → ChipState W) → Past F → Command → Geometry
sizes_in state past = sizes_of past.boot (starts_of state past)

-- the course that a controller is on
abbrev pub course_of : {F W : Type 0} → FaultModel W → (F → ChipState W) → Past F → Course W
course_of model state past = course_after model past.boot (starts_of state past) past.attaches past.turns

-- the course after one more turn
abbrev pub next_course : {F W : Type 0} → FaultModel W → (F → ChipState W) → Past F → ℕ → Course W
next_course model state past session =
    turn_step model past.boot (sizes_in state past) (course_of model state past) session

-- sessions may take turns: all chips are attached, or the controller is dark
abbrev pub takes_turns : {W : Type 0} → Course W → Bool
takes_turns course = course.dark || is_none (unattached course)

-- no command of a session is left (nor of one that is not there)
abbrev pub has_no_command : Option SessionRun → Bool
has_no_command None = true
has_no_command (Some s) = is_finished s.commands

-- the commands of a session are over
abbrev pub is_done : {W : Type 0} → Course W → ℕ → Bool
is_done course session = has_no_command (session_run course session)

-- the session of a pending operation
abbrev pub session_of : Option Pending → Option ℕ
session_of None = None
session_of (Some pending) = Some pending.session

-- the same on a chip that may be there
abbrev pub session_on : {W : Type 0} → Option (ChipRun W) → Option ℕ
session_on None = None
session_on (Some c) = session_of c.pending

-- the session that has an operation pending on a chip
abbrev pub session_at : {W : Type 0} → Course W → Option ℕ → Option ℕ
session_at course None = None
session_at course (Some k) = session_on (slice_get course.chips k)
