-- A controller beside the course that it is on.
use Rattle.std.specs.Prelude.{ℕ, Bool, List}
use Rattle.nand_model.specs.Chip.{ChipState}
use Rattle.nand_model.specs.declared.words.Note.{Note}
use Rattle.command_model.specs.Boot.{Boot}
use Rattle.run_model.specs.Course.{Course, sizes_of}
use Rattle.session_steps.specs.declared.session.Session.{Session}
use Rattle.ctl_core.specs.SlotState.{SlotState}
use Rattle.ctl_core.specs.Keeps.{Keeps}
use Rattle.ctl_core.specs.Sessions.{SessionsMirror, HoldersWait}

-- chips, events, whether the power has failed, notes and sessions are those of a course
pub record Follows {W : Type 0} (boot : Boot) (starts : List (ChipState W)) (course : Course W)
    (chips : List (SlotState W)) (events : ℕ) (dark : Bool) (notes : List Note)
    (sessions : List Session) : Type 0 where
  pub keeps : Keeps boot.partitions course chips events dark notes
  pub mirrors : SessionsMirror (sizes_of boot starts) boot.sessions notes sessions course.sessions
  pub wait : HoldersWait chips sessions
