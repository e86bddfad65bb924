-- A session beside the session of a course.
use Rattle.std.specs.Prelude.{◌≡◌, ℕ, ◌<◌, List, [], ◌∷◌, length, All, Option, Some, None, ⊤}
use Rattle.nand_model.specs.declared.geometry.Geometry.{Geometry}
use Rattle.nand_model.specs.declared.words.Command.{Command}
use Rattle.nand_model.specs.declared.words.Note.{Note}
use Rattle.nand_model.specs.declared.words.Reply.{Reply}
use Rattle.command_model.specs.Command.{Script, End, Ask, after_replies, script_of}
use Rattle.command_model.specs.Session.{SessionRun}
use Rattle.command_model.specs.Runnable.{Fits}
use Rattle.session_steps.specs.declared.session.Session.{Session}
use Rattle.session_steps.specs.Standing.{Standing, standing, outcomes_by, commands_by}

-- the command that was begun last is the first of these and has had these replies; where it is over
-- or none was begun, there is no reply
abbrev pub IsUnderWay : (Command → Geometry) → List Command → List Reply → Option Script → Type 0
IsUnderWay sizes commands replies None = replies ≡ []
IsUnderWay sizes commands replies (Some (End outcome)) = replies ≡ []
IsUnderWay sizes [] replies (Some (Ask op go_on)) = ⊥
IsUnderWay sizes (command ∷ commands) replies (Some (Ask op go_on)) =
    Ask op go_on ≡ after_replies replies (script_of (sizes command) command)

-- a session with these commands that stands so is where this session of a course is
pub record Shows (sizes : Command → Geometry) (commands : List Command) (st : Standing) (run : SessionRun) : Type 0
  where
    pub number : run.number ≡ st.number
    pub outcomes : run.outcomes ≡ outcomes_by commands st
    pub left : run.commands ≡ commands_by commands st
    pub goes_on : IsUnderWay sizes run.commands run.replies st.script

-- the place of a last reply is among so many notes
abbrev pub IsPlaced : ℕ → Option ℕ → Type 0
IsPlaced notes None = ⊤
IsPlaced notes (Some place) = place < notes

-- each of these commands can be run
abbrev pub CanAllRun : (Command → Geometry) → List Command → Type 0
CanAllRun sizes commands = All (λ c. Fits (sizes c) c) commands

-- a session with these commands, each of which can be run, stands where the session of a course
-- does
pub record Mirrors (sizes : Command → Geometry) (commands : List Command) (notes : List Note) (s : Session)
    (run : SessionRun) : Type 0 where
  pub runnable : CanAllRun sizes commands
  pub placed : IsPlaced (length notes) s.last
  pub shows : Shows sizes commands (standing notes s) run
