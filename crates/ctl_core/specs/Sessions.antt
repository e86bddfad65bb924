-- The sessions of a controller, beside those of the course that it is on.
use Rattle.std.specs.Prelude.{◌≡◌, ℕ, List, length, slice_get, Some, [], true}
use Rattle.command_model.specs.Session.{SessionRun, without_finished, is_finished}
use Rattle.session_steps.specs.Standing.{number_of, IsWaiting, standing, commands_by}
use Rattle.session_steps.specs.Mirrors.{Mirrors, CanAllRun}
use Rattle.ctl_core.specs.SlotState.{SlotState}
use Rattle.nand_model.specs.declared.geometry.Geometry.{Geometry}
use Rattle.nand_model.specs.declared.words.Command.{Command}
use Rattle.nand_model.specs.declared.words.Note.{Note}
use Rattle.session_steps.specs.declared.session.Session.{Session}

-- each session of a controller mirrors the one at its place in the course
pub record SessionsMirror (sizes : Command → Geometry) (begun : List (ℕ × List Command)) (notes : List Note)
    (sessions : List Session)
    (runs : List SessionRun) : Type 0 where
  pub many : length sessions ≡ length begun
  pub runs_many : length runs ≡ length begun
  pub each : (i : ℕ) (b : ℕ × List Command) (s : Session) (run : SessionRun) → slice_get begun i ≡ Some b
      → slice_get sessions i ≡ Some s → slice_get runs i
      ≡ Some run
      → (number_of s ≡ b.0) × Mirrors sizes b.1 notes s run

-- each session that holds a chip waits for a reply
abbrev pub HoldersWait : {W : Type 0} → List (SlotState W) → List Session → Type 0
HoldersWait {W} chips sessions =
    (k i : ℕ) (c : SlotState W) (s : Session) → slice_get chips k ≡ Some c → slice_get sessions i ≡ Some s
    → c.holder ≡ Some (number_of s) → IsWaiting s

-- a session that has begun nothing
abbrev pub HasNotBegun : ℕ → Session → Type 0
HasNotBegun number s =
    (sizes : Command → Geometry) (commands : List Command) (notes : List Note) → CanAllRun sizes commands →
    Mirrors sizes commands notes s (without_finished sizes number commands [] [])

-- the sessions of a boot at their start
pub record HaveNotBegun (begun : List (ℕ × List Command)) (sessions : List Session) : Type 0 where
  pub many : length sessions ≡ length begun
  pub each : (i : ℕ) (b : ℕ × List Command) (s : Session) → slice_get begun i ≡ Some b → slice_get sessions i ≡ Some s
      → HasNotBegun b.0 s

-- the commands of each session are over
abbrev pub AreAllDone : List (ℕ × List Command) → List Note → List Session → Type 0
AreAllDone begun notes sessions =
    (i : ℕ) (b : ℕ × List Command) (s : Session) → slice_get begun i ≡ Some b → slice_get sessions i ≡ Some s
    → is_finished (commands_by b.1 (standing notes s)) ≡ true
