-- How turns are answered, and what they make of a controller.
use Rattle.std.specs.Prelude.{ℕ, Bool, true, false, Option, Some, None, Result, Ok, Err, option_and_then}
use Rattle.nand_model.specs.Partitions.{Partitions, device_of, chip_of}
use Rattle.nand_model.specs.declared.geometry.Geometry.{Geometry}
use Rattle.nand_model.specs.declared.words.Command.{Command}
use Rattle.nand_model.specs.declared.words.Op.{Op}
use Rattle.run_model.specs.Course.{Course, session_run, pending_chip, unattached}
use Rattle.command_model.specs.Session.{next_op}
use Rattle.ctl_core.specs.declared.turn.Turn.{Turn}
use Rattle.ctl_core.specs.declared.turn.Turn.TheVariants.{Did, Held, Done, Dark}
use Rattle.ctl_core.specs.Past.{Past, with_attach, with_turn, is_done, session_at}

-- the chip of a session's next operation
abbrev pub next_chip : {W : Type 0} → Partitions → (Command → Geometry) → Course W → ℕ → Option ℕ
next_chip partitions sizes course session =
    option_and_then (λ (op : Op). chip_of partitions (device_of op)) (next_op sizes (session_run course session))

-- a session without a pending operation is held up by the one that has an operation pending on this
-- chip
abbrev pub held_unless_pending : {W : Type 0} → Course W → Option ℕ → Option ℕ → Option ℕ
held_unless_pending course None chip = session_at course chip
held_unless_pending course (Some k) chip = None

-- the session that holds another one up: this one has nothing pending, and that one has an
-- operation pending on the chip of this one's next operation
abbrev pub held_by : {W : Type 0} → Partitions → (Command → Geometry) → Course W → ℕ → Option ℕ
held_by partitions sizes course session =
    held_unless_pending course (pending_chip course session) (next_chip partitions sizes course session)

-- a turn that another session held up, or one that did something
abbrev pub held_or_did : Option ℕ → Turn
held_or_did None = Did
held_or_did (Some by) = Held by

-- a turn of a session whose commands are over is done
abbrev pub done_if : Bool → Turn → Turn
done_if true turn = Done
done_if false turn = turn

-- a turn of a dark controller is dark
abbrev pub dark_if : Bool → Turn → Turn
dark_if true turn = Dark
dark_if false turn = turn

-- a turn of a session is answered Dark where the controller is dark, else Done where its commands
-- are over, else Held where another session holds it up, else Did
abbrev pub turn_answer : {W : Type 0} → Partitions → (Command → Geometry) → Course W → ℕ → Turn
turn_answer partitions sizes course session =
    dark_if course.dark (done_if (is_done course session) (held_or_did (held_by partitions sizes course session)))

-- a turn that did something
abbrev pub is_did : Turn → Bool
is_did Did = true
is_did (Held by) = false
is_did Done = false
is_did Dark = false

-- where no power has failed, an attach turn is answered Did where a chip is not attached, else Done
abbrev pub did_if_some : Option ℕ → Turn
did_if_some None = Done
did_if_some (Some k) = Did

-- an attach turn is answered Dark where the controller is dark, else Did where a chip is not
-- attached, else Done
abbrev pub attach_answer : {W : Type 0} → Course W → Turn
attach_answer course = dark_if course.dark (did_if_some (unattached course))

-- only a turn that answers Did makes anything of a controller: it is one more turn of the session
abbrev pub after_turn : {F E : Type 0} → Result Turn E → ℕ → Past F → Past F
after_turn (Ok Did) session past = with_turn past session
after_turn (Ok Done) session past = past
after_turn (Ok Dark) session past = past
after_turn (Ok (Held by)) session past = past
after_turn (Err e) session past = past

-- and so it is with an attach turn
abbrev pub after_attach_turn : {F E : Type 0} → Result Turn E → Past F → Past F
after_attach_turn (Ok Did) past = with_attach past
after_attach_turn (Ok Done) past = past
after_attach_turn (Ok Dark) past = past
after_attach_turn (Ok (Held by)) past = past
after_attach_turn (Err e) past = past
