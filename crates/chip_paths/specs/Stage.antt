-- Where a chip stands in a boot: what is left of the path of its attach, or of its operation in
-- flight.
use Rattle.std.specs.Prelude.{Bool, true, Option, None, ◌&&◌, Some, ℕ, false, List}
use Rattle.nand_model.specs.Path.{Path, Over, Then, first_event, Answer, result_of, is_failure, answer_to, after_answers}
use Rattle.chip_paths.specs.Attach.{Attaching, attach_path}
use Rattle.chip_paths.specs.Operation.{Known, Finished, operation_path}
use Rattle.chip_paths.specs.ChipRun.{known_at_first, attach_note, ChipRun, Pending, Progress, AtStart, AfterOne, AfterMore, progress_of, table_at}
use Rattle.nand_model.specs.Chip.{PageEvent, ChipState, FaultModel, Complete, happens}
use Rattle.nand_model.specs.Partitions.{Partitions}
use Rattle.nand_model.specs.Quiet.{fairness_of}
use Rattle.nand_model.specs.declared.geometry.Geometry.{Geometry}
use Rattle.nand_model.specs.declared.words.Note.{Note}
use Rattle.nand_model.specs.declared.words.Fairness.{Fairness}
use Rattle.nand_model.specs.declared.words.Stats.{Stats}
use Rattle.nand_model.specs.declared.words.Op.{Op}

-- a chip is being attached, and all its events so far were quiet or not; or it is attached with
-- nothing in flight; or an operation is in flight, of which this was known before, how far it has
-- come and what is left
pub data Stage : Type 0 where
  Attaches : (left : Path Attaching) → (quiet : Bool) → Stage
  Rests : (known : Known) → Stage
  Works : (known : Known) → (progress : Progress) → (left : Path Finished) → Stage

-- the stage after an attach has come this far
abbrev pub attach_stage : Path Attaching → Bool → Stage
attach_stage (Over attaching) quiet = Rests (known_at_first attaching)
attach_stage (Then event rest) quiet = Attaches (Then event rest) quiet

-- a chip at the start of its attach
abbrev pub first_stage : Geometry → Stage
first_stage g = Attaches (attach_path g) true

-- the next event
abbrev pub stage_event : Stage → Option PageEvent
stage_event (Attaches left quiet) = first_event left
stage_event (Rests known) = None
stage_event (Works known progress left) = first_event left

-- the path once its next event is answered
abbrev pub path_after : {A : Type 0} → Answer → Path A → Path A
path_after answer (Over result) = Over result
path_after answer (Then event rest) = rest answer

-- how far an operation has come once one more of its events is answered
abbrev pub one_further : Progress → Progress
one_further AtStart = AfterOne
one_further AfterOne = AfterMore
one_further AfterMore = AfterMore

-- the stage after an event that was answered so; an attach stays quiet where the chip was quiet
-- just before it
abbrev pub stage_after : Bool → Answer → Stage → Stage
stage_after now_quiet answer (Attaches left quiet) = attach_stage (path_after answer left) (quiet && now_quiet)
stage_after now_quiet answer (Rests known) = Rests known
stage_after now_quiet answer (Works known progress left) = Works known (one_further progress) (path_after answer left)

-- what an attach note says that an event brings: the attach that it ends, and whether that was
-- quiet
abbrev pub attach_end : Path Attaching → Bool → Option (Bool × Attaching)
attach_end (Over attaching) quiet = Some (quiet, attaching)
attach_end (Then event rest) quiet = None

-- the attach whose note is still to be handed out, after an event
abbrev pub pending_note_after : Bool → Answer → Stage → Option (Bool × Attaching) → Option (Bool × Attaching)
pending_note_after now_quiet answer (Attaches left quiet) pending_note =
    attach_end (path_after answer left) (quiet && now_quiet)
pending_note_after now_quiet answer (Rests known) pending_note = pending_note
pending_note_after now_quiet answer (Works known progress left) pending_note = pending_note

-- the note of such pending note about chip k
abbrev pub note_of_attach : ℕ → Bool × Attaching → Note
note_of_attach k pending_note = attach_note k pending_note.0 pending_note.1

-- the fairness of an event where it failed
abbrev pub fairness_where_failed : Bool → Fairness → Option Fairness
fairness_where_failed true fairness = Some fairness
fairness_where_failed false fairness = None

-- an attached chip's table in memory, also within a mark
abbrev pub stage_table : Stage → Option (List ℕ)
stage_table (Attaches left quiet) = None
stage_table (Rests known) = Some known.table
stage_table (Works known progress left) = Some (table_at progress left known.table)

-- a device's statistics, which are 0 while the chip is not attached
abbrev pub stage_statistics : Stage → ℕ → Stats
stage_statistics (Attaches left quiet) dev = record { corrected = 0; failed = 0 }
stage_statistics (Rests known) dev = known.statistics dev
stage_statistics (Works known progress left) dev = known.statistics dev

-- whether a chip is attached with nothing in flight
abbrev pub is_resting : Stage → Bool
is_resting (Attaches left quiet) = false
is_resting (Rests known) = true
is_resting (Works known progress left) = false

-- a chip at rest begins an operation
abbrev pub stage_begun : Geometry → Partitions → Op → Stage → Stage
stage_begun g partitions op (Attaches left quiet) = Attaches left quiet
stage_begun g partitions op (Rests known) = Works known AtStart (operation_path g partitions known op)
stage_begun g partitions op (Works known progress left) = Works known progress left

-- how the operation in flight has ended, where its events are over
abbrev pub finished_in : Stage → Option Finished
finished_in (Attaches left quiet) = None
finished_in (Rests known) = None
finished_in (Works known progress left) = result_of left

-- whether a chip is attached
abbrev pub is_attached : Stage → Bool
is_attached (Attaches left quiet) = false
is_attached (Rests known) = true
is_attached (Works known progress left) = true

-- whether an operation is in flight
abbrev pub is_working : Stage → Bool
is_working (Attaches left quiet) = false
is_working (Rests known) = false
is_working (Works known progress left) = true

module _ {W : Type 0} (model : FaultModel W) where
  -- what an event tells where it fails
  abbrev pub failure_told : ChipState W → PageEvent → Option Fairness
  failure_told s e =
      fairness_where_failed (is_failure (answer_to model s e))
      (fairness_of s.geometry s.pages e (happens model s (Complete e)).pages)

-- the stage of a chip in a run
abbrev pub stage_by : {W : Type 0} → Partitions → ChipRun W → Option Known → Option Pending → Stage
stage_by partitions c None pending = Attaches (after_answers c.attach_answers (attach_path c.chip.geometry)) c.quiet
stage_by partitions c (Some known) None = Rests known
stage_by partitions c (Some known) (Some pending) =
    Works known (progress_of pending.answers)
    (after_answers pending.answers (operation_path c.chip.geometry partitions known pending.op))

-- the stage of a chip of a course
abbrev pub stage_of : {W : Type 0} → Partitions → ChipRun W → Stage
stage_of partitions c = stage_by partitions c c.known c.pending
