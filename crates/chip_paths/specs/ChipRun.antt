-- A chip in a boot: its attach, what is known of it then, and its pending operation.
use Rattle.std.specs.Prelude.{ℕ, List, Bool, Option, true, [], None, false, ◌∷◌, Some, ◌++◌, ◌&&◌, count_by}
use Rattle.nand_model.specs.Path.{Answer, next_event, Path, Over, Then, after_answers, result_of, Good, answer_to, is_failure}
use Rattle.nand_model.specs.Chip.{ChipState, PageEvent, ReadEvent, ProgramEvent, EraseEvent, FaultModel, DoneBits, Complete, PowerCut, happens, after_trace, flip_events}
use Rattle.chip_paths.specs.Operation.{Known, operation_path, Finished}
use Rattle.nand_model.specs.Quiet.{fairness_of, is_quiet}
use Rattle.chip_paths.specs.Attach.{Attaching, attach_path}
use Rattle.nand_model.specs.Partitions.{Partitions}
use Rattle.nand_model.specs.Table.{is_bad_state}
use Rattle.nand_model.specs.declared.words.Op.{Op}
use Rattle.nand_model.specs.declared.words.Event.{Event}
use Rattle.nand_model.specs.declared.words.Event.TheVariants.{Read as ReadOf, Program as ProgramOf, Erase as EraseOf}
use Rattle.nand_model.specs.declared.words.Note.{Note}
use Rattle.nand_model.specs.declared.words.Note.TheVariants.{Torn, Attached}
use Rattle.nand_model.specs.declared.geometry.Geometry.{Geometry}

-- a pending operation: who asked for it, and how its events were answered so far
pub record Pending : Type 0 where
  pub session : ℕ
  pub op : Op
  pub answers : List Answer

-- a chip in a boot: how the events of its attach were answered, whether each found it quiet, and,
-- once it is attached, what is known of it and what is pending
pub record ChipRun (W : Type 0) : Type 0 where
  pub chip : ChipState W
  pub attach_answers : List Answer
  pub quiet : Bool
  pub known : Option Known
  pub pending : Option Pending

-- a chip at the start of a boot
abbrev pub chip_at_start : {W : Type 0} → ChipState W → ChipRun W
chip_at_start s = record { chip = s; attach_answers = []; quiet = true; known = None; pending = None }

-- an event without its image, as notes name it
abbrev pub name_of : PageEvent → Event
name_of (ReadEvent page) = ReadOf page
name_of (ProgramEvent page image) = ProgramOf page
name_of (EraseEvent block) = EraseOf block

-- the note of an event that failed or was cut
abbrev pub torn_notes : {W : Type 0} → Bool → ℕ → ℕ → Bool → ChipState W → PageEvent → ChipState W → List Note
torn_notes true k n cut s e after = Torn k n (name_of e) cut (fairness_of s.geometry s.pages e after.pages) ∷ []
torn_notes false k n cut s e after = []

-- the note of an attach
abbrev pub attach_note : ℕ → Bool → Attaching → Note
attach_note k quiet a = Attached k a.origin a.version a.copies quiet a.table

-- what is known of a chip once it is attached: the statistics of a boot begin at 0
abbrev pub known_at_first : Attaching → Known
known_at_first a =
    record {
      table = a.table;
      version = a.version;
      places = a.places;
      copies = a.copies;
      statistics = λ dev. record { corrected = 0; failed = 0 };
    }

-- the next event of a chip: of its attach while that is not over, else of the pending operation
abbrev pub next_event_by : {W : Type 0} → Partitions → ChipState W → List Answer → Option Known → Option Pending
    → Option PageEvent
next_event_by partitions s answers None pending = next_event (attach_path s.geometry) answers
next_event_by partitions s answers (Some known) None = None
next_event_by partitions s answers (Some known) (Some pending) =
    next_event (operation_path s.geometry partitions known pending.op) pending.answers

-- the next event of a chip
abbrev pub next_chip_event : {W : Type 0} → Partitions → ChipRun W → Option PageEvent
next_chip_event partitions c = next_event_by partitions c.chip c.attach_answers c.known c.pending

-- a chip with an operation begun
abbrev pub with_pending : {W : Type 0} → ChipRun W → ℕ → Op → ChipRun W
with_pending c session op = record c { pending = Some (record { session = session; op = op; answers = [] }) }

-- the pending operation with one more answer
abbrev pub pending_after : Option Pending → Answer → Option Pending
pending_after None answer = None
pending_after (Some pending) answer = Some (record pending { answers = pending.answers ++ answer ∷ [] })

-- what is known once the attach is over
abbrev pub known_once_over : Path Attaching → Option Known
known_once_over (Over attaching) = Some (known_at_first attaching)
known_once_over (Then event rest) = None

-- a chip whose attach or operation has one more answer; during an attach, the chip before the event
-- says whether it was quiet
abbrev pub answered_by : {W : Type 0} → ChipRun W → ChipState W → Answer → Option Known → ChipRun W
answered_by c after answer None =
    let answers : List Answer = c.attach_answers ++ answer ∷ [] in
    record {
      chip = after;
      attach_answers = answers;
      quiet = c.quiet && is_quiet c.chip.geometry c.chip.pages;
      known = known_once_over (after_answers answers (attach_path c.chip.geometry));
      pending = None;
    }
answered_by c after answer (Some known) = record c { chip = after; pending = pending_after c.pending answer }

-- a chip whose event was torn: during an attach it says whether the chip was quiet
abbrev pub torn_by : {W : Type 0} → ChipRun W → ChipState W → Option Known → ChipRun W
torn_by c after None = record c { chip = after; quiet = c.quiet && is_quiet c.chip.geometry c.chip.pages }
torn_by c after (Some known) = record c { chip = after }

-- how a pending operation ends, where its events are over
abbrev pub finished_by : {W : Type 0} → Partitions → ChipRun W → Known → Pending → Option Finished
finished_by partitions c known pending =
    result_of (after_answers pending.answers (operation_path c.chip.geometry partitions known pending.op))

-- the chip once its operation is answered
abbrev pub with_finished : {W : Type 0} → ChipRun W → Finished → ChipRun W
with_finished c finished = record c { known = Some finished.known; pending = None }

-- the note of an attach that has just come to its end
abbrev pub attach_notes_of : ℕ → Bool → Path Attaching → List Note
attach_notes_of k quiet (Over attaching) = attach_note k quiet attaching ∷ []
attach_notes_of k quiet (Then event rest) = []

-- the note of an attach of a chip of which nothing was known before, where the attach is over
abbrev pub attach_notes_by : {W : Type 0} → ℕ → ChipRun W → Option Known → List Note
attach_notes_by k now None =
    attach_notes_of k now.quiet (after_answers now.attach_answers (attach_path now.chip.geometry))
attach_notes_by k now (Some known) = []

-- the note of an attach that an event has brought to its end
abbrev pub attach_notes : {W : Type 0} → ℕ → ChipRun W → ChipRun W → List Note
attach_notes k before now = attach_notes_by k now before.known

-- how a path ends where all its further events are good
abbrev pub ends_well : {A : Type 0} → Path A → A
ends_well (Over result) = result
ends_well (Then event rest) = ends_well (rest Good)

-- how far an operation has come: none of its events was answered, one was, or more were
pub data Progress : Type 0 where
  AtStart : Progress
  AfterOne : Progress
  AfterMore : Progress

-- how far these answers have brought it
abbrev pub progress_of : List Answer → Progress
progress_of [] = AtStart
progress_of (first ∷ []) = AfterOne
progress_of (first ∷ second ∷ answers) = AfterMore

-- the table in memory changes within an operation once its second event is answered, which is the
-- program of a mark's marker: from then on it is the one that the operation ends with where no
-- further event fails
abbrev pub table_at : Progress → Path Finished → List ℕ → List ℕ
table_at AtStart left table = table
table_at AfterOne left table = table
table_at AfterMore left table = (ends_well left).known.table

-- the table in memory within an operation that has had these answers
abbrev pub table_during : Geometry → Partitions → Known → Op → List Answer → List ℕ
table_during g partitions k op answers =
    table_at (progress_of answers) (after_answers answers (operation_path g partitions k op)) k.table

-- the table in memory, also while an operation is pending: a mark that has had no event yet leaves
-- it as it is
abbrev pub table_now : {W : Type 0} → Partitions → ChipRun W → Option (List ℕ)
table_now partitions c = go c.known c.pending
  where
    go : Option Known → Option Pending → Option (List ℕ)
    go None pending = None
    go (Some k) None = Some k.table
    go (Some k) (Some pending) = Some (table_during c.chip.geometry partitions k pending.op pending.answers)

-- the number of entries 1 or 3 of a table, or 0 while the attach is not over
abbrev pub bad_blocks_in : Option (List ℕ) → ℕ
bad_blocks_in None = 0
bad_blocks_in (Some table) = count_by is_bad_state table

-- the number of bad blocks of a chip
abbrev pub bad_blocks : {W : Type 0} → Partitions → ChipRun W → ℕ
bad_blocks partitions c = bad_blocks_in (table_now partitions c)

module _ {W : Type 0} (model : FaultModel W) where
  -- a chip after flips of bits of a page
  abbrev pub with_flips : ChipRun W → ℕ → List ℕ → ChipRun W
  with_flips c page bits = record c { chip = after_trace model c.chip (flip_events page bits) }

  -- a chip after its next event
  abbrev pub advanced : ChipRun W → PageEvent → ChipRun W
  advanced c e = answered_by c (happens model c.chip (Complete e)) (answer_to model c.chip e) c.known

  -- a chip after its next event was torn by a power cut
  abbrev pub torn_at : ChipRun W → PageEvent → DoneBits → ChipRun W
  torn_at c e done = torn_by c (happens model c.chip (PowerCut e done)) c.known

  -- the notes of that event on chip k
  abbrev pub notes_of_advance : ℕ → ℕ → ChipRun W → PageEvent → List Note
  notes_of_advance k n c e =
      torn_notes (is_failure (answer_to model c.chip e)) k n false c.chip e (happens model c.chip (Complete e))

  -- the note of that event where a power cut tore it
  abbrev pub notes_of_cut : ℕ → ℕ → ChipRun W → PageEvent → DoneBits → List Note
  notes_of_cut k n c e done = torn_notes true k n true c.chip e (happens model c.chip (PowerCut e done))
