-- When notes are those of one thread: on each chip one operation after another, and in each session
-- one exchange after another.
use Rattle.std.specs.Prelude.{ℕ, List, Option, map, [], ◌∷◌, Some, None, Bool, true, false, ◌≡◌, ◌&&◌, ◌++◌, is_none, flat_map, ◌==◌, if◌then◌else◌, ⊤, ◌<◌, length, slice_get, All}
use Rattle.nand_model.specs.Chip.{ChipEvent, ChipState, FaultModel, Complete, PowerCut, Flipped, happens, after_trace}
use Rattle.chip_paths.specs.Operation.{Known, Finished, operation_path, Performs}
use Rattle.chip_paths.specs.Attach.{Attaching, attach_path}
use Rattle.nand_model.specs.Path.{GoesAlong, answers_of, answer_to, is_failure, is_uncut, after_answers, next_event, result_of}
use Rattle.nand_model.specs.Partitions.{Partitions, device_of, chip_of}
use Rattle.nand_model.specs.Quiet.{is_quiet}
use Rattle.chip_paths.specs.ChipRun.{torn_notes, attach_note, known_at_first}
use Rattle.command_model.specs.Session.{exchanges_of, Alternate}
use Rattle.nand_model.specs.declared.words.Op.{Op}
use Rattle.nand_model.specs.declared.words.Reply.{Reply}
use Rattle.nand_model.specs.declared.words.Note.{Note}
use Rattle.nand_model.specs.declared.words.Note.TheVariants.{Answered, Began, Attached, Torn}

-- an operation as a chip saw it: its trace, each event with its number, and its reply, if it came
pub record OperationTrace : Type 0 where
  pub session : ℕ
  pub op : Op
  pub trace : List (ℕ × ChipEvent)
  pub reply : Option Reply

-- the events of a numbered trace
abbrev pub events_in : List (ℕ × ChipEvent) → List ChipEvent
events_in trace = map (λ (e : ℕ × ChipEvent). e.1) trace

-- the note of the reply of an operation, if it came
abbrev pub answer_note : ℕ → Option Reply → List Note
answer_note session None = []
answer_note session (Some reply) = Answered session reply ∷ []

-- what is known after an operation: as before where it did not come to its end
abbrev pub known_then : Known → Option Finished → Known
known_then known None = known
known_then known (Some finished) = finished.known

-- the outcome of an attach that no power cut ended
abbrev pub outcome_if : Bool → Option Attaching → Option Attaching
outcome_if true outcome = outcome
outcome_if false outcome = None

module _ {W : Type 0} (model : FaultModel W) where
  -- the note of one event of a trace on chip k: only an event that failed or was cut has one
  abbrev pub notes_of_event : ℕ → ℕ → ChipState W → ChipEvent → List Note
  notes_of_event k n s (Flipped page bit) = []
  notes_of_event k n s (Complete e) =
      torn_notes (is_failure (answer_to model s e)) k n false s e (happens model s (Complete e))
  notes_of_event k n s (PowerCut e done) = torn_notes true k n true s e (happens model s (PowerCut e done))

  -- the notes of a trace
  abbrev pub notes_of_trace : ℕ → ChipState W → List (ℕ × ChipEvent) → List Note
  notes_of_trace k s [] = []
  notes_of_trace k s ((n, e) ∷ trace) = notes_of_event k n s e ++ notes_of_trace k (happens model s e) trace

  -- the notes of an operation
  abbrev pub notes_of_operation : ℕ → ChipState W → OperationTrace → List Note
  notes_of_operation k s operation = Began operation.session operation.op ∷ notes_of_trace k s operation.trace
      ++ answer_note operation.session operation.reply

  -- an operation from its start: it is answered as operations are, or it has come so far along its
  -- path
  abbrev pub IsOperationTrace : Partitions → ChipState W → Known → Op → List ChipEvent → Option Reply → Type 0
  IsOperationTrace partitions s known op trace (Some reply) =
      (after : Known) × Performs model partitions s known op trace reply after
  IsOperationTrace partitions s known op trace None =
      GoesAlong model (next_event (operation_path s.geometry partitions known op)) s [] trace

  -- one operation after another: each starts from what the one before it left, and only the last
  -- may lack its answer
  abbrev pub AreOperationTraces : Partitions → ℕ → ChipState W → Known → List OperationTrace → List Note → Type 0
  AreOperationTraces partitions k s known [] notes = notes ≡ []
  AreOperationTraces partitions k s known (operation ∷ later) notes =
      IsOperationTrace partitions s known operation.op (events_in operation.trace) operation.reply
      × (is_none operation.reply ≡ true → later ≡ [])
      × ((rest : List Note) × (notes ≡ notes_of_operation k s operation ++ rest)
      × AreOperationTraces partitions k (after_trace model s (events_in operation.trace))
      (known_then known
      (result_of (after_answers (answers_of model s (events_in operation.trace))
      (operation_path s.geometry partitions known operation.op)))) later rest)

  -- each event of an attach that was done found the chip quiet
  abbrev pub was_quiet : ChipState W → List ChipEvent → Bool
  was_quiet s [] = true
  was_quiet s (Flipped page bit ∷ trace) = was_quiet (happens model s (Flipped page bit)) trace
  was_quiet s (Complete e ∷ trace) = is_quiet s.geometry s.pages && was_quiet (happens model s (Complete e)) trace
  was_quiet s (PowerCut e done ∷ trace) =
      is_quiet s.geometry s.pages && was_quiet (happens model s (PowerCut e done)) trace

  -- what an attach along this trace came to
  abbrev pub attach_outcome : ChipState W → List ChipEvent → Option Attaching
  attach_outcome s trace =
      outcome_if (is_uncut trace) (result_of (after_answers (answers_of model s trace) (attach_path s.geometry)))

  -- what comes after the events of an attach: nothing while it is not over, else its note and the
  -- operations
  abbrev pub GoesOn : Option Attaching → Partitions → ℕ → ChipState W → List ChipEvent → List OperationTrace
      → List Note → Type 0
  GoesOn None partitions k s trace later notes = (notes ≡ []) × (later ≡ [])
  GoesOn (Some attaching) partitions k s trace later notes =
      (rest : List Note)
      × (notes ≡ attach_note k (was_quiet s trace) attaching ∷ rest)
      × AreOperationTraces partitions k (after_trace model s trace) (known_at_first attaching) later rest

  -- the notes of a chip are those of its attach, and then of one operation after another
  pub record IsChipHistory (partitions : Partitions) (k : ℕ) (s : ChipState W) (attach : List (ℕ × ChipEvent))
      (operations : List OperationTrace) (notes : List Note) : Type 0 where
    pub along : GoesAlong model (next_event (attach_path s.geometry)) s [] (events_in attach)
    pub later : List Note
    pub notes_are : notes ≡ notes_of_trace k s attach ++ later
    pub goes_on : GoesOn (attach_outcome s (events_in attach)) partitions k s (events_in attach) operations later

-- a flip of a bit of a page, with the number of the event before which it was made
pub record Turned : Type 0 where
  pub number : ℕ
  pub page : ℕ
  pub bit : ℕ

-- flips as events of a trace
abbrev pub turned_events : List Turned → List (ℕ × ChipEvent)
turned_events flips = map (λ (f : Turned). (f.number, Flipped f.page f.bit)) flips

-- what a chip went through in a boot: its attach, its operations, and the flips after them
pub record ChipBoot : Type 0 where
  pub attach : List (ℕ × ChipEvent)
  pub operations : List OperationTrace
  pub flips_after : List Turned

-- all of it as one trace, each event with its number
abbrev pub numbered_of : ChipBoot → List (ℕ × ChipEvent)
numbered_of b =
    b.attach ++ flat_map (λ (operation : OperationTrace). operation.trace) b.operations ++ turned_events b.flips_after

-- the same without numbers
abbrev pub trace_of : ChipBoot → List ChipEvent
trace_of b = events_in (numbered_of b)

-- which chip each session last began an operation on
abbrev pub LastChips : Type 0
LastChips = ℕ → Option ℕ

-- this is chip k
abbrev pub is_chip : Option ℕ → ℕ → Bool
is_chip None k = false
is_chip (Some j) k = j == k

-- the chip that a note is of: an answer is of the chip on which its session last began
abbrev pub note_chip : Partitions → LastChips → Note → Option ℕ
note_chip partitions last (Began session op) = chip_of partitions (device_of op)
note_chip partitions last (Answered session reply) = last session
note_chip partitions last (Attached chip origin version copies quiet states) = Some chip
note_chip partitions last (Torn chip number event cut fairness) = Some chip

-- which chip each session last began an operation on, after a note
abbrev pub last_after : Partitions → LastChips → Note → LastChips
last_after partitions last (Began session op) s = if s == session then chip_of partitions (device_of op) else last s
last_after partitions last (Answered session reply) s = last s
last_after partitions last (Attached chip origin version copies quiet states) s = last s
last_after partitions last (Torn chip number event cut fairness) s = last s

-- the notes of one chip, where sessions last began operations on these chips
abbrev pub notes_of_chip_from : Partitions → LastChips → ℕ → List Note → List Note
notes_of_chip_from partitions last k [] = []
notes_of_chip_from partitions last k (note ∷ notes) =
    (if is_chip (note_chip partitions last note) k then note ∷ [] else [])
    ++ notes_of_chip_from partitions (last_after partitions last note) k notes

-- the notes of one chip
abbrev pub notes_of_chip : Partitions → ℕ → List Note → List Note
notes_of_chip partitions k notes = notes_of_chip_from partitions (λ s. None) k notes

-- what a chip went through in one boot after the other, each from where the one before it left the
-- chip
abbrev pub IsChipLife : {W : Type 0} → FaultModel W → Partitions → ℕ → ChipState W → List ChipBoot → List (List Note)
    → Type 0
IsChipLife model partitions k s [] [] = ⊤
IsChipLife model partitions k s (b ∷ bs) (notes ∷ more) =
    IsChipHistory model partitions k s b.attach b.operations (notes_of_chip partitions k notes)
    × IsChipLife model partitions k (after_trace model s (trace_of b)) bs more
IsChipLife model partitions k s _ _ = ⊥

-- a chip with this number is there
abbrev pub IsThere : ℕ → Option ℕ → Type 0
IsThere count None = ⊥
IsThere count (Some k) = k < count

-- each note is of a chip that is there; an answer is of the chip on which its session last began
abbrev pub AreOfChips : Partitions → ℕ → LastChips → List Note → Type 0
AreOfChips partitions count last [] = ⊤
AreOfChips partitions count last (note ∷ notes) =
    IsThere count (note_chip partitions last note) × AreOfChips partitions count (last_after partitions last note) notes

-- the notes of a controller, boot by boot, are those of one thread, with these lives of its chips
pub record AreOneThread {W : Type 0} (model : FaultModel W) (partitions : Partitions) (starts : List (ChipState W))
    (lives : List (List ChipBoot)) (notes : List (List Note)) : Type 0 where
  pub many : length lives ≡ length starts
  pub chips : (k : ℕ) (s : ChipState W) (life : List ChipBoot) → slice_get starts k ≡ Some s
      → slice_get lives k ≡ Some life → IsChipLife model partitions k s life notes
  pub of_chips : All (λ boot. AreOfChips partitions (length starts) (λ s. None) boot) notes
  pub paired : All (λ boot. (session : ℕ) → Alternate (exchanges_of session boot)) notes
