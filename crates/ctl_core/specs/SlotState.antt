-- A chip as its controller keeps it: its state and its stage, an attach note that is still to be
-- written, and the session that holds it.
use Rattle.std.specs.Prelude.{ℕ, Bool, true, false, not, ◌==◌, List, [], ◌∷◌, ◌++◌, map, position, Option, Some, None}
use Rattle.nand_model.specs.Chip.{ChipState, FaultModel, PageEvent, Complete, happens}
use Rattle.nand_model.specs.Path.{answer_to}
use Rattle.nand_model.specs.declared.tear.Tear.{Tear}
use Rattle.chip_paths.specs.Attach.{Attaching}
use Rattle.nand_model.specs.Partitions.{Partitions}
use Rattle.chip_paths.specs.Operation.{Known}
use Rattle.chip_paths.specs.ChipRun.{ChipRun, Pending, name_of}
use Rattle.nand_model.specs.Quiet.{is_quiet}
use Rattle.nand_model.specs.declared.words.Fairness.{Fairness}
use Rattle.nand_model.specs.declared.words.Note.{Note}
use Rattle.nand_model.specs.declared.words.Note.TheVariants.{Torn}
use Rattle.nand_model.specs.declared.words.Op.{Op}
use Rattle.chip_paths.specs.Stage.{Stage, Rests, failure_told, is_attached, first_stage, stage_of, stage_after, stage_begun, pending_note_after, note_of_attach}
use Rattle.chip_core.specs.Torn.{stage_torn, state_torn, tear_told}

-- a chip in a controller
pub record SlotState (W : Type 0) : Type 0 where
  pub state : ChipState W
  pub stage : Stage
  pub pending_note : Option (Bool × Attaching)
  pub holder : Option ℕ

-- the session that holds an attached chip
abbrev pub holder_by : Option Known → Option Pending → Option ℕ
holder_by None pending = None
holder_by (Some known) None = None
holder_by (Some known) (Some pending) = Some pending.session

-- a chip of a course, as its controller keeps it
abbrev pub slot_as : {W : Type 0} → Partitions → ChipRun W → SlotState W
slot_as partitions c = record {
  state = c.chip;
  stage = stage_of partitions c;
  pending_note = None;
  holder = holder_by c.known c.pending;
}

-- all chips of a course in slots
abbrev pub slots_as : {W : Type 0} → Partitions → List (ChipRun W) → List (SlotState W)
slots_as partitions chips = map (slot_as partitions) chips

-- a chip at the start of its attach
abbrev pub slot_first : {W : Type 0} → ChipState W → SlotState W
slot_first s = record { state = s; stage = first_stage s.geometry; pending_note = None; holder = None }

-- a chip that a session holds
abbrev pub is_held_by : ℕ → Option ℕ → Bool
is_held_by session None = false
is_held_by session (Some by) = by == session

-- the first chip that is still to be attached
abbrev pub first_attaching : {W : Type 0} → List (SlotState W) → Option ℕ
first_attaching {W} chips = position (λ (c : SlotState W). not (is_attached c.stage)) chips

-- the first chip that this session holds
abbrev pub first_held_by : {W : Type 0} → ℕ → List (SlotState W) → Option ℕ
first_held_by {W} session chips = position (λ (c : SlotState W). is_held_by session c.holder) chips

-- a chip after its next event
abbrev pub after_event : {W : Type 0} → FaultModel W → PageEvent → SlotState W → SlotState W
after_event model e c =
    record {
      state = happens model c.state (Complete e);
      stage = stage_after (is_quiet c.state.geometry c.state.pages) (answer_to model c.state e) c.stage;
      pending_note = pending_note_after (is_quiet c.state.geometry c.state.pages) (answer_to model c.state e) c.stage
          c.pending_note;
      holder = c.holder;
    }

-- a chip whose attach note is written
abbrev pub with_note_written : {W : Type 0} → SlotState W → SlotState W
with_note_written c = record c { pending_note = None }

-- a chip whose next event is torn by a power cut
abbrev pub after_tear : {W : Type 0} → FaultModel W → PageEvent → Tear → SlotState W → SlotState W
after_tear model e tear c =
    record c {
      state = state_torn model tear e c.state;
      stage = stage_torn (is_quiet c.state.geometry c.state.pages) c.stage;
    }

-- a chip after its next event, whole or torn, and noted
abbrev pub slot_after : {W : Type 0} → FaultModel W → PageEvent → Option Tear → SlotState W → SlotState W
slot_after model e None c = with_note_written (after_event model e c)
slot_after model e (Some tear) c = after_tear model e tear c

-- a chip on which a session begins an operation
abbrev pub after_begin : {W : Type 0} → Partitions → ℕ → Op → SlotState W → SlotState W
after_begin partitions session op c =
    record c { stage = stage_begun c.state.geometry partitions op c.stage; holder = Some session }

-- a chip whose operation is answered
abbrev pub after_answer : {W : Type 0} → Known → SlotState W → SlotState W
after_answer known c = record c { stage = Rests known; holder = None }

-- the note of event n of chip k, where it failed
abbrev pub failure_notes : (k n : ℕ) → PageEvent → Option Fairness → List Note
failure_notes k n e None = []
failure_notes k n e (Some fairness) = Torn k n (name_of e) false fairness ∷ []

-- the note of an attach of chip k that came to its end
abbrev pub pending_notes : ℕ → Option (Bool × Attaching) → List Note
pending_notes k None = []
pending_notes k (Some pending_note) = note_of_attach k pending_note ∷ []

-- these notes and those of event n of chip k, which stood so before it
abbrev pub notes_after : {W : Type 0} → FaultModel W → (k n : ℕ) → PageEvent → Option Tear → SlotState W → List Note
    → List Note
notes_after model k n e None c notes =
    notes ++ failure_notes k n e (failure_told model c.state e) ++ pending_notes k (after_event model e c).pending_note
notes_after model k n e (Some tear) c notes = notes ++ Torn k n (name_of e) true (tear_told model tear c.state e) ∷ []

-- a note, if there is one
abbrev pub noted : Option Note → List Note
noted None = []
noted (Some note) = note ∷ []
