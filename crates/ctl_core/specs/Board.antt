-- What a controller keeps, as its course has it.
use Rattle.std.specs.Prelude.{◌≡◌, ◌≤◌, ℕ, ◌+◌, List, [], false, length, map, slice_get, Option, Some, None, IfSome, is_some, option_map, option_and_then}
use Rattle.nand_iface.specs.declared.flash.Flash.{Ghosts}
use Rattle.nand_model.specs.Chip.{PageEvent}
use Rattle.nand_model.specs.declared.words.Flip.{Flip}
use Rattle.nand_model.specs.declared.words.CutAt.{CutAt}
use Rattle.run_model.specs.Course.{Course, unattached, course_after}
use Rattle.nand_model.specs.Cuts.{tear_at}
use Rattle.command_model.specs.Boot.{change_at}
use Rattle.run_laws.specs.Turns.{busy_turns}
use Rattle.chip_core.specs.Chip.{chip_state, chip_stage, chip_page_room, chip_bits, chip_pending_note}
use Rattle.chip_paths.specs.Stage.{stage_event, finished_in}
use Rattle.chip_paths.specs.Operation.{Finished}
use Rattle.session_steps.specs.Standing.{number_of}
use Rattle.ctl_core.specs.declared.board.Slot.{Slot}
use Rattle.ctl_core.specs.declared.board.Board.{Board}
use Rattle.ctl_core.specs.declared.journal.Journal.{Journal}
use Rattle.ctl_core.specs.SlotState.{SlotState, first_attaching, slot_after, notes_after}
use Rattle.ctl_core.specs.Flips.{bit_count, flips_on, slot_flips_before}
use Rattle.ctl_core.specs.Follows.{Follows}
use Rattle.ctl_core.specs.Past.{Past, starts_of, course_of}
use Rattle.ctl_core.specs.Start.{CanStart}

-- a chip in its slot
abbrev pub slot_state : {F C : Type 0} {flash : Ghosts F} → Slot F C flash → SlotState flash.FaultState
slot_state slot = record {
  state = chip_state slot.chip;
  stage = chip_stage slot.chip;
  pending_note = chip_pending_note slot.chip;
  holder = slot.holder;
}

-- so many pages and bits of a chip may be flipped before memory has to be asked for
pub record HasRoom {F C : Type 0} {flash : Ghosts F} (pages bits : ℕ) (slot : Slot F C flash) : Type 0 where
  pub page_room : pages ≤ chip_page_room slot.chip
  pub bits_room : bits ≤ chip_bits slot.chip

-- each chip may turn the bits of its own flips among these, and one page more, before memory has to
-- be asked for
abbrev pub HasRoomFor : {F C : Type 0} {flash : Ghosts F} → List Flip → List (Slot F C flash) → Type 0
HasRoomFor flips slots = (chip : ℕ) → IfSome (slice_get slots chip)
    (HasRoom (1 + length (flips_on chip flips)) (bit_count (flips_on chip flips)))

-- the chips in their slots
abbrev pub slot_states : {F C : Type 0} {flash : Ghosts F} → Board F C flash → List (SlotState flash.FaultState)
slot_states board = map slot_state board.slots.items

-- the next event of a chip in its slot
abbrev pub event_at : {F C : Type 0} {flash : Ghosts F} → Board F C flash → ℕ → Option PageEvent
event_at {F} {C} {flash} board k = option_and_then (λ (c : SlotState flash.FaultState). stage_event c.stage)
    (slice_get (slot_states board) k)

-- a board stands where a course does
abbrev pub StandsAt : {F C : Type 0} {flash : Ghosts F} → Past F → Course flash.FaultState → Board F C flash → Type 0
StandsAt {F} {C} {flash} past course board =
    Follows past.boot (starts_of flash.state past) course (slot_states board) board.events board.dark board.notes.notes
    board.sessions.items

-- what was done so far
abbrev pub past_of : {F : Type 0} → Journal F → Past F
past_of journal = record {
  boot = journal.boot;
  started = journal.started.value;
  attaches = journal.attaches;
  turns = journal.turns.items;
}

-- a board stands where its controller's past has led: chips are attached before any turn, each
-- attach step did an event, and each turn of the list did something
pub record IsOnCourse {F C : Type 0} {flash : Ghosts F} (past : Past F) (board : Board F C flash) : Type 0 where
  pub conditions : CanStart past.boot (starts_of flash.state past)
  pub stands : StandsAt past (course_of flash.fault_model flash.state past) board
  pub attached_first : (k : ℕ) → unattached (course_of flash.fault_model flash.state past) ≡ Some k → past.turns ≡ []
  pub attach_events : (course_after flash.fault_model past.boot (starts_of flash.state past) past.attaches []).events
      ≡ past.attaches
  pub all_busy : busy_turns flash.fault_model past.boot (starts_of flash.state past) past.turns
      (course_after flash.fault_model past.boot (starts_of flash.state past) past.attaches []) ≡ past.turns

-- a board that differs at most in its room
pub record StandsAlike {F C : Type 0} {flash : Ghosts F} (old new : Board F C flash) : Type 0 where
  pub chips : slot_states new ≡ slot_states old
  pub events : new.events ≡ old.events
  pub dark : new.dark ≡ old.dark
  pub notes : new.notes.notes ≡ old.notes.notes
  pub sessions : new.sessions.items ≡ old.sessions.items

-- the flips that are due are made, and event e of chip k, which stood so after them, is done and
-- noted; where the cut names it, it is torn, and the controller is dark
pub record DidEvent {F C : Type 0} {flash : Ghosts F} (flips : List Flip) (cut : Option CutAt) (k : ℕ)
    (c : SlotState flash.FaultState) (e : PageEvent) (old new : Board F C flash) : Type 0 where
  pub chips : slot_states new
      ≡ change_at (slot_flips_before flash.fault_model flips (old.events + 1) (slot_states old)) k
      (slot_after flash.fault_model e (tear_at cut (old.events + 1)))
  pub events : new.events ≡ old.events + 1
  pub dark : new.dark ≡ is_some (tear_at cut (old.events + 1))
  pub notes : new.notes.notes
      ≡ notes_after flash.fault_model k (old.events + 1) e (tear_at cut (old.events + 1)) c old.notes.notes
  pub sessions : new.sessions.items ≡ old.sessions.items

-- how the operation in flight on a chip has ended, where no event of it is left
abbrev pub finished_at : {F C : Type 0} {flash : Ghosts F} → Board F C flash → ℕ → Option Finished
finished_at {F} {C} {flash} board k = option_and_then (λ (c : SlotState flash.FaultState). finished_in c.stage)
    (slice_get (slot_states board) k)

-- a board that is not dark, whose chips are all attached, with a session at its place
pub record IsAtTurn {F C : Type 0} {flash : Ghosts F} (past : Past F) (session place : ℕ) (board : Board F C flash) :
    Type 0 where
  pub on_course : IsOnCourse past board
  pub lit : board.dark ≡ false
  pub attached : first_attaching (slot_states board) ≡ None
  pub own : option_map number_of (slice_get board.sessions.items place) ≡ Some session
