-- The course of a controller in a boot: first its chips are attached, one page event a step, and
-- then each turn of a session does one step.
use Rattle.std.specs.Prelude.{ℕ, Bool, List, ◌==◌, if◌then◌else◌, Option, Some, None, find, false, position, is_none, [], ◌∷◌, ◌++◌, slice_get, not, ◌&&◌, ◌||◌, is_some, ◌+◌, true, fold, map, zero, suc, ◌≡◌}
use Rattle.std.specs.List.{list_all}
use Rattle.chip_paths.specs.ChipRun.{ChipRun, Pending, with_pending, with_finished, finished_by, next_chip_event, attach_notes, with_flips, advanced, torn_at, notes_of_advance, notes_of_cut, chip_at_start}
use Rattle.command_model.specs.Session.{SessionRun, replied, next_op, without_finished, is_finished}
use Rattle.command_model.specs.Boot.{change_at, Boot, geometry_for}
use Rattle.chip_paths.specs.Operation.{Finished, Known}
use Rattle.nand_model.specs.Partitions.{Partitions, device_of, chip_of}
use Rattle.nand_model.specs.Sizes.{raw_len}
use Rattle.nand_model.specs.Flips.{due_flips}
use Rattle.nand_model.specs.Chip.{FaultModel, PageEvent, done_bits, ChipState}
use Rattle.nand_model.specs.declared.words.Note.{Note}
use Rattle.nand_model.specs.declared.tear.Tear.{Tear}
use Rattle.nand_model.specs.Cuts.{tear_at}
use Rattle.nand_model.specs.declared.words.Op.{Op}
use Rattle.nand_model.specs.declared.words.Note.TheVariants.{Began, Answered}
use Rattle.nand_model.specs.declared.geometry.Geometry.{Geometry}
use Rattle.nand_model.specs.declared.words.Command.{Command}
use Rattle.nand_model.specs.declared.words.Flip.{Flip}

-- where a controller stands in a boot
pub record Course (W : Type 0) : Type 0 where
  pub chips : List (ChipRun W)
  pub sessions : List SessionRun
  pub events : ℕ
  pub dark : Bool
  pub notes : List Note

-- a session with this number
abbrev pub session_run : {W : Type 0} → Course W → ℕ → Option SessionRun
session_run course session = find (λ (s : SessionRun). s.number == session) course.sessions

-- the pending operation is this session's
abbrev pub is_pending_of : ℕ → Option Pending → Bool
is_pending_of session None = false
is_pending_of session (Some pending) = pending.session == session

-- the chip on which a session has a pending operation
abbrev pub pending_chip : {W : Type 0} → Course W → ℕ → Option ℕ
pending_chip {W} course session = position (λ (c : ChipRun W). is_pending_of session c.pending) course.chips

-- the first chip that is not attached
abbrev pub unattached : {W : Type 0} → Course W → Option ℕ
unattached {W} course = position (λ (c : ChipRun W). is_none c.known) course.chips

-- an operation begins on chip k
abbrev pub began : {W : Type 0} → Course W → ℕ → ℕ → Op → Course W
began course session k op =
    record course {
      chips = change_at course.chips k (λ c. with_pending c session op);
      notes = course.notes
          ++ Began session op ∷ [];
    }

-- a session's operation on chip k is over: its answer goes to the session, and the chip knows what
-- it knows then
abbrev pub finish : {W : Type 0} → (Command → Geometry) → Course W → ℕ → ChipRun W → ℕ → Option Finished → Course W
finish sizes course k c session None = course
finish sizes course k c session (Some finished) =
    record course {
      chips = change_at course.chips k (λ old. with_finished c finished);
      sessions = replied sizes session finished.reply course.sessions;
      notes = course.notes ++ Answered session finished.reply ∷ [];
    }

-- the pending operation on chip k is answered
abbrev pub with_answer : {W : Type 0} → Partitions → (Command → Geometry) → Course W → ℕ → ChipRun W → Option Known
    → Option Pending → Course W
with_answer partitions sizes course k c (Some known) (Some pending) =
    finish sizes course k c pending.session (finished_by partitions c known pending)
with_answer partitions sizes course k c _ _ = course

-- nothing is pending on the chip at this place, which is there
abbrev pub is_free : {W : Type 0} → Option (ChipRun W) → Bool
is_free None = false
is_free (Some c) = is_none c.pending

-- the chip at this place, if there is one, is free
abbrev pub is_free_at : {W : Type 0} → Course W → Option ℕ → Bool
is_free_at course None = false
is_free_at course (Some k) = is_free (slice_get course.chips k)

-- an operation can begin: its chip is free
abbrev pub can_begin : {W : Type 0} → Partitions → Course W → Option Op → Bool
can_begin partitions course None = false
can_begin partitions course (Some op) = is_free_at course (chip_of partitions (device_of op))

-- a session's turn is idle exactly where the controller is dark or its chips are not all attached,
-- or the session has no pending operation and no next one that can begin
abbrev pub is_idle : {W : Type 0} → Partitions → (Command → Geometry) → Course W → ℕ → Bool
is_idle partitions sizes course session =
    course.dark || is_some (unattached course)
    || (is_none (pending_chip course session)
    && not (can_begin partitions course (next_op sizes (session_run course session))))

module _ {W : Type 0} (model : FaultModel W) (boot : Boot) where
  -- the flips that are due before an event, made in the order of their lines
  abbrev pub with_flip : List (ChipRun W) → Flip → List (ChipRun W)
  with_flip chips flip = change_at chips flip.chip (λ c. with_flips model c flip.page flip.bits)

  -- the chips after all flips that are due before event n
  abbrev pub with_flips_before : ℕ → List (ChipRun W) → List (ChipRun W)
  with_flips_before n chips = fold with_flip chips (due_flips boot.flips n)

  -- event n, on chip k: whole, or torn by the cut, after which the controller is dark
  abbrev pub event_done : Course W → List (ChipRun W) → ℕ → ℕ → ChipRun W → PageEvent → Option Tear → Course W
  event_done course chips k n c e None =
      let now : ChipRun W = advanced model c e in
      record {
        chips = change_at chips k (λ old. now);
        sessions = course.sessions;
        events = n;
        dark = false;
        notes = course.notes ++ notes_of_advance model k n c e ++ attach_notes k c now;
      }
  event_done course chips k n c e (Some tear) =
      record {
        chips = change_at chips k (λ old. torn_at model c e (done_bits (raw_len c.chip.geometry) tear));
        sessions = course.sessions;
        events = n;
        dark = true;
        notes = course.notes ++ notes_of_cut model k n c e (done_bits (raw_len c.chip.geometry) tear);
      }

  -- the flips that are due, and then the next event of chip k
  abbrev pub event_on : Course W → List (ChipRun W) → ℕ → Option (ChipRun W) → PageEvent → Course W
  event_on course chips k None e = course
  event_on course chips k (Some c) e =
      event_done course chips k (course.events + 1) c e (tear_at boot.cut (course.events + 1))

  -- the flips that are due before the next event, and then the event, of chip k
  abbrev pub event_step : Course W → ℕ → PageEvent → Course W
  event_step course k e =
      let chips : List (ChipRun W) = with_flips_before (course.events + 1) course.chips in
      event_on course chips k (slice_get chips k) e

  -- the next event of chip k, or the answer of its operation where no event is left
  abbrev pub event_or_answer : (Command → Geometry) → Course W → ℕ → ChipRun W → Option PageEvent → Course W
  event_or_answer sizes course k c (Some e) = event_step course k e
  event_or_answer sizes course k c None = with_answer boot.partitions sizes course k c c.known c.pending

  -- a step of chip k, where it is there
  abbrev pub chip_step : (Command → Geometry) → Course W → ℕ → Option (ChipRun W) → Course W
  chip_step sizes course k None = course
  chip_step sizes course k (Some c) = event_or_answer sizes course k c (next_chip_event boot.partitions c)

  -- an operation begins on its chip, where nothing is pending there
  abbrev pub begin_on : Course W → ℕ → Op → ℕ → Option (ChipRun W) → Course W
  begin_on course session op k None = course
  begin_on course session op k (Some c) = if is_some c.pending then course else began course session k op

  -- an operation begins on the chip of its device, where there is one
  abbrev pub begin_at : Course W → ℕ → Op → Option ℕ → Course W
  begin_at course session op None = course
  begin_at course session op (Some k) = begin_on course session op k (slice_get course.chips k)

  -- the next operation begins, where there is one
  abbrev pub begin_step : Course W → ℕ → Option Op → Course W
  begin_step course session None = course
  begin_step course session (Some op) = begin_at course session op (chip_of boot.partitions (device_of op))

  -- a session's step: its pending operation goes on, or its next one begins
  abbrev pub session_step : (Command → Geometry) → Course W → ℕ → Option ℕ → Course W
  session_step sizes course session (Some k) = chip_step sizes course k (slice_get course.chips k)
  session_step sizes course session None = begin_step course session (next_op sizes (session_run course session))

  -- a turn of a session: nothing where it is idle
  abbrev pub turn_unless : Bool → (Command → Geometry) → Course W → ℕ → Course W
  turn_unless true sizes course session = course
  turn_unless false sizes course session = session_step sizes course session (pending_chip course session)

  -- a turn of a session
  abbrev pub turn_step : (Command → Geometry) → Course W → ℕ → Course W
  turn_step sizes course session = turn_unless (is_idle boot.partitions sizes course session) sizes course session

  -- a step of the first chip that is not attached, where there is one
  abbrev pub attach_first : (Command → Geometry) → Course W → Option ℕ → Course W
  attach_first sizes course None = course
  attach_first sizes course (Some k) = chip_step sizes course k (slice_get course.chips k)

  -- an attach step: one page event of the first chip that is not attached, unless the controller is
  -- dark
  abbrev pub attach_step : (Command → Geometry) → Course W → Course W
  attach_step sizes course = if course.dark then course else attach_first sizes course (unattached course)

-- the geometries of a controller's commands
abbrev pub sizes_of : {W : Type 0} → Boot → List (ChipState W) → Command → Geometry
sizes_of boot starts = geometry_for boot.partitions (map (λ c. c.geometry) starts)

-- a controller at the start of a boot
abbrev pub start_of_boot : {W : Type 0} → Boot → List (ChipState W) → Course W
start_of_boot boot starts =
    record {
      chips = map chip_at_start starts;
      sessions = map (λ (s : ℕ × List Command). without_finished (sizes_of boot starts) s.0 s.1 [] []) boot.sessions;
      events = 0;
      dark = false;
      notes = [];
    }

module _ {W : Type 0} (model : FaultModel W) (boot : Boot) (starts : List (ChipState W)) where
  -- so many attach steps
  abbrev pub attach_steps : ℕ → Course W → Course W
  attach_steps zero course = course
  attach_steps (suc n) course = attach_steps n (attach_step model boot (sizes_of boot starts) course)

  -- these turns, one after the other
  abbrev pub turns_taken : List ℕ → Course W → Course W
  turns_taken turns course = fold (turn_step model boot (sizes_of boot starts)) course turns

  -- so many attach steps, and then these turns
  abbrev pub course_after : ℕ → List ℕ → Course W
  course_after attaches turns = turns_taken turns (attach_steps attaches (start_of_boot boot starts))

-- all chips are attached and all commands finished, or the controller is dark
abbrev pub is_over : {W : Type 0} → Course W → Bool
is_over {W} course =
    course.dark || (list_all (λ (c : ChipRun W). is_some c.known) course.chips
    && list_all (λ (s : SessionRun). is_finished s.commands) course.sessions)

-- the course is that of some attach steps and these turns, and is over
pub record IsWholeCourse {W : Type 0} (model : FaultModel W) (boot : Boot) (starts : List (ChipState W))
    (turns : List ℕ) (course : Course W) : Type 0 where
  pub attaches : ℕ
  pub steps : course ≡ course_after model boot starts attaches turns
  pub over : is_over course ≡ true

-- the states in which a course leaves the chips
abbrev pub end_states : {W : Type 0} → Course W → List (ChipState W)
end_states {W} course = map (λ (c : ChipRun W). c.chip) course.chips
