-- The steps of a course, and what its controller keeps after each.
use Rattle.std.proofs.Common.{◌≡◌, ℕ, ◌+◌, Bool, true, false, not, ◌&&◌, List, [], ◌∷◌, ◌++◌, Option, Some, None, refl, ap, sym, ◌∙◌, subst}
use Rattle.std.specs.Prelude.{slice_get, is_none, is_some, if◌then◌else◌, ◌||◌}
use Rattle.nand_model.specs.declared.geometry.Geometry.{Geometry}
use Rattle.nand_model.specs.declared.words.Command.{Command}
use Rattle.nand_model.specs.declared.words.Note.{Note}
use Rattle.nand_model.specs.declared.words.Note.TheVariants.{Began, Answered}
use Rattle.nand_model.specs.declared.words.Op.{Op}
use Rattle.nand_model.specs.Chip.{FaultModel, PageEvent, done_bits}
use Rattle.nand_model.specs.Sizes.{raw_len}
use Rattle.nand_model.specs.declared.tear.Tear.{Tear}
use Rattle.nand_model.specs.Partitions.{Partitions, device_of, chip_of}
use Rattle.chip_paths.specs.Operation.{Known, Finished}
use Rattle.chip_paths.specs.ChipRun.{ChipRun, Pending, next_chip_event, advanced, torn_at, attach_notes, notes_of_advance, notes_of_cut, with_pending, with_finished, finished_by}
use Rattle.command_model.specs.Boot.{Boot, change_at}
use Rattle.run_model.specs.Course.{Course, session_run, pending_chip, unattached, is_pending_of, began, finish, with_answer, is_free, is_free_at, can_begin, is_idle, with_flips_before, event_done, event_on, event_step, event_or_answer, chip_step, begin_on, begin_at, begin_step, session_step, turn_unless, turn_step, attach_first, attach_step}
use Rattle.nand_model.specs.Cuts.{tear_at}
use Rattle.command_model.specs.Session.{next_op}
use Rattle.chip_paths.specs.Stage.{stage_by, failure_told, is_attached}
use Rattle.run_laws.proofs.Places.{position_none}
use Rattle.ctl_core.specs.SlotState.{SlotState, slot_as, slots_as, is_held_by, first_attaching, first_held_by, after_event, after_tear, after_begin, after_answer, slot_after, notes_after, with_note_written, failure_notes, pending_notes, holder_by}
use Rattle.ctl_core.specs.Flips.{slot_flips_before}
use Rattle.ctl_core.specs.Keeps.{Keeps}
use Rattle.ctl_core.specs.Answer.{attach_answer, dark_if, did_if_some, done_if, held_by, held_or_did, turn_answer}
use Rattle.ctl_core.specs.Past.{is_done, takes_turns}
use Rattle.ctl_core.specs.declared.turn.Turn.{Turn}
use Rattle.ctl_core.specs.declared.turn.Turn.TheVariants.{Did, Dark}
use Rattle.ctl_core.proofs.ChipSteps.{begun, answered, slot_advanced, slot_torn, failure_is, pending_note_is}
use Rattle.ctl_core.proofs.Flipped.{flips_kept}
use Rattle.ctl_core.proofs.Positions.{position_kept, mapped_change}

held_by_session : (session : ℕ) (k : Option Known) (p : Option Pending) → is_none k ≡ false → is_pending_of session p ≡ is_held_by session (holder_by k p)
held_by_session session None p h = cc
held_by_session session (Some known) None h = refl
held_by_session session (Some known) (Some pending) h = refl

holding_by : (k : Option Known) (p : Option Pending) (by : ℕ) → holder_by k p ≡ Some by → (pending : Pending) × (p ≡ Some pending) × (pending.session ≡ by)
holding_by None p by h = cc
holding_by (Some known) None by h = cc
holding_by (Some known) (Some pending) by h = (pending, refl, cc)

resting_by : (k : Option Known) (p : Option Pending) → is_none k ≡ false → holder_by k p ≡ None → (known : Known) × (k ≡ Some known) × (p ≡ None)
resting_by None p h i = cc
resting_by (Some known) None h i = (known, refl, refl)
resting_by (Some known) (Some pending) h i = cc

-- a search for a chip by what its controller keeps of it
module _ {W : Type 0} (partitions : Partitions) where
  attaching_by : (c : ChipRun W) (k : Option Known) (p : Option Pending) → is_none k ≡ not (is_attached (stage_by partitions c k p))
  attaching_by c None p = refl
  attaching_by c (Some known) None = refl
  attaching_by c (Some known) (Some pending) = refl

  pub unattached_is : (course : Course W) → unattached course ≡ first_attaching (slots_as partitions course.chips)
  unattached_is course = position_kept (λ (c : ChipRun W). is_none c.known) (λ (c : SlotState W). not (is_attached c.stage)) (slot_as partitions) course.chips
      (λ k c h. attaching_by c c.known c.pending)

  pub pending_is : (course : Course W) (session : ℕ) → unattached course ≡ None → pending_chip course session
      ≡ first_held_by session (slots_as partitions course.chips)
  pending_is course session h = position_kept (λ (c : ChipRun W). is_pending_of session c.pending) (λ (c : SlotState W). is_held_by session c.holder)
      (slot_as partitions) course.chips
      (λ k c e. held_by_session session c.known c.pending (position_none (λ (d : ChipRun W). is_none d.known) course.chips h k c e))

  -- an attached chip that no session holds
  pub resting : (c : ChipRun W) → is_none c.known ≡ false → (slot_as partitions c).holder ≡ None → (known : Known) × (c.known ≡ Some known) × (c.pending ≡ None)
  resting c h i = resting_by c.known c.pending h i

  -- the operation of the session that holds a chip
  pub holding : (c : ChipRun W) (by : ℕ) → (slot_as partitions c).holder ≡ Some by → (pending : Pending) × (c.pending ≡ Some pending) × (pending.session ≡ by)
  holding c by h = holding_by c.known c.pending by h

abbrev idle_by : Bool → Option ℕ → Option ℕ → Bool → Bool
idle_by dark first pending begins = dark || is_some first || (is_none pending && not begins)

module _ {W : Type 0} (model : FaultModel W) (boot : Boot) (sizes : Command → Geometry) (course : Course W) (session : ℕ) (lit : course.dark ≡ false)
    (attached : unattached course ≡ None) where
  pub busy_where_pending : (k : ℕ) → pending_chip course session ≡ Some k → is_idle boot.partitions sizes course session ≡ false
  busy_where_pending k h = λ j. idle_by (lit j) (attached j) (h j) (can_begin boot.partitions course (next_op sizes (session_run course session)))

  pub busy_where_begins : can_begin boot.partitions course (next_op sizes (session_run course session)) ≡ true → is_idle boot.partitions sizes course session
      ≡ false
  busy_where_begins h = (λ j. idle_by (lit j) (attached j) (pending_chip course session) (h j)) ∙ never (is_none (pending_chip course session))
    where
      never : (b : Bool) → (b && false) ≡ false
      never true = refl
      never false = refl

  pub idle_else : pending_chip course session ≡ None → can_begin boot.partitions course (next_op sizes (session_run course session)) ≡ false
      → is_idle boot.partitions sizes course session ≡ true
  idle_else h i = λ j. idle_by (lit j) (attached j) (h j) (i j)

  pub turn_goes_on : (k : ℕ) (c : ChipRun W) → pending_chip course session ≡ Some k → slice_get course.chips k ≡ Some c
      → turn_step model boot sizes course session ≡ event_or_answer model boot sizes course k c (next_chip_event boot.partitions c)
  turn_goes_on k c h at =
      ap (λ b. turn_unless model boot b sizes course session) (busy_where_pending k h)
      ∙ ap (session_step model boot sizes course session) h ∙ ap (chip_step model boot sizes course k) at

  pub turn_begins : (k : ℕ) (c : ChipRun W) (op : Op) → pending_chip course session ≡ None → next_op sizes (session_run course session) ≡ Some op
      → chip_of boot.partitions (device_of op) ≡ Some k → slice_get course.chips k ≡ Some c → c.pending ≡ None → turn_step model boot sizes course session
      ≡ began course session k op
  turn_begins k c op h next of_chip at free =
      ap (λ b. turn_unless model boot b sizes course session) (busy_where_begins begins)
      ∙ ap (session_step model boot sizes course session) h
      ∙ ap (begin_step model boot course session) next ∙ ap (begin_at model boot course session op) of_chip ∙ ap (begin_on model boot course session op k) at
      ∙ ap (λ (p : Option Pending). if is_some p then course else began course session k op) free
    where
      begins : can_begin boot.partitions course (next_op sizes (session_run course session)) ≡ true
      begins = ap (can_begin boot.partitions course) next ∙ ap (is_free_at course) of_chip ∙ ap is_free at ∙ ap (λ (p : Option Pending). is_none p) free

  pub turn_is_idle : is_idle boot.partitions sizes course session ≡ true → turn_step model boot sizes course session ≡ course
  turn_is_idle h = ap (λ b. turn_unless model boot b sizes course session) h

-- a dark controller
module _ {W : Type 0} (model : FaultModel W) (boot : Boot) (sizes : Command → Geometry) (course : Course W) (session : ℕ) (dark : course.dark ≡ true) where
  pub dark_is_idle : is_idle boot.partitions sizes course session ≡ true
  dark_is_idle = ap (λ b. idle_by b (unattached course) (pending_chip course session)
      (can_begin boot.partitions course (next_op sizes (session_run course session)))) dark

  pub dark_turn_is : turn_step model boot sizes course session ≡ course
  dark_turn_is = ap (λ b. turn_unless model boot b sizes course session) dark_is_idle

  pub dark_answer : Dark ≡ turn_answer boot.partitions sizes course session
  dark_answer = sym (ap (λ b. dark_if b (done_if (is_done course session) (held_or_did (held_by boot.partitions sizes course session)))) dark)

  pub dark_attach_answer : Dark ≡ attach_answer course
  dark_attach_answer = sym (ap (λ b. dark_if b (did_if_some (unattached course))) dark)

  pub dark_takes : takes_turns course ≡ true
  dark_takes = ap (λ b. b || is_none (unattached course)) dark

-- where the power has not failed, sessions may take turns where all chips are attached
pub attached_takes : {W : Type 0} (course : Course W) → unattached course ≡ None → takes_turns course ≡ true
attached_takes course attached = ap (λ (o : Option ℕ). course.dark || is_none o) attached ∙ or_true course.dark
  where
    or_true : (b : Bool) → (b || true) ≡ true
    or_true true = refl
    or_true false = refl

-- an attach turn that does nothing leaves a controller whose sessions may take turns
pub takes_after : {W : Type 0} (course : Course W) (turn : Turn) → turn ≡ attach_answer course → (turn ≡ Did → ⊥) → takes_turns course ≡ true
takes_after course turn is not = by_parts course.dark (unattached course) is
  where
    by_parts : (dark : Bool) (first : Option ℕ) → turn ≡ dark_if dark (did_if_some first) → (dark || is_none first) ≡ true
    by_parts true first h = refl
    by_parts false None h = refl
    by_parts false (Some k) h = absurd (not h)

pub takes_attached : {W : Type 0} (course : Course W) → course.dark ≡ false → takes_turns course ≡ true → unattached course ≡ None
takes_attached course lit takes = none (unattached course) (ap (λ b. b || is_none (unattached course)) (sym lit) ∙ takes)
  where
    none : (o : Option ℕ) → is_none o ≡ true → o ≡ None
    none None h = refl
    none (Some k) h = cc

module _ {W : Type 0} (model : FaultModel W) (boot : Boot) (sizes : Command → Geometry) (course : Course W) where
  -- the chips after the flips that are due before the next event
  abbrev pub after_flips : List (ChipRun W)
  after_flips = with_flips_before model boot (course.events + 1) course.chips

  -- a course after these flips and the next event of a chip, which stood so after them; where the cut
  -- names it, it is torn
  abbrev pub after_chip_event : ℕ → ChipRun W → PageEvent → Course W
  after_chip_event k c e = event_done model boot course after_flips k (course.events + 1) c e (tear_at boot.cut (course.events + 1))

  pub event_is : (k : ℕ) (c : ChipRun W) (e : PageEvent) → slice_get after_flips k ≡ Some c → event_step model boot course k e ≡ after_chip_event k c e
  event_is k c e at = ap (λ o. event_on model boot course after_flips k o e) at

  -- the first chip that is not attached has an event
  pub attach_step_is : (k : ℕ) (c now : ChipRun W) (e : PageEvent) → course.dark ≡ false → unattached course ≡ Some k → slice_get course.chips k ≡ Some c
      → next_chip_event boot.partitions c ≡ Some e → slice_get after_flips k ≡ Some now → attach_step model boot sizes course ≡ after_chip_event k now e
  attach_step_is k c now e lit first at next flipped =
      ap (λ b. if b then course else attach_first model boot sizes course (unattached course)) lit
      ∙ ap (attach_first model boot sizes course) first ∙ ap (chip_step model boot sizes course k) at
      ∙ ap (event_or_answer model boot sizes course k c) next ∙ event_is k now e flipped

  -- a pending operation has an event
  pub turn_event_is : (session k : ℕ) (c now : ChipRun W) (e : PageEvent) → course.dark ≡ false → unattached course ≡ None → pending_chip course session
      ≡ Some k
      → slice_get course.chips k ≡ Some c → next_chip_event boot.partitions c ≡ Some e → slice_get after_flips k ≡ Some now
      → turn_step model boot sizes course session ≡ after_chip_event k now e
  turn_event_is session k c now e lit attached h at next flipped =
      turn_goes_on model boot sizes course session lit attached k c h at ∙ ap (event_or_answer model boot sizes course k c) next ∙ event_is k now e flipped

  -- a pending operation is answered
  pub turn_answer_is : (session k : ℕ) (c : ChipRun W) (known : Known) (pending : Pending) (finished : Finished) → course.dark ≡ false → unattached course
      ≡ None → pending_chip course session ≡ Some k
      → slice_get course.chips k ≡ Some c → next_chip_event boot.partitions c ≡ None → c.known ≡ Some known → c.pending ≡ Some pending
      → finished_by boot.partitions c known pending ≡ Some finished
      → turn_step model boot sizes course session ≡ finish sizes course k c pending.session (Some finished)
  turn_answer_is session k c known pending finished lit attached h at next is_known is_pending over =
      turn_goes_on model boot sizes course session lit attached k c h at ∙ ap (event_or_answer model boot sizes course k c) next
      ∙ (λ j. with_answer boot.partitions sizes course k c (is_known j) (is_pending j)) ∙ ap (finish sizes course k c pending.session) over

  -- what is kept after an event, of a chip that stood so after the flips
  pub event_kept : (kept : List (SlotState W)) (events : ℕ) (dark : Bool) (notes : List Note) (k : ℕ) (c : ChipRun W) (e : PageEvent)
      → Keeps boot.partitions course kept events dark notes → slice_get after_flips k ≡ Some c
      → Keeps boot.partitions (after_chip_event k c e)
      (change_at (slot_flips_before model boot.flips (events + 1) kept) k (slot_after model e (tear_at boot.cut (events + 1)))) (events + 1)
      (is_some (tear_at boot.cut (events + 1)))
      (notes_after model k (events + 1) e (tear_at boot.cut (events + 1)) (slot_as boot.partitions c) notes)
  event_kept kept events dark notes k c e keeps at =
      subst (λ n. Keeps boot.partitions (after_chip_event k c e)
      (change_at (slot_flips_before model boot.flips (n + 1) kept) k (slot_after model e (tear_at boot.cut (n + 1)))) (n + 1)
      (is_some (tear_at boot.cut (n + 1))) (notes_after model k (n + 1) e (tear_at boot.cut (n + 1)) (slot_as boot.partitions c) notes))
      (sym keeps.of_events) (by_tear (tear_at boot.cut (course.events + 1)))
    where
      flipped : slot_flips_before model boot.flips (course.events + 1) kept ≡ slots_as boot.partitions after_flips
      flipped = ap (slot_flips_before model boot.flips (course.events + 1)) keeps.of_chips
          ∙ sym (flips_kept model boot.partitions boot (course.events + 1) course.chips)

      by_tear : (o : Option Tear) → Keeps boot.partitions (event_done model boot course after_flips k (course.events + 1) c e o)
          (change_at (slot_flips_before model boot.flips (course.events + 1) kept) k (slot_after model e o)) (course.events + 1) (is_some o)
          (notes_after model k (course.events + 1) e o (slot_as boot.partitions c) notes)
      by_tear None = record {
        of_chips = ap (λ xs. change_at xs k (λ x. with_note_written (after_event model e x))) flipped
            ∙ sym (mapped_change (slot_as boot.partitions) (λ old. advanced model c e) (λ x. with_note_written (after_event model e x)) after_flips k c at
            (slot_advanced boot.partitions model c e));
        of_events = refl;
        of_dark = refl;
        of_notes =
            let failed : failure_notes k (course.events + 1) e (failure_told model c.chip e) ≡ notes_of_advance model k (course.events + 1) c e = sym
            (failure_is boot.partitions model k (course.events + 1) c e) in
            let pending_note : pending_notes k (after_event model e (slot_as boot.partitions c)).pending_note ≡ attach_notes k c (advanced model c e) = sym
            (pending_note_is boot.partitions model k c e) in
            λ j. keeps.of_notes j ++ failed j ++ pending_note j;
      }
      by_tear (Some tear) = record {
        of_chips = ap (λ xs. change_at xs k (after_tear model e tear)) flipped
            ∙ sym (mapped_change (slot_as boot.partitions) (λ old. torn_at model c e (done_bits (raw_len c.chip.geometry) tear)) (after_tear model e tear)
            after_flips k c at (slot_torn boot.partitions model c e tear));
        of_events = refl;
        of_dark = refl;
        of_notes = ap (λ zs. zs ++ notes_of_cut model k (course.events + 1) c e (done_bits (raw_len c.chip.geometry) tear)) keeps.of_notes;
      }

  -- what is kept after an operation began
  pub begin_kept : (kept : List (SlotState W)) (events : ℕ) (dark : Bool) (notes : List Note) (session k : ℕ) (op : Op) (c : ChipRun W) (known : Known)
      → Keeps boot.partitions course kept events dark notes → slice_get course.chips k ≡ Some c → c.known ≡ Some known → c.pending ≡ None
      → Keeps boot.partitions (began course session k op) (change_at kept k (after_begin boot.partitions session op)) events dark (notes ++ Began session op ∷ [])
  begin_kept kept events dark notes session k op c known keeps at is_known free = record {
    of_dark = keeps.of_dark;
    of_chips = ap (λ xs. change_at xs k (after_begin boot.partitions session op)) keeps.of_chips
        ∙ sym (mapped_change (slot_as boot.partitions) (λ d. with_pending d session op) (after_begin boot.partitions session op) course.chips k c at
        (begun boot.partitions c known session op is_known free));
    of_events = keeps.of_events;
    of_notes = ap (λ zs. zs ++ Began session op ∷ []) keeps.of_notes;
  }

  -- what is kept after an operation is answered
  pub answer_kept : (kept : List (SlotState W)) (events : ℕ) (dark : Bool) (notes : List Note) (session k : ℕ) (c : ChipRun W) (finished : Finished)
      → Keeps boot.partitions course kept events dark notes → slice_get course.chips k ≡ Some c
      → Keeps boot.partitions (finish sizes course k c session (Some finished)) (change_at kept k (after_answer finished.known)) events dark
      (notes ++ Answered session finished.reply ∷ [])
  answer_kept kept events dark notes session k c finished keeps at = record {
    of_dark = keeps.of_dark;
    of_chips = ap (λ xs. change_at xs k (after_answer finished.known)) keeps.of_chips
        ∙ sym (mapped_change (slot_as boot.partitions) (λ old. with_finished c finished) (after_answer finished.known) course.chips k c at
        (answered boot.partitions c finished));
    of_events = keeps.of_events;
    of_notes = ap (λ zs. zs ++ Answered session finished.reply ∷ []) keeps.of_notes;
  }
