-- What a step of a course may be.
use Rattle.std.proofs.Common.{◌≡◌, ℕ, ◌+◌, Bool, true, false, List, Option, Some, None, refl, sym, subst}
use Rattle.std.specs.Prelude.{slice_get, is_none, is_some, if◌then◌else◌}
use Rattle.std.proofs.lemmas.Bool.{false≢true}
use Rattle.nand_model.specs.declared.geometry.Geometry.{Geometry}
use Rattle.nand_model.specs.declared.tear.Tear.{Tear}
use Rattle.nand_model.specs.declared.words.Command.{Command}
use Rattle.nand_model.specs.declared.words.Op.{Op}
use Rattle.nand_model.specs.Chip.{FaultModel, PageEvent}
use Rattle.chip_paths.specs.ChipRun.{ChipRun, Pending, finished_by, next_chip_event}
use Rattle.chip_paths.specs.Operation.{Finished, Known}
use Rattle.nand_model.specs.Partitions.{device_of, chip_of}
use Rattle.command_model.specs.Boot.{Boot}
use Rattle.run_model.specs.Course.{Course, attach_first, attach_step, begin_at, begin_on, begin_step, began, chip_step, event_done, event_on, event_or_answer, finish, is_idle, pending_chip, session_run, session_step, turn_step, turn_unless, unattached, with_answer, with_flips_before}
use Rattle.nand_model.specs.Cuts.{tear_at}
use Rattle.command_model.specs.Session.{next_op}
use Rattle.run_laws.proofs.Places.{position_is}

module _ {W : Type 0} (model : FaultModel W) (boot : Boot) (sizes : Command → Geometry) (course : Course W) where
  -- the chips once the flips that are due are made
  abbrev pub flipped_chips : List (ChipRun W)
  flipped_chips = with_flips_before model boot (course.events + 1) course.chips

  module _ (P : Course W → Type 0) where
    -- nothing happens, or an event is done
    pub record AttachCases : Type 0 where
      pub same : P course
      pub event : (k : ℕ) (c : ChipRun W) (e : PageEvent) (tear : Option Tear) → slice_get flipped_chips k ≡ Some c
          → P (event_done model boot course flipped_chips k (course.events + 1) c e tear)

    -- or an operation begins, or one is answered
    pub record TurnCases : Type 0 where
      pub same : P course
      pub event : (k : ℕ) (c : ChipRun W) (e : PageEvent) (tear : Option Tear) → slice_get flipped_chips k ≡ Some c
          → P (event_done model boot course flipped_chips k (course.events + 1) c e tear)
      pub begins : (session k : ℕ) (op : Op) → chip_of boot.partitions (device_of op) ≡ Some k → P (began course session k op)
      pub answers : (k : ℕ) (c : ChipRun W) (known : Known) (pending : Pending) (finished : Finished) → slice_get course.chips k ≡ Some c
          → c.known ≡ Some known → c.pending ≡ Some pending → finished_by boot.partitions c known pending ≡ Some finished
          → P (finish sizes course k c pending.session (Some finished))

    event_case : AttachCases → (k : ℕ) (e : PageEvent) (o : Option (ChipRun W)) → slice_get flipped_chips k ≡ o → P (event_on model boot course flipped_chips k o e)
    event_case h k e None there = h.same
    event_case h k e (Some c) there = h.event k c e (tear_at boot.cut (course.events + 1)) there

    known_none : (o : Option Known) → is_none o ≡ true → o ≡ None
    known_none None e = refl
    known_none (Some known) e = absurd (false≢true e)

    first_case : AttachCases → (o : Option ℕ) → unattached course ≡ o → P (attach_first model boot sizes course o)
    first_case h None e = h.same
    first_case h (Some k) e =
        let c = position_is (λ (z : ChipRun W). is_none z.known) course.chips k e in
        subst (λ (o : Option (ChipRun W)). P (chip_step model boot sizes course k o)) (sym c.1)
        (by_next c.0 (known_none c.0.known c.2) (next_chip_event boot.partitions c.0))
      where
        by_next : (c : ChipRun W) → c.known ≡ None → (next : Option PageEvent) → P (event_or_answer model boot sizes course k c next)
        by_next c unknown (Some e) = event_case h k e (slice_get flipped_chips k) refl
        by_next c unknown None = subst (λ (known : Option Known). P (with_answer boot.partitions sizes course k c known c.pending)) (sym unknown) h.same

    pub by_attach : AttachCases → P (attach_step model boot sizes course)
    by_attach h = by_dark course.dark
      where
        by_dark : (b : Bool) → P (if b then course else attach_first model boot sizes course (unattached course))
        by_dark true = h.same
        by_dark false = first_case h (unattached course) refl

    answer_case : TurnCases → (k : ℕ) (c : ChipRun W) → slice_get course.chips k ≡ Some c → (known : Option Known) (pending : Option Pending) → c.known ≡ known → c.pending ≡ pending
        → P (with_answer boot.partitions sizes course k c known pending)
    answer_case h k c there None None knows asks = h.same
    answer_case h k c there None (Some pending) knows asks = h.same
    answer_case h k c there (Some known) None knows asks = h.same
    answer_case h k c there (Some known) (Some pending) knows asks = by_finished (finished_by boot.partitions c known pending) refl
      where
        by_finished : (o : Option Finished) → finished_by boot.partitions c known pending ≡ o → P (finish sizes course k c pending.session o)
        by_finished None e = h.same
        by_finished (Some finished) e = h.answers k c known pending finished there knows asks e

    chip_case : TurnCases → (k : ℕ) (o : Option (ChipRun W)) → slice_get course.chips k ≡ o → P (chip_step model boot sizes course k o)
    chip_case h k None there = h.same
    chip_case h k (Some c) there = by_next (next_chip_event boot.partitions c)
      where
        by_next : (next : Option PageEvent) → P (event_or_answer model boot sizes course k c next)
        by_next (Some e) = event_case (record { same = h.same; event = h.event }) k e (slice_get flipped_chips k) refl
        by_next None = answer_case h k c there c.known c.pending refl refl

    begin_case : TurnCases → (session : ℕ) (o : Option Op) → P (begin_step model boot course session o)
    begin_case h session None = h.same
    begin_case h session (Some op) = by_chip (chip_of boot.partitions (device_of op)) refl
      where
        by_pending : (k : ℕ) → chip_of boot.partitions (device_of op) ≡ Some k → (b : Bool) → P (if b then course else began course session k op)
        by_pending k at true = h.same
        by_pending k at false = h.begins session k op at

        by_run : (k : ℕ) → chip_of boot.partitions (device_of op) ≡ Some k → (o : Option (ChipRun W)) → P (begin_on model boot course session op k o)
        by_run k at None = h.same
        by_run k at (Some c) = by_pending k at (is_some c.pending)

        by_chip : (o : Option ℕ) → chip_of boot.partitions (device_of op) ≡ o → P (begin_at model boot course session op o)
        by_chip None at = h.same
        by_chip (Some k) at = by_run k at (slice_get course.chips k)

    session_case : TurnCases → (session : ℕ) (o : Option ℕ) → P (session_step model boot sizes course session o)
    session_case h session (Some k) = chip_case h k (slice_get course.chips k) refl
    session_case h session None = begin_case h session (next_op sizes (session_run course session))

    pub by_turn : TurnCases → (session : ℕ) → P (turn_step model boot sizes course session)
    by_turn h session = by_idle (is_idle boot.partitions sizes course session)
      where
        by_idle : (b : Bool) → P (turn_unless model boot b sizes course session)
        by_idle true = h.same
        by_idle false = session_case h session (pending_chip course session)
