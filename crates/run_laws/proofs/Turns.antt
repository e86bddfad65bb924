-- A turn is one step exactly where it is not idle.
use Rattle.std.proofs.Common.{◌≡◌, ℕ, ◌+◌, Bool, true, false, not, ◌&&◌, List, [], ◌∷◌, ◌++◌, Option, Some, None, refl, ap, sym, ◌∙◌, subst, append_assoc}
use Rattle.std.specs.Prelude.{slice_get, fold, is_none, is_some, if◌then◌else◌}
use Rattle.std.proofs.lemmas.Bool.{false≢true, eqb-true, or_parts}
use Rattle.std.proofs.lemmas.Option.{none-some}
use Rattle.nand_model.specs.declared.geometry.Geometry.{Geometry}
use Rattle.nand_model.specs.declared.tear.Tear.{Tear}
use Rattle.nand_model.specs.declared.words.Command.{Command}
use Rattle.nand_model.specs.declared.words.Op.{Op}
use Rattle.nand_model.specs.declared.words.Note.TheVariants.{Answered}
use Rattle.nand_model.specs.Chip.{ChipState, FaultModel, PageEvent}
use Rattle.chip_paths.specs.Operation.{Known, Finished}
use Rattle.nand_model.specs.Partitions.{device_of, chip_of}
use Rattle.chip_paths.specs.ChipRun.{ChipRun, Pending, next_event_by, next_chip_event, finished_by}
use Rattle.command_model.specs.Boot.{Boot}
use Rattle.run_model.specs.Course.{Course, can_begin, is_free_at, is_free, is_idle, is_pending_of, pending_chip, unattached, began, session_run, with_flips_before, with_answer, finish, event_done, event_on, event_or_answer, chip_step, begin_on, begin_at, begin_step, session_step, turn_unless, turn_step, sizes_of}
use Rattle.nand_model.specs.Cuts.{tear_at}
use Rattle.command_model.specs.Session.{next_op}
use Rattle.run_laws.specs.Turns.{IsStep, Begins, DoesEvent, Answers, TurnIsStep, busy_turns, BusyTurnsSuffice}
use Rattle.run_laws.proofs.Paths.{result_by}
use Rattle.run_laws.proofs.Places.{none_there, position_is, position_none}
use Rattle.run_laws.proofs.Courses.{rest_of, due_rest}

not_false : (b : Bool) → not b ≡ false → b ≡ true
not_false true h = refl
not_false false h = absurd (false≢true (sym h))

module _ {W : Type 0} (model : FaultModel W) (boot : Boot) (sizes : Command → Geometry) (course : Course W) (session : ℕ) where
  begin_is_step : (k : ℕ) (op : Op) (o : Option (ChipRun W)) → is_free o ≡ true → IsStep session course (begin_on model boot course session op k o)
  begin_is_step k op None h = absurd (false≢true h)
  begin_is_step k op (Some c) h = by_pending c.pending h
    where
      by_pending : (p : Option Pending) → is_none p ≡ true → IsStep session course (if is_some p then course else began course session k op)
      by_pending None e = Begins op refl refl
      by_pending (Some pending) e = absurd (false≢true e)

  begin_at_is_step : (op : Op) (o : Option ℕ) → is_free_at course o ≡ true → IsStep session course (begin_at model boot course session op o)
  begin_at_is_step op None h = absurd (false≢true h)
  begin_at_is_step op (Some k) h = begin_is_step k op (slice_get course.chips k) h

  begins_is_step : (o : Option Op) → can_begin boot.partitions course o ≡ true → IsStep session course (begin_step model boot course session o)
  begins_is_step None h = absurd (false≢true h)
  begins_is_step (Some op) h = begin_at_is_step op (chip_of boot.partitions (device_of op)) h

  event_is_step : (chips : List (ChipRun W)) (k n : ℕ) (c : ChipRun W) (e : PageEvent) (tear : Option Tear) → n ≡ course.events + 1 → IsStep session course (event_done model boot course chips k n c e tear)
  event_is_step chips k n c e None h = DoesEvent _ (append_assoc course.notes _ _) h
  event_is_step chips k n c e (Some tear) h = DoesEvent _ refl h

  -- the chip on which the session has its pending operation
  chip_is_step : (k : ℕ) (c : ChipRun W) → slice_get course.chips k ≡ Some c → unattached course ≡ None → is_pending_of session c.pending ≡ true → IsStep session course (chip_step model boot sizes course k (Some c))
  chip_is_step k c at all asks = by_event (next_chip_event boot.partitions c) refl
    where
      by_flips : (e : PageEvent) (o : Option (ChipRun W)) → slice_get (with_flips_before model boot (course.events + 1) course.chips) k ≡ o
          → IsStep session course (event_on model boot course (with_flips_before model boot (course.events + 1) course.chips) k o e)
      by_flips e None x = absurd (none-some _ (sym (ap rest_of x) ∙ due_rest model boot [] course.chips (course.events + 1) k ∙ ap rest_of at))
      by_flips e (Some now) x = event_is_step (with_flips_before model boot (course.events + 1) course.chips) k (course.events + 1) now e (tear_at boot.cut (course.events + 1)) refl

      by_result : (pending : Pending) (o : Option Finished) → is_pending_of session (Some pending) ≡ true → (finished : Finished) → o ≡ Some finished → IsStep session course (finish sizes course k c pending.session o)
      by_result pending None mine finished h = absurd (none-some finished h)
      by_result pending (Some done) mine finished h = Answers done.reply (ap (λ n. course.notes ++ Answered n done.reply ∷ []) (eqb-true _ _ mine)) refl

      by_pending : (known : Option Known) (pending : Option Pending) → is_none known ≡ false → is_pending_of session pending ≡ true → next_event_by boot.partitions c.chip c.attach_answers known pending ≡ None
          → IsStep session course (with_answer boot.partitions sizes course k c known pending)
      by_pending None pending knows mine over = absurd (false≢true (sym knows))
      by_pending (Some known) None knows mine over = absurd (false≢true mine)
      by_pending (Some known) (Some pending) knows mine over =
          let r = result_by _ over in by_result pending (finished_by boot.partitions c known pending) mine r.0 r.1

      by_event : (o : Option PageEvent) → next_chip_event boot.partitions c ≡ o → IsStep session course (event_or_answer model boot sizes course k c o)
      by_event (Some e) h = by_flips e (slice_get (with_flips_before model boot (course.events + 1) course.chips) k) refl
      by_event None h = by_pending c.known c.pending (position_none (λ (z : ChipRun W). is_none z.known) course.chips all k c at) asks h

  pub turn_is_step : TurnIsStep model boot sizes course session
  turn_is_step = record {
    nothing_where_idle = λ e. ap (λ b. turn_unless model boot b sizes course session) e;
    step_else = λ e. subst (λ b. IsStep session course (turn_unless model boot b sizes course session)) (sym e)
        (by_chip (pending_chip course session) refl (none_there (unattached course) (or_parts course.dark _ (or_parts _ _ e).0).1) (or_parts _ _ e).1);
  }
    where
      free : (b : Bool) → (true && not b) ≡ false → b ≡ true
      free b h = not_false b h

      by_chip : (o : Option ℕ) → pending_chip course session ≡ o → unattached course ≡ None → (is_none o && not (can_begin boot.partitions course (next_op sizes (session_run course session)))) ≡ false
          → IsStep session course (session_step model boot sizes course session o)
      by_chip None h all e = begins_is_step (next_op sizes (session_run course session)) (free _ e)
      by_chip (Some k) h all e =
          let c = position_is (λ (z : ChipRun W). is_pending_of session z.pending) course.chips k h in
          subst (λ o. IsStep session course (chip_step model boot sizes course k o)) (sym c.1) (chip_is_step k c.0 c.1 all c.2)

module _ {W : Type 0} (model : FaultModel W) (boot : Boot) (starts : List (ChipState W)) where
  pub busy_turns_suffice : (turns : List ℕ) (course : Course W) → BusyTurnsSuffice model boot starts turns course
  busy_turns_suffice [] course = record { same_course = refl; all_busy = refl }
  busy_turns_suffice (session ∷ turns) course =
      by_idle (is_idle boot.partitions (sizes_of boot starts) course session) refl (busy_turns_suffice turns (turn_step model boot (sizes_of boot starts) course session))
    where
      next : Course W
      next = turn_step model boot (sizes_of boot starts) course session

      busy : List ℕ
      busy = busy_turns model boot starts turns next

      put : Bool → List ℕ → List ℕ
      put b rest = (if b then [] else session ∷ []) ++ rest

      by_idle : (b : Bool) → is_idle boot.partitions (sizes_of boot starts) course session ≡ b → BusyTurnsSuffice model boot starts turns next → BusyTurnsSuffice model boot starts (session ∷ turns) course
      by_idle true e h =
          let same : next ≡ course = (turn_is_step model boot (sizes_of boot starts) course session).nothing_where_idle e in
          let short : put (is_idle boot.partitions (sizes_of boot starts) course session) busy ≡ busy = ap (λ b. put b busy) e in record {
            same_course = ap (λ zs. fold (turn_step model boot (sizes_of boot starts)) course zs) short ∙ ap (λ z. fold (turn_step model boot (sizes_of boot starts)) z busy) (sym same) ∙ h.same_course;
            all_busy = ap (λ zs. busy_turns model boot starts zs course) short ∙ ap (λ z. busy_turns model boot starts busy z) (sym same) ∙ h.all_busy ∙ sym short;
          }
      by_idle false e h =
          let long : put (is_idle boot.partitions (sizes_of boot starts) course session) busy ≡ session ∷ busy = ap (λ b. put b busy) e in record {
            same_course = ap (λ zs. fold (turn_step model boot (sizes_of boot starts)) course zs) long ∙ h.same_course;
            all_busy = ap (λ zs. busy_turns model boot starts zs course) long ∙ ap (λ b. put b (busy_turns model boot starts busy next)) e ∙ ap (λ zs. session ∷ zs) h.all_busy ∙ sym long;
          }
