-- Each step of a course keeps the invariant.
use Rattle.std.proofs.Common.{◌≡◌, inl, inr, ℕ, ◌+◌, Bool, true, false, List, [], ◌∷◌, ◌++◌, length, Option, Some, None, refl, ap, sym, ◌∙◌, subst, subst₂}
use Rattle.std.specs.Prelude.{slice_get, option_map, is_none, is_some, if◌then◌else◌}
use Rattle.std.proofs.lemmas.Bool.{false≢true, eq-eqb, or_parts}
use Rattle.std.proofs.lemmas.Option.{none-some, same_Some, some_pair_parts}
use Rattle.nand_model.specs.declared.words.Note.{Note}
use Rattle.nand_model.specs.declared.words.Note.TheVariants.{Began, Answered}
use Rattle.nand_model.specs.declared.words.Op.{Op}
use Rattle.nand_model.specs.Chip.{ChipState, FaultModel, PageEvent}
use Rattle.chip_paths.specs.Operation.{Known, Finished}
use Rattle.nand_model.specs.Partitions.{device_of, chip_of}
use Rattle.chip_paths.specs.ChipRun.{ChipRun, Pending, next_chip_event, with_pending, finished_by, with_finished}
use Rattle.command_model.specs.Boot.{Boot, change_at}
use Rattle.run_model.specs.Course.{Course, with_flips_before, session_run, unattached, pending_chip, is_pending_of, began, finish, with_answer, is_idle, turn_unless, event_or_answer, chip_step, begin_on, begin_at, begin_step, session_step, turn_step, attach_first, attach_step, sizes_of}
use Rattle.command_model.specs.Session.{SessionRun, next_op}
use Rattle.run_model.specs.History.{notes_of_chip}
use Rattle.run_laws.proofs.ChipNotes.{of_chips-append, lasts, AreOf, one_is_of}
use Rattle.run_laws.proofs.Places.{none_there, position_none, change_here, change_elsewhere}
use Rattle.run_laws.proofs.Life.{ChipLaw, ChipLawAt}
use Rattle.run_laws.proofs.ChipSteps.{operation_begins, operation_answered}
use Rattle.run_laws.proofs.Sessions.{nowhere, session_begins, session_answered}
use Rattle.run_laws.proofs.Events.{chip_is_there, event_holds}
use Rattle.run_laws.proofs.Courses.{asked_by, asked_on, asked_at, LawOf, by_log, IsLive, Holds, place_update}

module _ {W : Type 0} (model : FaultModel W) (boot : Boot) (starts : List (ChipState W)) where
  -- an operation is answered
  finish_holds : (course : Course W) (k : ℕ) (c : ChipRun W) → IsLive model boot starts course → slice_get course.chips k ≡ Some c
      → (known : Known) (pending : Pending) → c.known ≡ Some known → c.pending ≡ Some pending → (o : Option Finished) → finished_by boot.partitions c known pending ≡ o
      → Holds model boot starts (finish (sizes_of boot starts) course k c pending.session o)
  finish_holds course k c live at known pending knows asks None h = inl live
  finish_holds course k c live at known pending knows asks (Some finished) h = inl (record {
    lit = live.lit;
    log = live.log;
    is_log = record { counted = live.is_log.counted; on_chips = live.is_log.on_chips };
    chips = place_update model boot starts (LawOf model boot starts (by_log model boot starts live.log)) (LawOf model boot starts (by_log model boot starts live.log)) k course.chips course.notes new change live.chips
        of_chip law (λ j d s x a. a);
    sessions = λ n. session_answered boot.partitions (sizes_of boot starts) boot.sessions n pending.session k pending.op finished.reply (asked_at course.chips) (asked_at (change_at course.chips k change)) course.sessions course.notes
        (live.sessions n) is_asked (ap asked_on (change_here course.chips k change ∙ ap (option_map change) at)) (λ j d. ap asked_on (change_elsewhere course.chips k j change d));
    of_chips = of_chips-append boot.partitions (length starts) nowhere course.notes new live.of_chips
        (of_chip.there (length starts) (chip_is_there model boot starts (LawOf model boot starts (by_log model boot starts live.log)) course.chips course.notes k c live.chips at));
  })
    where
      new : List Note
      new = Answered pending.session finished.reply ∷ []

      before : List Note
      before = notes_of_chip boot.partitions k course.notes

      change : ChipRun W → ChipRun W
      change old = with_finished c finished

      is_asked : asked_at course.chips k ≡ Some (pending.session, pending.op)
      is_asked = ap asked_on at ∙ ap asked_by asks

      of_chip : AreOf boot.partitions (lasts boot.partitions nowhere course.notes) k new
      of_chip = one_is_of boot.partitions (lasts boot.partitions nowhere course.notes) k (Answered pending.session finished.reply) ((live.sessions pending.session).from k pending.op is_asked).0

      law : (s : ChipState W) (d : ChipRun W) → slice_get starts k ≡ Some s → slice_get course.chips k ≡ Some d → ChipLaw model boot.partitions k s d before (by_log model boot starts live.log k s)
          → ChipLaw model boot.partitions k s (change d) (before ++ new) (by_log model boot starts live.log k s)
      law s d w x l = operation_answered model boot.partitions k s c known pending before (by_log model boot starts live.log k s) finished
          (subst₂ (λ o p. ChipLawAt model boot.partitions k s c before (by_log model boot starts live.log k s) o p) knows asks
          (subst (λ z. ChipLaw model boot.partitions k s z before (by_log model boot starts live.log k s)) (same_Some d c (sym x ∙ at)) l)) h

  answer_holds : (course : Course W) (k : ℕ) (c : ChipRun W) → IsLive model boot starts course → slice_get course.chips k ≡ Some c
      → (known : Option Known) (pending : Option Pending) → c.known ≡ known → c.pending ≡ pending
      → Holds model boot starts (with_answer boot.partitions (sizes_of boot starts) course k c known pending)
  answer_holds course k c live at None pending knows asks = inl live
  answer_holds course k c live at (Some known) None knows asks = inl live
  answer_holds course k c live at (Some known) (Some pending) knows asks = finish_holds course k c live at known pending knows asks (finished_by boot.partitions c known pending) refl

  next_holds : (course : Course W) (k : ℕ) (c : ChipRun W) → IsLive model boot starts course → slice_get course.chips k ≡ Some c
      → (o : Option PageEvent) → next_chip_event boot.partitions c ≡ o → Holds model boot starts (event_or_answer model boot (sizes_of boot starts) course k c o)
  next_holds course k c live at None e = answer_holds course k c live at c.known c.pending refl refl
  next_holds course k c live at (Some ev) e = event_holds model boot starts course k c ev live at e (slice_get (with_flips_before model boot (course.events + 1) course.chips) k) refl

  chip_holds : (course : Course W) (k : ℕ) → IsLive model boot starts course → (o : Option (ChipRun W)) → slice_get course.chips k ≡ o → Holds model boot starts (chip_step model boot (sizes_of boot starts) course k o)
  chip_holds course k live None at = inl live
  chip_holds course k live (Some c) at = next_holds course k c live at (next_chip_event boot.partitions c) refl

  first_holds : (course : Course W) → IsLive model boot starts course → (o : Option ℕ) → Holds model boot starts (attach_first model boot (sizes_of boot starts) course o)
  first_holds course live None = inl live
  first_holds course live (Some k) = chip_holds course k live (slice_get course.chips k) refl

  pub attach_step_holds : (course : Course W) → Holds model boot starts course → Holds model boot starts (attach_step model boot (sizes_of boot starts) course)
  attach_step_holds course (inl live) = subst (λ b. Holds model boot starts (if b then course else attach_first model boot (sizes_of boot starts) course (unattached course))) (sym live.lit) (first_holds course live (unattached course))
  attach_step_holds course (inr cut) = subst (λ b. Holds model boot starts (if b then course else attach_first model boot (sizes_of boot starts) course (unattached course))) (sym cut.dark) (inr cut)

  -- an operation begins
  began_holds : (course : Course W) (session k : ℕ) (op : Op) (c : ChipRun W) → IsLive model boot starts course
      → unattached course ≡ None → pending_chip course session ≡ None → next_op (sizes_of boot starts) (session_run course session) ≡ Some op
      → chip_of boot.partitions (device_of op) ≡ Some k → slice_get course.chips k ≡ Some c → c.pending ≡ None
      → Holds model boot starts (began course session k op)
  began_holds course session k op c live all free next at here idle = inl (record {
    lit = live.lit;
    log = live.log;
    is_log = record { counted = live.is_log.counted; on_chips = live.is_log.on_chips };
    chips = place_update model boot starts (LawOf model boot starts (by_log model boot starts live.log)) (LawOf model boot starts (by_log model boot starts live.log)) k course.chips course.notes new change live.chips
        of_chip law (λ j d s x a. a);
    sessions = λ n. session_begins boot.partitions (sizes_of boot starts) boot.sessions n session k op (asked_at course.chips) (asked_at (change_at course.chips k change)) course.sessions course.notes
        (live.sessions n) (ap asked_on here ∙ ap asked_by idle) (ap asked_on (change_here course.chips k change ∙ ap (option_map change) here)) (λ j d. ap asked_on (change_elsewhere course.chips k j change d)) at
        (λ j other. none_pending j other (slice_get course.chips j) refl)
        asker.0 asker.1 (ap (next_op (sizes_of boot starts)) (sym asker.1) ∙ next);
    of_chips = of_chips-append boot.partitions (length starts) nowhere course.notes new live.of_chips
        (of_chip.there (length starts) (chip_is_there model boot starts (LawOf model boot starts (by_log model boot starts live.log)) course.chips course.notes k c live.chips here));
  })
    where
      new : List Note
      new = Began session op ∷ []

      before : List Note
      before = notes_of_chip boot.partitions k course.notes

      pending : Pending
      pending = record { session = session; op = op; answers = [] }

      change : ChipRun W → ChipRun W
      change old = with_pending old session op

      of_chip : AreOf boot.partitions (lasts boot.partitions nowhere course.notes) k new
      of_chip = one_is_of boot.partitions (lasts boot.partitions nowhere course.notes) k (Began session op) at

      asks : (o : Option SessionRun) → next_op (sizes_of boot starts) o ≡ Some op → (s : SessionRun) × (o ≡ Some s)
      asks None h = absurd (none-some op h)
      asks (Some s) h = (s, refl)

      asker : (s : SessionRun) × (session_run course session ≡ Some s)
      asker = asks (session_run course session) next

      not_its : (f : Option Pending) (other : Op) → is_pending_of session f ≡ false → asked_by f ≡ Some (session, other) → ⊥
      not_its None other h g = none-some _ g
      not_its (Some f) other h g = false≢true (sym h ∙ eq-eqb _ _ (some_pair_parts f.session session f.op other g).0)

      none_pending : (j : ℕ) (other : Op) (o : Option (ChipRun W)) → slice_get course.chips j ≡ o → asked_on o ≡ Some (session, other) → ⊥
      none_pending j other None x g = none-some _ g
      none_pending j other (Some d) x g = not_its d.pending other (position_none (λ (z : ChipRun W). is_pending_of session z.pending) course.chips free j d x) g

      by_known : (s : ChipState W) (known : Option Known) → c.known ≡ known → is_none known ≡ false → ChipLaw model boot.partitions k s c before (by_log model boot starts live.log k s)
          → ChipLaw model boot.partitions k s (change c) (before ++ new) (by_log model boot starts live.log k s)
      by_known s None e n l = absurd (false≢true (sym n))
      by_known s (Some known) e n l = subst (λ o. ChipLawAt model boot.partitions k s (change c) (before ++ new) (by_log model boot starts live.log k s) o (Some pending)) (sym e)
          (operation_begins model boot.partitions k s c known before (by_log model boot starts live.log k s) session op (subst₂ (λ o f. ChipLawAt model boot.partitions k s c before (by_log model boot starts live.log k s) o f) e idle l))

      law : (s : ChipState W) (d : ChipRun W) → slice_get starts k ≡ Some s → slice_get course.chips k ≡ Some d → ChipLaw model boot.partitions k s d before (by_log model boot starts live.log k s)
          → ChipLaw model boot.partitions k s (change d) (before ++ new) (by_log model boot starts live.log k s)
      law s d w x l =
          let same : c ≡ d = same_Some c d (sym here ∙ x) in
          subst (λ z. ChipLaw model boot.partitions k s (change z) (before ++ new) (by_log model boot starts live.log k s)) same
          (by_known s c.known refl (position_none (λ (z : ChipRun W). is_none z.known) course.chips all k c here) (subst (λ z. ChipLaw model boot.partitions k s z before (by_log model boot starts live.log k s)) (sym same) l))

  begin_holds : (course : Course W) (session : ℕ) → IsLive model boot starts course → unattached course ≡ None → pending_chip course session ≡ None
      → (o : Option Op) → next_op (sizes_of boot starts) (session_run course session) ≡ o → Holds model boot starts (begin_step model boot course session o)
  begin_holds course session live all free None e = inl live
  begin_holds course session live all free (Some op) e = by_chip (chip_of boot.partitions (device_of op)) refl
    where
      by_pending : (k : ℕ) (c : ChipRun W) → chip_of boot.partitions (device_of op) ≡ Some k → slice_get course.chips k ≡ Some c → (f : Option Pending) → c.pending ≡ f
          → Holds model boot starts (if is_some f then course else began course session k op)
      by_pending k c at here None idle = began_holds course session k op c live all free e at here idle
      by_pending k c at here (Some pending) x = inl live

      by_run : (k : ℕ) → chip_of boot.partitions (device_of op) ≡ Some k → (o : Option (ChipRun W)) → slice_get course.chips k ≡ o → Holds model boot starts (begin_on model boot course session op k o)
      by_run k at None here = inl live
      by_run k at (Some c) here = by_pending k c at here c.pending refl

      by_chip : (o : Option ℕ) → chip_of boot.partitions (device_of op) ≡ o → Holds model boot starts (begin_at model boot course session op o)
      by_chip None at = inl live
      by_chip (Some k) at = by_run k at (slice_get course.chips k) refl

  session_holds : (course : Course W) (session : ℕ) → IsLive model boot starts course → unattached course ≡ None
      → (o : Option ℕ) → pending_chip course session ≡ o → Holds model boot starts (session_step model boot (sizes_of boot starts) course session o)
  session_holds course session live all (Some k) e = chip_holds course k live (slice_get course.chips k) refl
  session_holds course session live all None e = begin_holds course session live all e (next_op (sizes_of boot starts) (session_run course session)) refl

  pub turn_step_holds : (course : Course W) (session : ℕ) → Holds model boot starts course → Holds model boot starts (turn_step model boot (sizes_of boot starts) course session)
  turn_step_holds course session holds = by_idle (is_idle boot.partitions (sizes_of boot starts) course session) refl holds
    where
      by_idle : (idle : Bool) → is_idle boot.partitions (sizes_of boot starts) course session ≡ idle → Holds model boot starts course → Holds model boot starts (turn_unless model boot idle (sizes_of boot starts) course session)
      by_idle true e h = h
      by_idle false e (inl live) = session_holds course session live (none_there (unattached course) (or_parts course.dark _ (or_parts _ _ e).0).1) (pending_chip course session) refl
      by_idle false e (inr cut) = absurd (false≢true (sym (or_parts course.dark _ (or_parts _ _ e).0).0 ∙ cut.dark))
