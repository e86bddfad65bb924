-- A chip with tables in a boot, from step to step: its paths keep account of the blocks that its
-- notes say have failed.
use Rattle.std.proofs.Common.{◌≡◌, ◌||◌, ◌&&◌, ◌==◌, ℕ, Bool, true, false, List, [], ◌∷◌, ◌++◌, Option, Some, None, refl, ap, sym, ◌∙◌, subst}
use Rattle.std.specs.List.{list_any}
use Rattle.std.proofs.lemmas.Bool.{eq-eqb, false≢true}
use Rattle.std.proofs.lemmas.Option.{none-some}
use Rattle.std.proofs.lemmas.List.Folds.{list_any-append}
use Rattle.nand_model.specs.Chip.{ChipState, Complete, DoneBits, EraseCall, EraseEvent, FaultModel, PageEvent, PowerCut, ProgramCall, ProgramEvent, ReadEvent, failure_of, flip_events, happens}
use Rattle.nand_model.specs.Path.{Answer, Path, Over, Then, after_answers, answer_to, good_or_failed, is_failure, is_good, next_event, result_of}
use Rattle.nand_model.specs.Table.{has_tables}
use Rattle.nand_model.specs.declared.geometry.Geometry.{Geometry}
use Rattle.nand_model.specs.declared.words.Note.{Note}
use Rattle.nand_model.specs.declared.words.Note.TheVariants.{Answered, Began}
use Rattle.nand_model.specs.declared.words.Op.{Op}
use Rattle.chip_paths.specs.Attach.{Attaching, attach_path}
use Rattle.chip_paths.specs.ChipRun.{ChipRun, Pending, advanced, answered_by, attach_notes, chip_at_start, finished_by, known_at_first, known_once_over, name_of, next_chip_event, next_event_by, notes_of_advance, notes_of_cut, pending_after, torn_at, torn_by, torn_notes, with_finished, with_flips, with_pending}
use Rattle.chip_paths.specs.Operation.{Finished, Known, operation_path}
use Rattle.command_model.specs.Boot.{Boot}
use Rattle.run_model.specs.Marking.{is_failure_at, is_failure_note}
use Rattle.run_laws.proofs.Traces.{geometry_after}
use Rattle.crash_laws.proofs.Failures.{or_left, or_right}
use Rattle.copy_laws.proofs.Attaches.{AttachEnds, Told, attach_sound, told_more}
use Rattle.copy_laws.proofs.Operations.{OpEnds, operation_sound}
use Rattle.copy_laws.proofs.Sound.{AreAmong, Failing, IsTold, Sound, answers_joined, sound_event, sound_more, sound_result}
use Rattle.copy_laws.proofs.Steps.{IsKept}

-- the blocks that have failed by these notes
abbrev pub failing_in : Geometry → ℕ → List Note → Failing
failing_in g k notes b = list_any (is_failure_note g k b) notes

was_failure : (o : Option DoneBits) → is_good (good_or_failed o) ≡ false → is_failure (good_or_failed o) ≡ true
was_failure None h = absurd (false≢true (sym h))
was_failure (Some done) h = refl

noted_one : (own at : Bool) → own ≡ true → at ≡ true → ((own && at) || false) ≡ true
noted_one own at e f = rw (e, f) refl

module _ {W : Type 0} (model : FaultModel W) (boot : Boot) (k : ℕ) (g : Geometry) where
  abbrev pub StandsFor : Failing → List Answer → Option Known → Option Pending → Type 0
  StandsFor failing answers None pending = Sound g (AttachEnds g) (after_answers answers (attach_path g)) failing
  StandsFor failing answers (Some known) None = Told g known failing
  StandsFor failing answers (Some known) (Some p) =
      Told g known failing × Sound g (OpEnds g) (after_answers p.answers (operation_path g boot.partitions known p.op)) failing

  pub record Stands (r : ChipRun W) (notes : List Note) : Type 0 where
    pub geometry : r.chip.geometry ≡ g
    pub stands : has_tables g ≡ true → StandsFor (failing_in g k notes) r.attach_answers r.known r.pending

  among_more : (notes new : List Note) → AreAmong (failing_in g k notes) (failing_in g k (notes ++ new))
  among_more notes new b h =
      list_any-append (is_failure_note g k b) notes new ∙ or_left (list_any (is_failure_note g k b) notes) (list_any (is_failure_note g k b) new) h

  attach_more : (a : Attaching) (x y : Failing) → AreAmong x y → AttachEnds g a x → AttachEnds g a y
  attach_more a x y among t = told_more g (known_at_first a) x y among t

  op_more : (f : Finished) (x y : Failing) → AreAmong x y → OpEnds g f x → OpEnds g f y
  op_more f x y among t = told_more g f.known x y among t

  stands_more : (x y : Failing) → AreAmong x y → (answers : List Answer) (known : Option Known) (pending : Option Pending) → StandsFor x answers known pending → StandsFor y answers known pending
  stands_more x y among answers None pending h = sound_more g (AttachEnds g) attach_more (after_answers answers (attach_path g)) x y among h
  stands_more x y among answers (Some known) None h = told_more g known x y among h
  stands_more x y among answers (Some known) (Some p) h =
      (told_more g known x y among h.0, sound_more g (OpEnds g) op_more (after_answers p.answers (operation_path g boot.partitions known p.op)) x y among h.1)

  -- notes of others
  keeps_more : (r : ChipRun W) (notes new : List Note) → Stands r notes → Stands r (notes ++ new)
  keeps_more r notes new h = record {
    geometry = h.geometry;
    stands = λ tables. stands_more (failing_in g k notes) (failing_in g k (notes ++ new)) (among_more notes new) r.attach_answers r.known r.pending (h.stands tables);
  }

  keeps_flips : (r : ChipRun W) (notes : List Note) (page : ℕ) (bits : List ℕ) → Stands r notes → Stands (with_flips model r page bits) notes
  keeps_flips r notes page bits h = record { geometry = geometry_after model r.chip (flip_events page bits) ∙ h.geometry; stands = h.stands }

  -- ---- events
  module _ (r : ChipRun W) (notes : List Note) (n : ℕ) (e : PageEvent) (h : Stands r notes) where
    abbrev answer : Answer
    answer = answer_to model r.chip e

    abbrev after : ChipState W
    after = happens model r.chip (Complete e)

    abbrev new : List Note
    new = notes_of_advance model k n r e

    -- a failed event has its note
    noted : (b : ℕ) → is_failure (answer_to model r.chip e) ≡ true → is_failure_at g b (name_of e) ≡ true → list_any (is_failure_note g k b) (notes_of_advance model k n r e) ≡ true
    noted b failed at =
        subst (λ t. list_any (is_failure_note g k b) (torn_notes t k n false r.chip e (happens model r.chip (Complete e))) ≡ true) (sym failed)
        (noted_one (k == k) (is_failure_at g b (name_of e)) (eq-eqb k k refl) at)

    -- also among all notes
    noted_in : (last : List Note) (b : ℕ) → list_any (is_failure_note g k b) (notes_of_advance model k n r e) ≡ true → failing_in g k (notes ++ notes_of_advance model k n r e ++ last) b ≡ true
    noted_in last b is =
        list_any-append (is_failure_note g k b) (notes ++ new) last
        ∙ or_left (list_any (is_failure_note g k b) (notes ++ new)) (list_any (is_failure_note g k b) last)
        (list_any-append (is_failure_note g k b) notes new ∙ or_right (list_any (is_failure_note g k b) notes) (list_any (is_failure_note g k b) new) is)

    told : (last : List Note) (event : PageEvent) → e ≡ event → IsTold g event (answer_to model r.chip event) (failing_in g k (notes ++ notes_of_advance model k n r e ++ last))
    told last (ReadEvent page) is = tt
    told last (ProgramEvent page image) is = λ bad b at.
        noted_in last b (noted b (ap (λ x. is_failure (answer_to model r.chip x)) is ∙ was_failure (failure_of model r.chip (ProgramCall page)) bad) (ap (λ x. is_failure_at g b (name_of x)) is ∙ at))
    told last (EraseEvent block) is = λ bad b at.
        noted_in last b (noted b (ap (λ x. is_failure (answer_to model r.chip x)) is ∙ was_failure (failure_of model r.chip (EraseCall block)) bad) (ap (λ x. is_failure_at g b (name_of x)) is ∙ at))

    all_among : (last : List Note) → AreAmong (failing_in g k notes) (failing_in g k (notes ++ notes_of_advance model k n r e ++ last))
    all_among last b f = among_more (notes ++ new) last b (among_more notes new b f)

    by_path : (now : Failing) (answers : List Answer) (path : Path Attaching) → after_answers answers (attach_path g) ≡ path → Sound g (AttachEnds g) path now → StandsFor now answers (known_once_over path) None
    by_path now answers (Over a) is s = s
    by_path now answers (Then event rest) is s = subst (λ p. Sound g (AttachEnds g) p now) (sym is) s

    module _ (last : List Note) where
      abbrev now : Failing
      now = failing_in g k (notes ++ notes_of_advance model k n r e ++ last)

      on_event : (known : Option Known) → r.known ≡ known → (pending : Option Pending) → r.pending ≡ pending
          → (has_tables g ≡ true → StandsFor (failing_in g k notes) r.attach_answers known pending) → next_event_by boot.partitions r.chip r.attach_answers known pending ≡ Some e
          → Stands (answered_by r after answer known) (notes ++ notes_of_advance model k n r e ++ last)
      on_event None is pending p stands next = record {
        geometry = geometry_after model r.chip (Complete e ∷ []) ∙ h.geometry;
        stands = λ tables.
            subst (λ q. StandsFor now (r.attach_answers ++ answer ∷ []) (known_once_over (after_answers (r.attach_answers ++ answer ∷ []) (attach_path q))) None) (sym h.geometry)
            (by_path now (r.attach_answers ++ answer ∷ []) (after_answers (r.attach_answers ++ answer ∷ []) (attach_path g)) refl
            (subst (λ path. Sound g (AttachEnds g) path now) (sym (answers_joined g (AttachEnds g) r.attach_answers (answer ∷ []) (attach_path g)))
            (sound_event g (AttachEnds g) (after_answers r.attach_answers (attach_path g)) e answer (failing_in g k notes) now
            (subst (λ q. next_event (attach_path q) r.attach_answers ≡ Some e) h.geometry next) (all_among last) (told last e refl) (stands tables))));
      }
      on_event (Some known) is None p stands next = absurd (none-some e next)
      on_event (Some known) is (Some op) p stands next = record {
        geometry = geometry_after model r.chip (Complete e ∷ []) ∙ h.geometry;
        stands = λ tables.
            subst (λ o. StandsFor now r.attach_answers o (pending_after r.pending answer)) (sym is)
            (subst (λ o. StandsFor now r.attach_answers (Some known) (pending_after o answer)) (sym p) (
              told_more g known (failing_in g k notes) now (all_among last) (stands tables).0,
              subst (λ path. Sound g (OpEnds g) path now) (sym (answers_joined g (OpEnds g) op.answers (answer ∷ []) (operation_path g boot.partitions known op.op)))
                  (sound_event g (OpEnds g) (after_answers op.answers (operation_path g boot.partitions known op.op)) e answer (failing_in g k notes) now
                  (subst (λ q. next_event (operation_path q boot.partitions known op.op) op.answers ≡ Some e) h.geometry next) (all_among last) (told last e refl) (stands tables).1),
            ));
      }

    keeps_event : next_chip_event boot.partitions r ≡ Some e → Stands (advanced model r e) (notes ++ notes_of_advance model k n r e ++ attach_notes k r (advanced model r e))
    keeps_event next = on_event (attach_notes k r (advanced model r e)) r.known refl r.pending refl h.stands next

  keeps_cut : (r : ChipRun W) (notes : List Note) (n : ℕ) (e : PageEvent) (done : DoneBits) → Stands r notes → Stands (torn_at model r e done) (notes ++ notes_of_cut model k n r e done)
  keeps_cut r notes n e done h = on r.known
    where
      more : Stands r (notes ++ notes_of_cut model k n r e done)
      more = keeps_more r notes (notes_of_cut model k n r e done) h

      sized : (happens model r.chip (PowerCut e done)).geometry ≡ g
      sized = geometry_after model r.chip (PowerCut e done ∷ []) ∙ h.geometry

      on : (known : Option Known) → Stands (torn_by r (happens model r.chip (PowerCut e done)) known) (notes ++ notes_of_cut model k n r e done)
      on None = record { geometry = sized; stands = more.stands }
      on (Some known) = record { geometry = sized; stands = more.stands }

  -- ---- operations
  keeps_begin : (r : ChipRun W) (notes : List Note) (session : ℕ) (op : Op) → Stands r notes → Stands (with_pending r session op) (notes ++ Began session op ∷ [])
  keeps_begin r notes session op h = record { geometry = h.geometry; stands = λ tables. on tables r.known r.pending (more.stands tables) }
    where
      more : Stands r (notes ++ Began session op ∷ [])
      more = keeps_more r notes (Began session op ∷ []) h

      on : has_tables g ≡ true → (known : Option Known) (pending : Option Pending) → StandsFor (failing_in g k (notes ++ Began session op ∷ [])) r.attach_answers known pending
          → StandsFor (failing_in g k (notes ++ Began session op ∷ [])) r.attach_answers known (Some (record { session = session; op = op; answers = [] }))
      on tables None pending s = s
      on tables (Some known) None s = (s, operation_sound g tables known (failing_in g k (notes ++ Began session op ∷ [])) s boot.partitions op)
      on tables (Some known) (Some p) s = (s.0, operation_sound g tables known (failing_in g k (notes ++ Began session op ∷ [])) s.0 boot.partitions op)

  keeps_answer : (r : ChipRun W) (notes : List Note) (known : Known) (pending : Pending) (finished : Finished) → r.known ≡ Some known → r.pending ≡ Some pending
      → finished_by boot.partitions r known pending ≡ Some finished → Stands r notes → Stands (with_finished r finished) (notes ++ Answered pending.session finished.reply ∷ [])
  keeps_answer r notes known pending finished is p over h = record {
    geometry = h.geometry;
    stands = λ tables.
        let s : StandsFor (failing_in g k notes) r.attach_answers (Some known) (Some pending) =
        subst (λ o. StandsFor (failing_in g k notes) r.attach_answers (Some known) o) p (subst (λ o. StandsFor (failing_in g k notes) r.attach_answers o r.pending) is (h.stands tables)) in
        told_more g finished.known (failing_in g k notes) (failing_in g k (notes ++ Answered pending.session finished.reply ∷ [])) (among_more notes (Answered pending.session finished.reply ∷ []))
        (sound_result g (OpEnds g) (after_answers pending.answers (operation_path g boot.partitions known pending.op)) finished (failing_in g k notes)
        (subst (λ q. result_of (after_answers pending.answers (operation_path q boot.partitions known pending.op)) ≡ Some finished) h.geometry over) s.1);
  }

  pub stands_kept : IsKept model boot k Stands
  stands_kept = record {
    more = keeps_more;
    flips = keeps_flips;
    event = λ r notes n e next h. keeps_event r notes n e h next;
    cut = λ r notes n e done next h. keeps_cut r notes n e done h;
    begins = keeps_begin;
    answers = keeps_answer;
  }

  -- a chip at the start of a boot
  pub stands_first : (s : ChipState W) → s.geometry ≡ g → Stands (chip_at_start s) []
  stands_first s e = record { geometry = e; stands = λ tables. attach_sound g tables (failing_in g k []) }

  -- what is known of an attached chip
  pub told_at : (r : ChipRun W) (notes : List Note) (known : Known) → has_tables g ≡ true → r.known ≡ Some known → Stands r notes → Told g known (failing_in g k notes)
  told_at r notes known tables is h = on r.pending (subst (λ o. StandsFor (failing_in g k notes) r.attach_answers o r.pending) is (h.stands tables))
    where
      on : (pending : Option Pending) → StandsFor (failing_in g k notes) r.attach_answers (Some known) pending → Told g known (failing_in g k notes)
      on None s = s
      on (Some p) s = s.0
