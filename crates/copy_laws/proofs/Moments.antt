-- At each moment of a boot two copies of an attached chip are whole, or a writing has failed for
-- one of them.
use Rattle.std.proofs.Common.{◌≡◌, ◌⊎◌, inl, inr, ◌+◌, ◌==◌, ℕ, true, List, [], ◌∷◌, ◌++◌, drop, length, Option, Some, None, refl, ap, sym, ◌∙◌, subst, append_assoc, append-nil}
use Rattle.std.specs.Prelude.{slice_get}
use Rattle.std.specs.List.{list_any}
use Rattle.std.proofs.lemmas.Bool.{and_from, eq-eqb}
use Rattle.std.proofs.lemmas.Option.{none-some, same_Some}
use Rattle.nand_model.specs.Chip.{ChipState, FaultModel}
use Rattle.nand_model.specs.Quiet.{is_table_block}
use Rattle.nand_model.specs.Table.{has_tables, table_blocks}
use Rattle.nand_model.specs.declared.geometry.Geometry.{Geometry}
use Rattle.nand_model.specs.declared.words.Note.{Note}
use Rattle.nand_model.specs.declared.words.Note.TheVariants.{Answered, Began}
use Rattle.chip_paths.specs.ChipRun.{ChipRun, advanced, attach_notes, notes_of_advance, notes_of_cut}
use Rattle.chip_paths.specs.Operation.{Known}
use Rattle.chip_paths.specs.Writing.{place_of}
use Rattle.command_model.specs.Boot.{Boot}
use Rattle.run_model.specs.Course.{course_after}
use Rattle.run_model.specs.Marking.{is_failure_note}
use Rattle.page_laws.specs.Keeping.{IsIn}
use Rattle.crash_laws.proofs.Failures.{or_left, or_right}
use Rattle.copy_laws.specs.Copies.{HasFailedForACopy, OperationsKeepCopies, TooFewCopiesFollowAFailure, notes_since}
use Rattle.copy_laws.proofs.Attaches.{Told}
use Rattle.copy_laws.proofs.Standing.{Stands, StandsFor, failing_in, stands_first, stands_kept, told_at}
use Rattle.copy_laws.proofs.Steps.{At, AtO, IsKept, each_later, each_moment}
use Rattle.copy_laws.proofs.Writings.{FailedFor}

in_any : (xs : List ℕ) (b : ℕ) → IsIn xs b → list_any (λ x. x == b) xs ≡ true
in_any [] b i = absurd i
in_any (x ∷ xs) b (inl e) = or_left (x == b) (list_any (λ y. y == b) xs) (eq-eqb x b (sym e))
in_any (x ∷ xs) b (inr i) = or_right (x == b) (list_any (λ y. y == b) xs) (in_any xs b i)

drop_front : (xs ys : List Note) → drop (length xs) (xs ++ ys) ≡ ys
drop_front [] ys = refl
drop_front (x ∷ xs) ys = drop_front xs ys

-- what is told of a chip, by its notes
by_notes : (g : Geometry) (k : ℕ) (known : Known) (notes : List Note) → has_tables g ≡ true → Told g known (failing_in g k notes) → (known.copies ≡ 2) ⊎ HasFailedForACopy g k known notes
by_notes g k known notes tables t = on t.copies
  where
    on : (known.copies ≡ 2) ⊎ FailedFor g known.table known.places (failing_in g k notes) → (known.copies ≡ 2) ⊎ HasFailedForACopy g k known notes
    on (inl two) = inl two
    on (inr failed) =
        let b = place_of known.places failed.which in
        inr (record {
          which = failed.which;
          place_failed = and_from (is_table_block g b) (list_any (is_failure_note g k b) notes)
              (and_from (has_tables g) (list_any (λ x. x == b) (table_blocks g)) tables (in_any (table_blocks g) b (t.inside failed.which))) failed.place_failed;
          none_left = failed.none_left;
        })

module _ {W : Type 0} (model : FaultModel W) (boot : Boot) (starts : List (ChipState W)) (k : ℕ) where
  -- where no chip is there at the start, none is there later
  none_kept : IsKept model boot k (λ r notes. ⊥)
  none_kept = record {
    more = λ r notes new h. h;
    flips = λ r notes page bits h. h;
    event = λ r notes n e next h. h;
    cut = λ r notes n e done next h. h;
    begins = λ r notes session op h. h;
    answers = λ r notes known pending finished is p over h. h;
  }

  -- a chip that is there stands, by the size that it has
  pub stands_at : (attaches : ℕ) (turns : List ℕ) (c : ChipRun W) → slice_get (course_after model boot starts attaches turns).chips k ≡ Some c
      → Stands model boot k c.chip.geometry c (course_after model boot starts attaches turns).notes
  stands_at attaches turns c is = on (slice_get starts k) refl
    where
      on : (o : Option (ChipState W)) → slice_get starts k ≡ o → Stands model boot k c.chip.geometry c (course_after model boot starts attaches turns).notes
      on None none =
          absurd (subst (AtO model boot k (λ r notes. ⊥) (course_after model boot starts attaches turns).notes) is
          (each_moment model boot k (λ r notes. ⊥) none_kept starts (λ s at. none-some s (sym none ∙ at)) attaches turns))
      on (Some s) at =
          let m : Stands model boot k s.geometry c (course_after model boot starts attaches turns).notes =
          subst (AtO model boot k (Stands model boot k s.geometry) (course_after model boot starts attaches turns).notes) is
          (each_moment model boot k (Stands model boot k s.geometry) (stands_kept model boot k s.geometry) starts
          (λ t e. stands_first model boot k s.geometry t (ap (λ (x : ChipState W). x.geometry) (same_Some t s (sym e ∙ at)))) attaches turns) in
          subst (λ q. Stands model boot k q c (course_after model boot starts attaches turns).notes) (sym m.geometry) m

  -- ---- what has come since a moment
  module _ (g : Geometry) (base : List Note) where
    abbrev Since : ChipRun W → List Note → Type 0
    Since r notes = (new : List Note) × (notes ≡ base ++ new) × Stands model boot k g r new

    one_more : (notes new more : List Note) → notes ≡ base ++ new → notes ++ more ≡ base ++ (new ++ more)
    one_more notes new more e = ap (λ xs. xs ++ more) e ∙ append_assoc base new more

    since_kept : IsKept model boot k Since
    since_kept = record {
      more = λ r notes more h. (h.0 ++ more, one_more notes h.0 more h.1, kept.more r h.0 more h.2);
      flips = λ r notes page bits h. (h.0, h.1, kept.flips r h.0 page bits h.2);
      event = λ r notes n e next h. (
        h.0 ++ notes_of_advance model k n r e ++ attach_notes k r (advanced model r e),
        one_more (notes ++ notes_of_advance model k n r e) (h.0 ++ notes_of_advance model k n r e) (attach_notes k r (advanced model r e)) (one_more notes h.0 (notes_of_advance model k n r e) h.1),
        kept.event r h.0 n e next h.2,
      );
      cut = λ r notes n e done next h. (h.0 ++ notes_of_cut model k n r e done, one_more notes h.0 (notes_of_cut model k n r e done) h.1, kept.cut r h.0 n e done next h.2);
      begins = λ r notes session op h. (h.0 ++ Began session op ∷ [], one_more notes h.0 (Began session op ∷ []) h.1, kept.begins r h.0 session op h.2);
      answers = λ r notes known pending finished is p over h. (
        h.0 ++ Answered pending.session finished.reply ∷ [],
        one_more notes h.0 (Answered pending.session finished.reply ∷ []) h.1,
        kept.answers r h.0 known pending finished is p over h.2,
      );
    }
      where
        kept : IsKept model boot k (Stands model boot k g)
        kept = stands_kept model boot k g

pub too_few_follow : {W : Type 0} (model : FaultModel W) (boot : Boot) (starts : List (ChipState W)) → TooFewCopiesFollowAFailure model boot starts
too_few_follow model boot starts attaches k turns c known h =
    by_notes c.chip.geometry k known (course_after model boot starts attaches turns).notes h.tables
    (told_at model boot k c.chip.geometry c (course_after model boot starts attaches turns).notes known h.tables h.is_known (stands_at model boot starts k attaches turns c h.is_chip))

pub operations_keep : {W : Type 0} (model : FaultModel W) (boot : Boot) (starts : List (ChipState W)) → OperationsKeepCopies model boot starts
operations_keep {W} model boot starts attaches more k turns later before now known after h idle two i =
    subst (λ notes. (after.copies ≡ 2) ⊎ HasFailedForACopy now.chip.geometry k after notes) (sym since)
    (by_notes now.chip.geometry k after now_since.0 i.tables
    (told_at model boot k now.chip.geometry now now_since.0 after i.tables i.is_known (subst (λ q. Stands model boot k q now now_since.0) (sym now_since.2.geometry) now_since.2)))
  where
    told : Told before.chip.geometry known (failing_in before.chip.geometry k (course_after model boot starts attaches turns).notes)
    told =
        told_at model boot k before.chip.geometry before (course_after model boot starts attaches turns).notes known h.tables h.is_known
        (stands_at model boot starts k attaches turns before h.is_chip)

    at_first : Stands model boot k before.chip.geometry before []
    at_first = record {
      geometry = refl;
      stands = λ tables.
          subst (λ o. StandsFor model boot k before.chip.geometry (failing_in before.chip.geometry k []) before.attach_answers o before.pending) (sym h.is_known)
          (subst (λ o. StandsFor model boot k before.chip.geometry (failing_in before.chip.geometry k []) before.attach_answers (Some known) o) (sym idle)
          (record { inside = told.inside; apart = told.apart; copies = inl two }));
    }

    start : At model boot k (Since model boot starts k before.chip.geometry (course_after model boot starts attaches turns).notes) (course_after model boot starts attaches turns)
    start =
        subst (AtO model boot k (Since model boot starts k before.chip.geometry (course_after model boot starts attaches turns).notes) (course_after model boot starts attaches turns).notes) (sym h.is_chip)
        ([], sym (append-nil (course_after model boot starts attaches turns).notes), at_first)

    now_since : (new : List Note) × ((course_after model boot starts (attaches + more) (turns ++ later)).notes ≡ (course_after model boot starts attaches turns).notes ++ new)
        × Stands model boot k before.chip.geometry now new
    now_since =
        subst (AtO model boot k (Since model boot starts k before.chip.geometry (course_after model boot starts attaches turns).notes) (course_after model boot starts (attaches + more) (turns ++ later)).notes) i.is_chip
        (each_later model boot k (Since model boot starts k before.chip.geometry (course_after model boot starts attaches turns).notes)
        (since_kept model boot starts k before.chip.geometry (course_after model boot starts attaches turns).notes) starts attaches more turns later start)

    since : notes_since (course_after model boot starts attaches turns) (course_after model boot starts (attaches + more) (turns ++ later)) ≡ now_since.0
    since = ap (drop (length (course_after model boot starts attaches turns).notes)) now_since.1 ∙ drop_front (course_after model boot starts attaches turns).notes now_since.0
