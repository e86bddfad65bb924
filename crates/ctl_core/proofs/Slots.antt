-- Slots and their notes.
use Rattle.std.proofs.Common.{◌≡◌, ℕ, Bool, true, List, [], ◌∷◌, ◌++◌, Option, Some, None, refl, ap, sym, ◌∙◌, subst, get_or}
use Rattle.std.specs.Prelude.{slice_get, map, option_map, IfSome}
use Rattle.std.proofs.lemmas.Option.{get_or_from_slice_get, same_Some}
use Rattle.nand_model.specs.Chip.{PageEvent}
use Rattle.chip_paths.specs.Attach.{Attaching}
use Rattle.chip_paths.specs.ChipRun.{name_of}
use Rattle.nand_model.specs.declared.words.Event.{Event}
use Rattle.nand_model.specs.declared.words.Fairness.{Fairness}
use Rattle.nand_model.specs.declared.words.Note.{Note}
use Rattle.nand_model.specs.declared.words.Note.TheVariants.{Torn}
use Rattle.chip_paths.specs.Stage.{note_of_attach}
use Rattle.ctl_core.specs.SlotState.{failure_notes, pending_notes, noted}
use Rattle.ctl_core.proofs.Positions.{mapped_at}

-- what holds of an item that is there
pub at_some : {A : Type 0} (P : A → Type 0) (o : Option A) (x : A) → IfSome o P → o ≡ Some x → P x
at_some P None x h e = cc
at_some P (Some y) x h e = let same : y ≡ x = cc in subst P same h

-- what follows from two facts of the item that is there
pub both_some : {A : Type 0} (P Q R : A → Type 0) (o : Option A) → IfSome o P → IfSome o Q → ((x : A) → P x → Q x → R x) → IfSome o R
both_some P Q R None p q f = tt
both_some P Q R (Some x) p q f = f x p q

noted_pending_note : (k : ℕ) (pending_note : Option (Bool × Attaching)) → noted (option_map (note_of_attach k) pending_note) ≡ pending_notes k pending_note
noted_pending_note k None = refl
noted_pending_note k (Some pending_note) = refl

-- the notes of an event
pub notes_of_event : (o : Option PageEvent) (event : Option Event) (told : PageEvent → Option Fairness) (got : Option Fairness)
    (pending_note : PageEvent → Option (Bool × Attaching)) (now : Option (Bool × Attaching))
    (k n : ℕ) (first second : Option Note) (before middle after : List Note)
    → event ≡ option_map name_of o → IfSome o (λ e. got ≡ told e) → IfSome o (λ e. now ≡ pending_note e)
    → ((e : PageEvent) → event ≡ Some (name_of e) → noted first ≡ failure_notes k n e got) → middle ≡ before ++ noted first
    → second ≡ option_map (note_of_attach k) now → after ≡ middle ++ noted second
    → IfSome o (λ e. after ≡ before ++ failure_notes k n e (told e) ++ pending_notes k (pending_note e))
notes_of_event None event told got pending_note now k n first second before middle after h i j f m s a = tt
notes_of_event (Some e) event told got pending_note now k n first second before middle after h i j f m s a =
    let one : noted first ≡ failure_notes k n e (told e) = f e h ∙ ap (failure_notes k n e) i in
    let two : noted second ≡ pending_notes k (pending_note e) = ap noted s ∙ noted_pending_note k now ∙ ap (pending_notes k) j in
    a ∙ (λ d. (m ∙ ap (λ zs. before ++ zs) one) d ++ two d)

-- the note of a torn event
pub note_of_tear : (o : Option PageEvent) (name : Option Event) (event : Event) (told : PageEvent → Fairness) (fairness : Fairness) (k n : ℕ)
    (before after : List Note) → name ≡ option_map name_of o → name ≡ Some event → IfSome o (λ e. fairness ≡ told e)
    → after ≡ before ++ Torn k n event true fairness ∷ []
    → IfSome o (λ e. after ≡ before ++ Torn k n (name_of e) true (told e) ∷ [])
note_of_tear None name event told fairness k n before after h i t a = tt
note_of_tear (Some e) name event told fairness k n before after h i t a =
    let same : event ≡ name_of e = same_Some event (name_of e) (sym i ∙ h) in
    a ∙ (λ d. before ++ Torn k n (same d) true (t d) ∷ [])

-- the item at a place of a list, by what is kept of it
pub kept_at : {A B : Type 0} (f : A → B) (xs : List A) (k : ℕ) (x : A) (y : B) → x ≡ get_or xs k x → slice_get (map f xs) k ≡ Some y
    → (slice_get xs k ≡ Some x) × (f x ≡ y)
kept_at f xs k x y is h =
    let m = mapped_at f xs k y h in
    let same : m.0 ≡ x = sym (is ∙ get_or_from_slice_get xs k m.0 x m.1) in
    (m.1 ∙ ap Some same, ap f (sym same) ∙ m.2)
