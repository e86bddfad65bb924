-- What the notes of a chip say of its traces: which torn events were fair, and which attaches were
-- quiet.
use Rattle.std.proofs.Common.{◌≡◌, ◌≢◌, ℕ, Bool, true, false, not, ◌&&◌, List, [], ◌∷◌, ◌++◌, refl, ap, sym, ◌∙◌}
use Rattle.std.specs.Prelude.{if◌then◌else◌}
use Rattle.std.proofs.lemmas.Bool.{false≢true, eq-eqb, and_parts}
use Rattle.std.proofs.lemmas.List.Folds.{list_all-append}
use Rattle.nand_model.specs.Chip.{ChipState, FaultModel, ChipEvent, Complete, PowerCut, Flipped, PageEvent, happens}
use Rattle.chip_paths.specs.ChipRun.{torn_notes, name_of}
use Rattle.nand_model.specs.Path.{answer_to, is_failure}
use Rattle.nand_model.specs.Quiet.{fairness_of, is_quiet}
use Rattle.nand_model.specs.declared.words.Event.{Event}
use Rattle.nand_model.specs.declared.words.Fairness.{Fairness}
use Rattle.nand_model.specs.declared.words.Fairness.TheVariants.{Plain, Missing, Whole, Foul}
use Rattle.nand_model.specs.declared.words.Note.{Note}
use Rattle.nand_model.specs.declared.words.Note.TheVariants.{Torn}
use Rattle.nand_model.specs.Partitions.{Partitions}
use Rattle.run_model.specs.History.{LastChips, last_after, note_chip, is_chip, notes_of_chip_from, events_in, notes_of_event, notes_of_trace, was_quiet}
use Rattle.run_model.specs.Run.{is_fair_note, is_fair}
use Rattle.page_laws.specs.Keeping.{IsFairEvent, IsQuietEvent, EachStep}

pub fair_parts : (k : ℕ) (xs ys : List Note) → is_fair k (xs ++ ys) ≡ true → (is_fair k xs ≡ true) × (is_fair k ys ≡ true)
fair_parts k xs ys h = and_parts (is_fair k xs) (is_fair k ys) (sym (list_all-append (is_fair_note k) xs ys) ∙ h)

not_foul : (k n : ℕ) (name : Event) (cut : Bool) (f : Fairness) → is_fair k (Torn k n name cut f ∷ []) ≡ true → f ≢ Foul
not_foul k n name cut Plain h e = cc
not_foul k n name cut Missing h e = cc
not_foul k n name cut Whole h e = cc
not_foul k n name cut Foul h e = false≢true (sym (ap (λ t. not t && true) (eq-eqb k k refl)) ∙ h)

module _ {W : Type 0} (model : FaultModel W) (k : ℕ) where
  torn_fair : (t : Bool) (n : ℕ) (cut : Bool) (s : ChipState W) (e : PageEvent) (after : ChipState W) → t ≡ true → is_fair k (torn_notes t k n cut s e after) ≡ true
      → fairness_of s.geometry s.pages e after.pages ≢ Foul
  torn_fair true n cut s e after is h = not_foul k n (name_of e) cut (fairness_of s.geometry s.pages e after.pages) h
  torn_fair false n cut s e after is h = absurd (false≢true is)

  pub event_fair : (n : ℕ) (s : ChipState W) (e : ChipEvent) → is_fair k (notes_of_event model k n s e) ≡ true → IsFairEvent model s e
  event_fair n s (Flipped page bit) h = tt
  event_fair n s (Complete e) h = λ failed. torn_fair (is_failure (answer_to model s e)) n false s e (happens model s (Complete e)) failed h
  event_fair n s (PowerCut e done) h = torn_fair true n true s e (happens model s (PowerCut e done)) refl h

  pub trace_fair : (s : ChipState W) (trace : List (ℕ × ChipEvent)) → is_fair k (notes_of_trace model k s trace) ≡ true → EachStep model (IsFairEvent model) s (events_in trace)
  trace_fair s [] h = tt
  trace_fair s ((n, e) ∷ trace) h =
      let p = fair_parts k (notes_of_event model k n s e) (notes_of_trace model k (happens model s e) trace) h in
      (event_fair n s e p.0, trace_fair (happens model s e) trace p.1)

  pub attach_granted : (s : ChipState W) (trace : List (ℕ × ChipEvent)) → is_fair k (notes_of_trace model k s trace) ≡ true → was_quiet model s (events_in trace) ≡ true
      → EachStep model (λ s e. IsFairEvent model s e × IsQuietEvent s e) s (events_in trace)
  attach_granted s [] h q = tt
  attach_granted s ((n, Flipped page bit) ∷ trace) h q = ((tt, tt), attach_granted (happens model s (Flipped page bit)) trace h q)
  attach_granted s ((n, Complete e) ∷ trace) h q =
      let p = fair_parts k (notes_of_event model k n s (Complete e)) (notes_of_trace model k (happens model s (Complete e)) trace) h in
      let r = and_parts (is_quiet s.geometry s.pages) (was_quiet model (happens model s (Complete e)) (events_in trace)) q in
      ((event_fair n s (Complete e) p.0, r.0), attach_granted (happens model s (Complete e)) trace p.1 r.1)
  attach_granted s ((n, PowerCut e done) ∷ trace) h q =
      let p = fair_parts k (notes_of_event model k n s (PowerCut e done)) (notes_of_trace model k (happens model s (PowerCut e done)) trace) h in
      let r = and_parts (is_quiet s.geometry s.pages) (was_quiet model (happens model s (PowerCut e done)) (events_in trace)) q in
      ((event_fair n s (PowerCut e done) p.0, r.0), attach_granted (happens model s (PowerCut e done)) trace p.1 r.1)

-- the notes of a chip are fair where all notes are
one_fair : (k : ℕ) (note : Note) (rest more : List Note) (t : Bool) → is_fair k (note ∷ rest) ≡ true → (is_fair k rest ≡ true → is_fair k more ≡ true) → is_fair k ((if t then note ∷ [] else []) ++ more) ≡ true
one_fair k note rest more true h later =
    let p = fair_parts k (note ∷ []) rest h in
    list_all-append (is_fair_note k) (note ∷ []) more ∙ ap (λ x. x && is_fair k more) p.0 ∙ later p.1
one_fair k note rest more false h later = later (fair_parts k (note ∷ []) rest h).1

pub chip_fair : (partitions : Partitions) (last : LastChips) (k : ℕ) (notes : List Note) → is_fair k notes ≡ true → is_fair k (notes_of_chip_from partitions last k notes) ≡ true
chip_fair partitions last k [] h = refl
chip_fair partitions last k (note ∷ notes) h =
    one_fair k note notes (notes_of_chip_from partitions (last_after partitions last note) k notes) (is_chip (note_chip partitions last note) k) h
    (λ rest. chip_fair partitions (last_after partitions last note) k notes rest)
