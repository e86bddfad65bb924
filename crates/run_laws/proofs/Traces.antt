-- Traces of chips, joined end to end.
use Rattle.std.proofs.Common.{◌≡◌, ℕ, Bool, true, false, ◌&&◌, List, [], ◌∷◌, ◌++◌, Option, Some, None, refl, ap, sym, ◌∙◌, subst, append_assoc}
use Rattle.nand_model.specs.Chip.{ChipState, FaultModel, ChipEvent, Complete, PowerCut, Flipped, PageEvent, ReadEvent, ProgramEvent, EraseEvent, ProgramCall, EraseCall, DoneBits, happens, after_trace, failure_of, counted, program_page, erase_block}
use Rattle.nand_model.specs.Path.{Answer, GoesAlong, answers_of, answer_to, is_uncut}
use Rattle.run_model.specs.History.{events_in, notes_of_event, notes_of_trace, was_quiet}
use Rattle.nand_model.specs.Quiet.{is_quiet}
use Rattle.std.proofs.lemmas.List.{append-nil}

and-assoc : (a b c : Bool) → (a && (b && c)) ≡ ((a && b) && c)
and-assoc true b c = refl
and-assoc false b c = refl

pub uncut-append : (xs ys : List ChipEvent) → is_uncut xs ≡ true → is_uncut (xs ++ ys) ≡ is_uncut ys
uncut-append [] ys u = refl
uncut-append (Complete e ∷ xs) ys u = uncut-append xs ys u
uncut-append (Flipped page bit ∷ xs) ys u = uncut-append xs ys u
uncut-append (PowerCut e done ∷ xs) ys u = cc

pub events-append : (xs ys : List (ℕ × ChipEvent)) → events_in (xs ++ ys) ≡ events_in xs ++ events_in ys
events-append [] ys = refl
events-append (x ∷ xs) ys = ap (λ zs. x.1 ∷ zs) (events-append xs ys)

module _ {W : Type 0} (model : FaultModel W) where
  pub after-append : (s : ChipState W) (xs ys : List ChipEvent) → after_trace model s (xs ++ ys) ≡ after_trace model (after_trace model s xs) ys
  after-append s [] ys = refl
  after-append s (x ∷ xs) ys = after-append (happens model s x) xs ys

  pub answers-append : (s : ChipState W) (xs ys : List ChipEvent) → is_uncut xs ≡ true → answers_of model s (xs ++ ys) ≡ answers_of model s xs ++ answers_of model (after_trace model s xs) ys
  answers-append s [] ys u = refl
  answers-append s (Complete e ∷ xs) ys u = ap (λ zs. answer_to model s e ∷ zs) (answers-append (happens model s (Complete e)) xs ys u)
  answers-append s (Flipped page bit ∷ xs) ys u = answers-append (happens model s (Flipped page bit)) xs ys u
  answers-append s (PowerCut e done ∷ xs) ys u = cc

  pub along-append : (next : List Answer → Option PageEvent) (s : ChipState W) (seen : List Answer) (xs ys : List ChipEvent) → is_uncut xs ≡ true → GoesAlong model next s seen xs
      → GoesAlong model next (after_trace model s xs) (seen ++ answers_of model s xs) ys → GoesAlong model next s seen (xs ++ ys)
  along-append next s seen [] ys u h k = subst (λ zs. GoesAlong model next s zs ys) (append-nil seen) k
  along-append next s seen (Complete e ∷ xs) ys u h k = (h.0, along-append next (happens model s (Complete e)) (seen ++ answer_to model s e ∷ []) xs ys u h.1 (subst (λ zs. GoesAlong model next (after_trace model (happens model s (Complete e)) xs) zs ys) (sym (append_assoc seen _ _)) k))
  along-append next s seen (Flipped page bit ∷ xs) ys u h k = along-append next (happens model s (Flipped page bit)) seen xs ys u h k
  along-append next s seen (PowerCut e done ∷ xs) ys u h k = absurd cc

  pub quiet-append : (s : ChipState W) (xs ys : List ChipEvent) → was_quiet model s (xs ++ ys) ≡ (was_quiet model s xs && was_quiet model (after_trace model s xs) ys)
  quiet-append s [] ys = refl
  quiet-append s (Complete e ∷ xs) ys = ap (λ b. is_quiet s.geometry s.pages && b) (quiet-append (happens model s (Complete e)) xs ys) ∙ and-assoc (is_quiet s.geometry s.pages) _ _
  quiet-append s (Flipped page bit ∷ xs) ys = quiet-append (happens model s (Flipped page bit)) xs ys
  quiet-append s (PowerCut e done ∷ xs) ys = ap (λ b. is_quiet s.geometry s.pages && b) (quiet-append (happens model s (PowerCut e done)) xs ys) ∙ and-assoc (is_quiet s.geometry s.pages) _ _

  pub notes-append : (k : ℕ) (s : ChipState W) (xs ys : List (ℕ × ChipEvent)) → notes_of_trace model k s (xs ++ ys) ≡ notes_of_trace model k s xs ++ notes_of_trace model k (after_trace model s (events_in xs)) ys
  notes-append k s [] ys = refl
  notes-append k s (x ∷ xs) ys = ap (λ zs. notes_of_event model k x.0 s x.1 ++ zs) (notes-append k (happens model s x.1) xs ys) ∙ sym (append_assoc (notes_of_event model k x.0 s x.1) _ _)

  geometry_counted : (s : ChipState W) (o : Option DoneBits) → (counted model o s).geometry ≡ s.geometry
  geometry_counted s None = refl
  geometry_counted s (Some done) = refl

  geometry_program : (s : ChipState W) (page : ℕ) (image : List ℕ) (o : Option DoneBits) → (program_page model s page image o).geometry ≡ s.geometry
  geometry_program s page image None = refl
  geometry_program s page image (Some done) = refl

  geometry_erase : (s : ChipState W) (block : ℕ) (o : Option DoneBits) → (erase_block model s block o).geometry ≡ s.geometry
  geometry_erase s block None = refl
  geometry_erase s block (Some done) = refl

  pub geometry_happens : (s : ChipState W) (e : ChipEvent) → (happens model s e).geometry ≡ s.geometry
  geometry_happens s (Complete (ReadEvent page)) = refl
  geometry_happens s (Complete (ProgramEvent page image)) = geometry_counted _ (failure_of model s (ProgramCall page)) ∙ geometry_program s page image (failure_of model s (ProgramCall page))
  geometry_happens s (Complete (EraseEvent block)) = geometry_counted _ (failure_of model s (EraseCall block)) ∙ geometry_erase s block (failure_of model s (EraseCall block))
  geometry_happens s (PowerCut (ReadEvent page) done) = refl
  geometry_happens s (PowerCut (ProgramEvent page image) done) = refl
  geometry_happens s (PowerCut (EraseEvent block) done) = refl
  geometry_happens s (Flipped page bit) = refl

  pub geometry_after : (s : ChipState W) (xs : List ChipEvent) → (after_trace model s xs).geometry ≡ s.geometry
  geometry_after s [] = refl
  geometry_after s (x ∷ xs) = geometry_after (happens model s x) xs ∙ geometry_happens s x
