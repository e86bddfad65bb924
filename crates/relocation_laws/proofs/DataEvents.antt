-- Events on blocks that hold data, while an attached chip is used: tables and good markers stay as
-- they are.
use Rattle.std.proofs.Common.{◌≡◌, ◌≢◌, ◌⊎◌, ◌<◌, ℕ, ◌/◌, Bool, true, false, ◌==◌, List, refl, ap, sym, ◌∙◌, arith, Option, Some, None, inl, inr, subst, slice_index}
use Rattle.std.specs.Prelude.{⊤}
use Rattle.std.proofs.lemmas.Bool.Decides.{nat_tests}
use Rattle.std.proofs.lemmas.Option.{none-some, same_Some}
use Rattle.run_model.specs.Run.{block_changed}
use Rattle.nand_model.specs.Sizes.{first_page}
use Rattle.nand_model.specs.Chip.{PageState, ChipState, FaultModel, ProgramCall, EraseCall, ChipEvent, Complete, PowerCut, DoneBits, PageEvent, ReadEvent, EraseEvent, ProgramEvent, happens, failure_of, with_page, torn_erase, torn_program, good_program, blank_page}
use Rattle.nand_model.specs.Table.{table_blocks}
use Rattle.nand_model.specs.Path.{Answer, Path, Then, answer_to}
use Rattle.nand_model.specs.declared.geometry.Geometry.{Geometry}
use Rattle.relocation_laws.specs.Shelves.{Shelf}
use Rattle.page_laws.specs.Keeping.{IsIn, KeepsMarker}
use Rattle.relocation_laws.specs.Keeping.{pages_after}
use Rattle.page_laws.proofs.Pages.{with_block-other, with_block-same, with_page-same, block_of_first, same_or_not}
use Rattle.page_laws.proofs.Markers.{torn_erase_marker, torn_program_marker, good_program_marker}
use Rattle.relocation_laws.proofs.MarkSafe.{erased_pages, erased_geometry, programmed_pages, programmed_geometry}
use Rattle.relocation_laws.proofs.Goes.{Setting, Holding, holding-turned}
use Rattle.relocation_laws.proofs.Safety.{Safety, turned, Safe}
use Rattle.relocation_laws.proofs.Standing.{Stands}

-- an event that leaves tables and good markers alone
abbrev pub IsSafe : Geometry → (ℕ → Bool) → PageEvent → Type 0
IsSafe g is_good (ReadEvent page) = ⊤
IsSafe g is_good (EraseEvent b) = (IsIn (table_blocks g) b → ⊥) × (b < g.blocks → is_good b ≡ true)
IsSafe g is_good (ProgramEvent page image) =
    (IsIn (table_blocks g) (page / g.pages_per_block) → ⊥)
    × ((b : ℕ) → b < g.blocks → first_page g b ≡ page → (is_good b ≡ true) × (slice_index image g.page ≡ 0xff))

is_equal : (a b : ℕ) → (a == b) ≡ true → a ≡ b
is_equal a b h = grind (arith, nat_tests)

pub with_page-apart : (pages : ℕ → PageState) (page q : ℕ) (new : PageState) → q ≢ page → with_page pages page new q ≡ pages q
with_page-apart pages page q new n = on (same_or_not q page) (q == page) refl
  where
    on : (q ≡ page) ⊎ (q ≢ page) → (t : Bool) → (q == page) ≡ t → with_page pages page new q ≡ pages q
    on (inl e) t h = absurd (n e)
    on (inr m) true h = absurd (m (is_equal q page h))
    on (inr m) false h = rw h refl

module _ (g : Geometry) (c : Setting g) where
  erased_marker : (pages : ℕ → PageState) (e b : ℕ) (torn : Option DoneBits) → (e < g.blocks → c.is_good e ≡ true) → b < g.blocks
      → KeepsMarker g (pages (first_page g b)) (c.is_good b) → KeepsMarker g (pages_after g pages (EraseEvent e) torn (first_page g b)) (c.is_good b)
  erased_marker pages e b torn good small h = on (same_or_not b e) torn
    where
      on : (b ≡ e) ⊎ (b ≢ e) → (torn : Option DoneBits) → KeepsMarker g (pages_after g pages (EraseEvent e) torn (first_page g b)) (c.is_good b)
      on (inr n) None = subst (λ p. KeepsMarker g p (c.is_good b)) (sym (with_block-other g pages e b (λ q old. blank_page g) c.laws.sized n)) h
      on (inr n) (Some done) = subst (λ p. KeepsMarker g p (c.is_good b)) (sym (with_block-other g pages e b (torn_erase done) c.laws.sized n)) h
      on (inl same) None =
          subst (λ x. KeepsMarker g (pages_after g pages (EraseEvent x) None (first_page g b)) (c.is_good b)) same
          (subst (λ p. KeepsMarker g p (c.is_good b)) (sym (with_block-same g pages b (λ q old. blank_page g) c.laws.sized))
          (subst (λ t. KeepsMarker g (blank_page g) t) (sym is_fine) c.laws.blank.marker))
        where
          is_fine : c.is_good b ≡ true
          is_fine = subst (λ x. c.is_good x ≡ true) (sym same) (good (subst (λ x. x < g.blocks) same small))
      on (inl same) (Some done) =
          subst (λ x. KeepsMarker g (pages_after g pages (EraseEvent x) (Some done) (first_page g b)) (c.is_good b)) same
          (subst (λ p. KeepsMarker g p (c.is_good b)) (sym (with_block-same g pages b (torn_erase done) c.laws.sized))
          (subst (λ t. KeepsMarker g (torn_erase done 0 (pages (first_page g b))) t) (sym is_fine)
          (torn_erase_marker g (pages (first_page g b)) done 0 (subst (λ t. KeepsMarker g (pages (first_page g b)) t) is_fine h))))
        where
          is_fine : c.is_good b ≡ true
          is_fine = subst (λ x. c.is_good x ≡ true) (sym same) (good (subst (λ x. x < g.blocks) same small))

  programmed_marker : (pages : ℕ → PageState) (page : ℕ) (image : List ℕ) (b : ℕ) (torn : Option DoneBits) → (first_page g b ≡ page → (c.is_good b ≡ true) × (slice_index image g.page ≡ 0xff))
      → KeepsMarker g (pages (first_page g b)) (c.is_good b) → KeepsMarker g (pages_after g pages (ProgramEvent page image) torn (first_page g b)) (c.is_good b)
  programmed_marker pages page image b torn good h = on (same_or_not (first_page g b) page) torn
    where
      on : (first_page g b ≡ page) ⊎ (first_page g b ≢ page) → (torn : Option DoneBits) → KeepsMarker g (pages_after g pages (ProgramEvent page image) torn (first_page g b)) (c.is_good b)
      on (inr n) None = subst (λ p. KeepsMarker g p (c.is_good b)) (sym (with_page-apart pages page (first_page g b) (good_program (pages page) image) n)) h
      on (inr n) (Some done) = subst (λ p. KeepsMarker g p (c.is_good b)) (sym (with_page-apart pages page (first_page g b) (torn_program (pages page) image done) n)) h
      on (inl e) None =
          subst (λ x. KeepsMarker g (pages_after g pages (ProgramEvent x image) None (first_page g b)) (c.is_good b)) e
          (subst (λ p. KeepsMarker g p (c.is_good b)) (sym (with_page-same g pages (first_page g b) (good_program (pages (first_page g b)) image)))
          (subst (λ t. KeepsMarker g (good_program (pages (first_page g b)) image) t) (sym (good e).0)
          (good_program_marker g (pages (first_page g b)) image (good e).1 (subst (λ t. KeepsMarker g (pages (first_page g b)) t) (good e).0 h))))
      on (inl e) (Some done) =
          subst (λ x. KeepsMarker g (pages_after g pages (ProgramEvent x image) (Some done) (first_page g b)) (c.is_good b)) e
          (subst (λ p. KeepsMarker g p (c.is_good b)) (sym (with_page-same g pages (first_page g b) (torn_program (pages (first_page g b)) image done)))
          (subst (λ t. KeepsMarker g (torn_program (pages (first_page g b)) image done) t) (sym (good e).0)
          (torn_program_marker g (pages (first_page g b)) image done (good e).1 (subst (λ t. KeepsMarker g (pages (first_page g b)) t) (good e).0 h))))

  not_first : (page t : ℕ) → (IsIn (table_blocks g) (page / g.pages_per_block) → ⊥) → IsIn (table_blocks g) t → first_page g t ≢ page
  not_first page t out in_t e = out (subst (IsIn (table_blocks g)) (sym (block_of_first g t c.laws.sized) ∙ ap (λ p. p / g.pages_per_block) e) in_t)

  tables_stay : (e : PageEvent) → IsSafe g c.is_good e → (pages : ℕ → PageState) (torn : Option DoneBits) (t : ℕ) → IsIn (table_blocks g) t → pages_after g pages e torn (first_page g t) ≡ pages (first_page g t)
  tables_stay (ReadEvent page) safe pages torn t i = refl
  tables_stay (EraseEvent b) safe pages None t i = with_block-other g pages b t (λ q old. blank_page g) c.laws.sized (λ e. safe.0 (subst (IsIn (table_blocks g)) e i))
  tables_stay (EraseEvent b) safe pages (Some done) t i = with_block-other g pages b t (torn_erase done) c.laws.sized (λ e. safe.0 (subst (IsIn (table_blocks g)) e i))
  tables_stay (ProgramEvent page image) safe pages None t i = with_page-apart pages page (first_page g t) (good_program (pages page) image) (not_first page t safe.0 i)
  tables_stay (ProgramEvent page image) safe pages (Some done) t i = with_page-apart pages page (first_page g t) (torn_program (pages page) image done) (not_first page t safe.0 i)

  marker_stays : (e : PageEvent) → IsSafe g c.is_good e → (pages : ℕ → PageState) (torn : Option DoneBits) (b : ℕ) → b < g.blocks → KeepsMarker g (pages (first_page g b)) (c.is_good b)
      → KeepsMarker g (pages_after g pages e torn (first_page g b)) (c.is_good b)
  marker_stays (ReadEvent page) safe pages torn b small h = h
  marker_stays (EraseEvent e) safe pages torn b small h = erased_marker pages e b torn safe.1 small h
  marker_stays (ProgramEvent page image) safe pages torn b small h = programmed_marker pages page image b torn (safe.1 b small) h

  -- a safe event keeps each shelf
  pub safe-stands : (holds : Shelf) (e : PageEvent) → IsSafe g c.is_good e → (pages : ℕ → PageState) (torn : Option DoneBits) → Stands g c.is_good holds pages → Stands g c.is_good holds (pages_after g pages e torn)
  safe-stands holds e safe pages torn h =
      record {
        tables = λ t i. rw (tables_stay e safe pages torn t i) (h.tables t i);
        markers = λ empty b small out. marker_stays e safe pages torn b small (h.markers empty b small out);
      }

module _ {W A : Type 0} (model : FaultModel W) (g : Geometry) (c : Setting g) (Good_ : List ℕ → Type 0) (Fresh : Type 0) (granted : ChipState W → ChipEvent → Type 0)
    (moment : Path A → ChipState W → Type 0) (ended : ChipState W → Type 0) (result : A → ChipState W → Type 0) where
  abbrev data_law : Safety W A
  data_law = record { model = model; granted = granted; moment = moment; ended = ended; result = result }

  abbrev Here : Shelf → ChipState W → Type 0
  Here holds s = Holding g c Good_ Fresh holds None s

  after : (holds : Shelf) (s t : ChipState W) (e : PageEvent) (torn : Option DoneBits) → IsSafe g c.is_good e → t.geometry ≡ s.geometry → t.pages ≡ pages_after s.geometry s.pages e torn → Here holds s → Here holds t
  after holds s t e torn safe same pages h =
      record {
        geometry = same ∙ h.geometry;
        stands = subst (Stands g c.is_good holds) (sym (pages ∙ ap (λ k. pages_after k s.pages e torn) h.geometry)) (safe-stands g c holds e safe s.pages torn h.stands);
        is_fresh = λ b e. absurd (cc);
      }

  whole-after : (holds : Shelf) (s : ChipState W) (e : PageEvent) → IsSafe g c.is_good e → Here holds s → Here holds (happens model s (Complete e))
  whole-after holds s (ReadEvent page) safe h = h
  whole-after holds s (EraseEvent b) safe h =
      after holds s (happens model s (Complete (EraseEvent b))) (EraseEvent b) (failure_of model s (EraseCall b)) safe
      (erased_geometry model g c Good_ Fresh granted moment ended result s b (failure_of model s (EraseCall b))) (erased_pages model g c Good_ Fresh granted moment ended result s b (failure_of model s (EraseCall b))) h
  whole-after holds s (ProgramEvent page image) safe h =
      after holds s (happens model s (Complete (ProgramEvent page image))) (ProgramEvent page image) (failure_of model s (ProgramCall page)) safe
      (programmed_geometry model g c Good_ Fresh granted moment ended result s page image (failure_of model s (ProgramCall page))) (programmed_pages model g c Good_ Fresh granted moment ended result s page image (failure_of model s (ProgramCall page))) h

  cut-after : (holds : Shelf) (s : ChipState W) (e : PageEvent) (done : DoneBits) → IsSafe g c.is_good e → Here holds s → Here holds (happens model s (PowerCut e done))
  cut-after holds s (ReadEvent page) done safe h = h
  cut-after holds s (EraseEvent b) done safe h = after holds s (happens model s (PowerCut (EraseEvent b) done)) (EraseEvent b) (Some done) safe refl refl h
  cut-after holds s (ProgramEvent page image) done safe h = after holds s (happens model s (PowerCut (ProgramEvent page image) done)) (ProgramEvent page image) (Some done) safe refl refl h

  -- such an event is safe where what follows is
  pub data-safe : (holds : Shelf) (e : PageEvent) (rest : Answer → Path A) (s : ChipState W) → IsSafe g c.is_good e → ((t : ChipState W) → Here holds t → moment (Then e rest) t) → ((t : ChipState W) → Here holds t → ended t) → Here holds s
      → ((t : ChipState W) (answer : Answer) → Here holds t → Safe data_law (rest answer) t) → Safe data_law (Then e rest) s
  data-safe holds e rest s safe before after_cut h later = λ flips.
      let now = holding-turned g c Good_ Fresh model holds None s flips h in (
        before (turned model s flips) now,
        λ done grant. after_cut (happens model (turned model s flips) (PowerCut e done)) (cut-after holds (turned model s flips) e done safe now),
        λ grant. later (happens model (turned model s flips) (Complete e)) (answer_to model (turned model s flips) e) (whole-after holds (turned model s flips) e safe now),
      )

-- such an event changes no table block
pub safe-outside : (g : Geometry) (is_good : ℕ → Bool) (e : PageEvent) → IsSafe g is_good e → (b : ℕ) → block_changed g (Some e) ≡ Some b → IsIn (table_blocks g) b → ⊥
safe-outside g is_good (ReadEvent page) safe b e = absurd (none-some b e)
safe-outside g is_good (EraseEvent x) safe b e = subst (λ y. IsIn (table_blocks g) y → ⊥) (same_Some x b e) safe.0
safe-outside g is_good (ProgramEvent page image) safe b e = subst (λ y. IsIn (table_blocks g) y → ⊥) (same_Some (page / g.pages_per_block) b e) safe.0
