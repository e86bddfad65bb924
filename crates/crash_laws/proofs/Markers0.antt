-- A chip without tables: the marker of each block.
use Rattle.std.proofs.Common.{◌≡◌, ◌≢◌, ◌⊎◌, ◌<◌, ℕ, zero, suc, ◌+◌, ◌-◌, true, false, ◌==◌, List, [], ◌∷◌, ◌++◌, refl, ap, sym, ◌∙◌, arith, Option, Some, None, inl, inr, subst, slice_index, replicate, bit_and}
use Rattle.std.specs.Int.Bits.{and_zero_r}
use Rattle.nand_model.specs.Sizes.{first_page}
use Rattle.nand_model.specs.Chip.{PageState, DoneBits, EraseEvent, ProgramEvent, torn_erase, torn_program, good_program, blank_page, programmed, map_from, flipped}
use Rattle.nand_model.specs.Page.{marker_byte, marker_image}
use Rattle.nand_model.specs.declared.geometry.Geometry.{Geometry}
use Rattle.page_laws.specs.Keeping.{after_flips, KeepsMarker}
use Rattle.relocation_laws.specs.Keeping.{pages_after}
use Rattle.page_laws.proofs.Pages.{with_block-other, with_block-same, with_page-same, with_page-other, same_or_not}
use Rattle.page_laws.proofs.Markers.{flips_elsewhere, torn_erase_marker, torn_program_marker, good_program_marker}
use Rattle.relocation_laws.proofs.DataEvents.{with_page-apart}

-- a page read while quiet keeps what its marker said
pub keeps_seen : (g : Geometry) (page : PageState) → KeepsMarker g page (marker_byte g page.cells == 0xff)
keeps_seen g page bits n = ap (λ x. x == 0xff) (flips_elsewhere page bits g.page n).same

-- the marker image has 0 there
zero_there : (n k : ℕ) (rest : List ℕ) → slice_index (replicate n 0xff ++ 0 ∷ rest) n ≡ 0
zero_there zero k rest = refl
zero_there (suc n) k rest = zero_there n k rest

map_from_zero : (f : ℕ → ℕ → ℕ) (k : ℕ) (cells : List ℕ) (i : ℕ) → ((x : ℕ) → f (k + i) x ≡ 0) → slice_index (map_from k f cells) i ≡ 0
map_from_zero f k [] i h = refl
map_from_zero f k (x ∷ xs) zero h = ap (λ j. f j x) (omega arith) ∙ h x
map_from_zero f k (x ∷ xs) (suc i) h = map_from_zero f (k + 1) xs i (λ y. ap (λ j. f j y) (omega arith) ∙ h y)

and_zero : (x : ℕ) → bit_and x 0 ≡ 0
and_zero x = and_zero_r x

-- a marker that was programmed well says bad
pub marked_keeps : (g : Geometry) (page : PageState) → KeepsMarker g (good_program page (marker_image g)) false
marked_keeps g page bits n = not_full (slice_index (after_flips (good_program page (marker_image g)) bits).cells g.page) ((flips_elsewhere (good_program page (marker_image g)) bits g.page n).same ∙ zeroed)
  where
    not_full : (x : ℕ) → x ≡ 0 → (x == 0xff) ≡ false
    not_full x z = rw z refl

    zeroed : slice_index (programmed page.cells (marker_image g)) g.page ≡ 0
    zeroed = map_from_zero (λ i byte. bit_and byte (slice_index (marker_image g) i)) 0 page.cells g.page
        (λ x. ap (λ j. bit_and x (slice_index (marker_image g) j)) (omega arith) ∙ ap (bit_and x) (zero_there g.page 0 (replicate (g.spare - 1) 0xff)) ∙ and_zero x)

-- the marker of one block: bad where it has to be, and good unless it may be bad
pub record BlockMark (g : Geometry) (F A B : ℕ → Type 0) (b : ℕ) (page : PageState) : Type 0 where
  pub bad : F b ⊎ A b → KeepsMarker g page false
  pub other : KeepsMarker g page true ⊎ (F b ⊎ B b)

pub block_flipped : (g : Geometry) (F A B : ℕ → Type 0) (b : ℕ) (page : PageState) (bit : ℕ) → BlockMark g F A B b page → BlockMark g F A B b (flipped page bit)
block_flipped g F A B b page bit h = record { bad = λ x bits. h.bad x (bit ∷ bits); other = on h.other }
  where
    on : KeepsMarker g page true ⊎ (F b ⊎ B b) → KeepsMarker g (flipped page bit) true ⊎ (F b ⊎ B b)
    on (inl k) = inl (λ bits. k (bit ∷ bits))
    on (inr x) = inr x

-- an event on a block that need not be bad
changed : (g : Geometry) (F A B : ℕ → Type 0) (b : ℕ) (page after : PageState) → (F b ⊎ A b → ⊥) → (KeepsMarker g page true → KeepsMarker g after true) → BlockMark g F A B b page → BlockMark g F A B b after
changed g F A B b page after free keeps h = record { bad = λ x. absurd (free x); other = on h.other }
  where
    on : KeepsMarker g page true ⊎ (F b ⊎ B b) → KeepsMarker g after true ⊎ (F b ⊎ B b)
    on (inl k) = inl (keeps k)
    on (inr x) = inr x

module _ (g : Geometry) (F A B : ℕ → Type 0) (sized : 0 < g.pages_per_block) (blank : KeepsMarker g (blank_page g) true) where
  -- an erase of a block that need not be bad
  pub block_erased : (pages : ℕ → PageState) (c b : ℕ) (torn : Option DoneBits) → (b ≡ c → F b ⊎ A b → ⊥)
      → BlockMark g F A B b (pages (first_page g b)) → BlockMark g F A B b (pages_after g pages (EraseEvent c) torn (first_page g b))
  block_erased pages c b torn free h = on (same_or_not b c) torn
    where
      on : (b ≡ c) ⊎ (b ≢ c) → (torn : Option DoneBits) → BlockMark g F A B b (pages_after g pages (EraseEvent c) torn (first_page g b))
      on (inr n) None = subst (BlockMark g F A B b) (sym (with_block-other g pages c b (λ q old. blank_page g) sized n)) h
      on (inr n) (Some done) = subst (BlockMark g F A B b) (sym (with_block-other g pages c b (torn_erase done) sized n)) h
      on (inl e) None =
          subst (λ x. BlockMark g F A B b (pages_after g pages (EraseEvent x) None (first_page g b))) e
          (subst (BlockMark g F A B b) (sym (with_block-same g pages b (λ q old. blank_page g) sized))
          (changed g F A B b (pages (first_page g b)) (blank_page g) (free e) (λ k. blank) h))
      on (inl e) (Some done) =
          subst (λ x. BlockMark g F A B b (pages_after g pages (EraseEvent x) (Some done) (first_page g b))) e
          (subst (BlockMark g F A B b) (sym (with_block-same g pages b (torn_erase done) sized))
          (changed g F A B b (pages (first_page g b)) (torn_erase done 0 (pages (first_page g b))) (free e) (λ k. torn_erase_marker g (pages (first_page g b)) done 0 k) h))

  -- a program of a page of a block that need not be bad, with a good marker
  pub block_programmed : (pages : ℕ → PageState) (page : ℕ) (image : List ℕ) (b : ℕ) (torn : Option DoneBits) → (first_page g b ≡ page → (F b ⊎ A b → ⊥) × (slice_index image g.page ≡ 0xff))
      → BlockMark g F A B b (pages (first_page g b)) → BlockMark g F A B b (pages_after g pages (ProgramEvent page image) torn (first_page g b))
  block_programmed pages page image b torn free h = on (same_or_not (first_page g b) page) torn
    where
      on : (first_page g b ≡ page) ⊎ (first_page g b ≢ page) → (torn : Option DoneBits) → BlockMark g F A B b (pages_after g pages (ProgramEvent page image) torn (first_page g b))
      on (inr n) None = subst (BlockMark g F A B b) (sym (with_page-apart pages page (first_page g b) (good_program (pages page) image) n)) h
      on (inr n) (Some done) = subst (BlockMark g F A B b) (sym (with_page-apart pages page (first_page g b) (torn_program (pages page) image done) n)) h
      on (inl e) None =
          subst (λ x. BlockMark g F A B b (pages_after g pages (ProgramEvent x image) None (first_page g b))) e
          (subst (BlockMark g F A B b) (sym (with_page-same g pages (first_page g b) (good_program (pages (first_page g b)) image)))
          (changed g F A B b (pages (first_page g b)) (good_program (pages (first_page g b)) image) (free e).0 (λ k. good_program_marker g (pages (first_page g b)) image (free e).1 k) h))
      on (inl e) (Some done) =
          subst (λ x. BlockMark g F A B b (pages_after g pages (ProgramEvent x image) (Some done) (first_page g b))) e
          (subst (BlockMark g F A B b) (sym (with_page-same g pages (first_page g b) (torn_program (pages (first_page g b)) image done)))
          (changed g F A B b (pages (first_page g b)) (torn_program (pages (first_page g b)) image done) (free e).0 (λ k. torn_program_marker g (pages (first_page g b)) image done (free e).1 k) h))

  -- a program of the marker of a block whose marking has begun
  pub block_marked : (pages : ℕ → PageState) (c b : ℕ) (image : List ℕ) (torn : Option DoneBits) → B c → (b ≡ c → F b ⊎ A b → ⊥)
      → BlockMark g F A B b (pages (first_page g b)) → BlockMark g F A B b (pages_after g pages (ProgramEvent (first_page g c) image) torn (first_page g b))
  block_marked pages c b image torn begun free h = on (same_or_not b c) torn
    where
      on : (b ≡ c) ⊎ (b ≢ c) → (torn : Option DoneBits) → BlockMark g F A B b (pages_after g pages (ProgramEvent (first_page g c) image) torn (first_page g b))
      on (inr n) None = subst (BlockMark g F A B b) (sym (with_page-other g pages c b (good_program (pages (first_page g c)) image) sized n)) h
      on (inr n) (Some done) = subst (BlockMark g F A B b) (sym (with_page-other g pages c b (torn_program (pages (first_page g c)) image done) sized n)) h
      on (inl e) torn = record { bad = λ x. absurd (free e x); other = inr (inr (subst B (sym e) begun)) }
