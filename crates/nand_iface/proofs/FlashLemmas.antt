-- What an event of a chip leaves of it, whichever calls its fault model fails.
use Rattle.std.proofs.Common.{◌≡◌, ◌≢◌, ℕ, ◌/◌, List, replicate, refl, ap, sym, arith, suc, ◌+◌, ◌<◌, length, Bool, true, false, if◌then◌else◌, [], ◌∷◌, ◌++◌, ◌∙◌, Option, Some, None, fold, append_assoc, append-nil}
use Rattle.std.specs.Prelude.{◌==◌, ◌%◌}
use Rattle.std.proofs.lemmas.Bool.{eqb-true}
use Rattle.std.proofs.lemmas.Bool.Decides.{nat_tests}
use Rattle.std.proofs.lemmas.List.{length-set, length-replicate}
use Rattle.nand_model.specs.Chip.{ChipState, ChipEvent, DoneBits, FaultModel, ReadEvent, ProgramEvent, EraseEvent, ProgramCall, EraseCall, Complete, PowerCut, Flipped, happens, after_trace, failure_of, counted, program_page, erase_block, programmed, saturating_increment, PageState, map_from, with_page, good_program, torn_program, torn_erase, blank_page, flip_events, flipped}
use Rattle.nand_model.specs.Flips.{with_bit_turned}
use Rattle.nand_model.specs.Sizes.{page_count, raw_len}
use Rattle.nand_iface.specs.Flash.{HasWholePages}

-- bytes made from their places keep their number
pub length-map_from : (f : ℕ → ℕ → ℕ) (xs : List ℕ) (i : ℕ) → length (map_from i f xs) ≡ length xs
length-map_from f [] i = refl
length-map_from f (x ∷ xs) i = ap suc (length-map_from f xs (i + 1))

length_if : (b : Bool) (x y : PageState) (n : ℕ) → (b ≡ true → length x.cells ≡ n) → length y.cells ≡ n → length (if b then x else y).cells ≡ n
length_if true x y n first second = first refl
length_if false x y n first second = second

module _ {W : Type 0} (model : FaultModel W) where
  program-geometry : (s : ChipState W) (page : ℕ) (image : List ℕ) (failure : Option DoneBits)
      → (counted model failure (program_page model s page image failure)).geometry ≡ s.geometry
  program-geometry s page image None = refl
  program-geometry s page image (Some done) = refl

  erase-geometry : (s : ChipState W) (block : ℕ) (failure : Option DoneBits)
      → (counted model failure (erase_block model s block failure)).geometry ≡ s.geometry
  erase-geometry s block None = refl
  erase-geometry s block (Some done) = refl

  -- no event changes the geometry
  pub happens-geometry : (s : ChipState W) (e : ChipEvent) → (happens model s e).geometry ≡ s.geometry
  happens-geometry s (Complete (ReadEvent page)) = refl
  happens-geometry s (Complete (ProgramEvent page image)) = program-geometry s page image (failure_of model s (ProgramCall page))
  happens-geometry s (Complete (EraseEvent block)) = erase-geometry s block (failure_of model s (EraseCall block))
  happens-geometry s (PowerCut (ReadEvent page) done) = refl
  happens-geometry s (PowerCut (ProgramEvent page image) done) = refl
  happens-geometry s (PowerCut (EraseEvent block) done) = refl
  happens-geometry s (Flipped page bit) = refl

  -- a program that does not fail leaves old AND image in its page
  pub happens-programmed : (s : ChipState W) (page : ℕ) (image : List ℕ) → failure_of model s (ProgramCall page) ≡ None
      → ((happens model s (Complete (ProgramEvent page image))).pages page).cells ≡ programmed (s.pages page).cells image
  happens-programmed s page image good = grind (arith, nat_tests)

  -- a program leaves all other pages as they are
  pub happens-program_others : (s : ChipState W) (page : ℕ) (image : List ℕ) (p : ℕ) → p ≢ page
      → (happens model s (Complete (ProgramEvent page image))).pages p ≡ s.pages p
  happens-program_others s page image p other = grind (arith, nat_tests)

  -- an erase that does not fail leaves 0xFF throughout its block
  pub happens-erased : (s : ChipState W) (block p : ℕ) → failure_of model s (EraseCall block) ≡ None → p / s.geometry.pages_per_block ≡ block
      → ((happens model s (Complete (EraseEvent block))).pages p).cells ≡ replicate (raw_len s.geometry) 0xff
  happens-erased s block p good inside = grind (arith, nat_tests)

  -- an erase leaves all pages of other blocks as they are
  pub happens-erase_others : (s : ChipState W) (block p : ℕ) → p / s.geometry.pages_per_block ≢ block
      → (happens model s (Complete (EraseEvent block))).pages p ≡ s.pages p
  happens-erase_others s block p other = grind (arith, nat_tests)

  -- a program that fails counts one fault more
  pub happens-program_failed : (s : ChipState W) (page : ℕ) (image : List ℕ) (done : DoneBits) → failure_of model s (ProgramCall page) ≡ Some done
      → (happens model s (Complete (ProgramEvent page image))).faults ≡ saturating_increment s.faults
  happens-program_failed s page image done failed = rw failed refl

  -- an erase that fails counts one fault more
  pub happens-erase_failed : (s : ChipState W) (block : ℕ) (done : DoneBits) → failure_of model s (EraseCall block) ≡ Some done
      → (happens model s (Complete (EraseEvent block))).faults ≡ saturating_increment s.faults
  happens-erase_failed s block done failed = rw failed refl

  -- a torn program leaves its page torn
  pub happens-torn_page : (s : ChipState W) (page : ℕ) (image : List ℕ) (done : DoneBits)
      → (happens model s (PowerCut (ProgramEvent page image) done)).pages page ≡ torn_program (s.pages page) image done
  happens-torn_page s page image done = grind (arith, nat_tests)

  -- a torn program leaves all other pages as they are
  pub happens-torn_program_others : (s : ChipState W) (page : ℕ) (image : List ℕ) (done : DoneBits) (p : ℕ) → p ≢ page
      → (happens model s (PowerCut (ProgramEvent page image) done)).pages p ≡ s.pages p
  happens-torn_program_others s page image done p other = grind (arith, nat_tests)

  -- a torn erase leaves each page of its block torn
  pub happens-torn_block : (s : ChipState W) (block : ℕ) (done : DoneBits) (p : ℕ) → p / s.geometry.pages_per_block ≡ block
      → (happens model s (PowerCut (EraseEvent block) done)).pages p ≡ torn_erase done (p % s.geometry.pages_per_block) (s.pages p)
  happens-torn_block s block done p inside = grind (arith, nat_tests)

  -- a torn erase leaves all pages of other blocks as they are
  pub happens-torn_erase_others : (s : ChipState W) (block : ℕ) (done : DoneBits) (p : ℕ) → p / s.geometry.pages_per_block ≢ block
      → (happens model s (PowerCut (EraseEvent block) done)).pages p ≡ s.pages p
  happens-torn_erase_others s block done p other = grind (arith, nat_tests)

  -- a trace in two parts
  pub after_trace-append : (s : ChipState W) (first rest : List ChipEvent) → after_trace model s (first ++ rest) ≡ after_trace model (after_trace model s first) rest
  after_trace-append s [] rest = refl
  after_trace-append s (e ∷ es) rest = after_trace-append (happens model s e) es rest

  -- one more event of a trace
  pub after_trace-push : (s : ChipState W) (events : List ChipEvent) (e : ChipEvent) → after_trace model s (events ++ e ∷ []) ≡ happens model (after_trace model s events) e
  after_trace-push s events e = after_trace-append s events (e ∷ [])

  -- no trace changes the geometry
  pub after_trace-geometry : (s : ChipState W) (events : List ChipEvent) → (after_trace model s events).geometry ≡ s.geometry
  after_trace-geometry s [] = refl
  after_trace-geometry s (e ∷ es) = after_trace-geometry (happens model s e) es ∙ happens-geometry s e

  one_page-whole : (s : ChipState W) (page : ℕ) (new : PageState) → length new.cells ≡ length (s.pages page).cells → HasWholePages s
      → (p : ℕ) → p < page_count s.geometry → length (with_page s.pages page new p).cells ≡ raw_len s.geometry
  one_page-whole s page new same_length whole p there =
      length_if (p == page) new (s.pages p) (raw_len s.geometry)
      (λ same. let at : page ≡ p = sym (eqb-true p page same) in same_length ∙ rw at (whole p there))
      (whole p there)

  program-whole : (s : ChipState W) (page : ℕ) (image : List ℕ) (failure : Option DoneBits) → HasWholePages s
      → HasWholePages (counted model failure (program_page model s page image failure))
  program-whole s page image None whole = one_page-whole s page (good_program (s.pages page) image) (length-map_from _ (s.pages page).cells 0) whole
  program-whole s page image (Some done) whole = one_page-whole s page (torn_program (s.pages page) image done) (length-map_from _ (s.pages page).cells 0) whole

  erase-whole : (s : ChipState W) (block : ℕ) (failure : Option DoneBits) → HasWholePages s
      → HasWholePages (counted model failure (erase_block model s block failure))
  erase-whole s block None whole =
      λ p there. length_if (p / s.geometry.pages_per_block == block) (blank_page s.geometry) (s.pages p) (raw_len s.geometry) (λ same. length-replicate (raw_len s.geometry) 0xff) (whole p there)
  erase-whole s block (Some done) whole =
      λ p there. length_if (p / s.geometry.pages_per_block == block) (torn_erase done (p % s.geometry.pages_per_block) (s.pages p)) (s.pages p) (raw_len s.geometry)
      (λ same. length-map_from _ (s.pages p).cells 0 ∙ whole p there) (whole p there)

  -- no event changes how many cells a page has
  pub happens-whole_pages : (s : ChipState W) (e : ChipEvent) → HasWholePages s → HasWholePages (happens model s e)
  happens-whole_pages s (Complete (ReadEvent page)) whole = whole
  happens-whole_pages s (Complete (ProgramEvent page image)) whole = program-whole s page image (failure_of model s (ProgramCall page)) whole
  happens-whole_pages s (Complete (EraseEvent block)) whole = erase-whole s block (failure_of model s (EraseCall block)) whole
  happens-whole_pages s (PowerCut (ReadEvent page) done) whole = whole
  happens-whole_pages s (PowerCut (ProgramEvent page image) done) whole = program-whole s page image (Some done) whole
  happens-whole_pages s (PowerCut (EraseEvent block) done) whole = erase-whole s block (Some done) whole
  happens-whole_pages s (Flipped page bit) whole = one_page-whole s page (flipped (s.pages page) bit) (length-set (s.pages page).cells (bit / 8) _) whole

  -- flips of bits of a page turn its bits one after the other
  pub flips-turned : (s : ChipState W) (page : ℕ) (bits : List ℕ)
      → ((after_trace model s (flip_events page bits)).pages page).cells ≡ fold with_bit_turned (s.pages page).cells bits
  flips-turned s page [] = refl
  flips-turned s page (bit ∷ bits) =
      flips-turned (happens model s (Flipped page bit)) page bits ∙ ap (λ cells. fold with_bit_turned cells bits) (ap (λ p. p.cells) (here s page bit))
    where
      here : (s : ChipState W) (page bit : ℕ) → (happens model s (Flipped page bit)).pages page ≡ flipped (s.pages page) bit
      here s page bit = grind (arith, nat_tests)

  -- and each of them joins the list of its flips
  pub flips-counted : (s : ChipState W) (page : ℕ) (bits : List ℕ)
      → ((after_trace model s (flip_events page bits)).pages page).flips ≡ (s.pages page).flips ++ bits
  flips-counted s page [] = sym (append-nil (s.pages page).flips)
  flips-counted s page (bit ∷ bits) =
      flips-counted (happens model s (Flipped page bit)) page bits ∙ ap (λ flips. flips ++ bits) (ap (λ p. p.flips) (here s page bit))
      ∙ append_assoc (s.pages page).flips (bit ∷ []) bits
    where
      here : (s : ChipState W) (page bit : ℕ) → (happens model s (Flipped page bit)).pages page ≡ flipped (s.pages page) bit
      here s page bit = grind (arith, nat_tests)

  -- they leave all other pages as they are
  pub flips-others : (s : ChipState W) (page : ℕ) (bits : List ℕ) (p : ℕ) → p ≢ page
      → (after_trace model s (flip_events page bits)).pages p ≡ s.pages p
  flips-others s page [] p other = refl
  flips-others s page (bit ∷ bits) p other = flips-others (happens model s (Flipped page bit)) page bits p other ∙ here
    where
      here : (happens model s (Flipped page bit)).pages p ≡ s.pages p
      here = grind (arith, nat_tests)

  -- and the count of faults
  pub flips-faults : (s : ChipState W) (page : ℕ) (bits : List ℕ) → (after_trace model s (flip_events page bits)).faults ≡ s.faults
  flips-faults s page [] = refl
  flips-faults s page (bit ∷ bits) = flips-faults (happens model s (Flipped page bit)) page bits
