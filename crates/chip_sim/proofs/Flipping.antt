-- A page whose bits are flipped one after the other, and its chip.
use Rattle.std.proofs.Common.{◌≡◌, ℕ, ◌<◌, arith, refl, sym, ◌∙◌, inl, inr, Bool, true, List, [], ◌∷◌, ◌++◌, length, fold, slice_set, if◌then◌else◌, append_assoc, append-nil}
use Rattle.std.specs.Prelude.{◌==◌, ◌/◌}
use Rattle.std.proofs.lemmas.Bool.Decides.{eqb_tells, nat_tests}
use Rattle.std.proofs.lemmas.List.{length-set}
use Rattle.nand_model.specs.Chip.{ChipState, FaultModel, Flipped, PageState, after_trace, flip_events, flipped, happens, with_page}
use Rattle.nand_model.specs.Flips.{with_bit_turned}
use Rattle.chip_sim.specs.Slots.{IsWholeSlot, cells_of, flipped_slot, page_of, slot_at}
use Rattle.chip_sim.specs.declared.slots.Slot.{Slot}
use Rattle.chip_sim.proofs.SlotLemmas.{slot_at-set}

-- a page with itself in its place
unchanged : (pages : ℕ → PageState) (page p : ℕ) → pages p ≡ with_page pages page (pages page) p
unchanged pages page p =
    elim (eqb_tells p page) [
      | inl same ↦ rw (same.0, same.1) refl
      | inr other ↦ rw other.0 refl
    ]

-- a page that is changed twice
twice : (pages : ℕ → PageState) (page : ℕ) (first : PageState) (then_ : PageState → PageState) (p : ℕ)
    → with_page (with_page pages page first) page (then_ (with_page pages page first page)) p ≡ with_page pages page (then_ first) p
twice pages page first then_ p =
    let here : (page == page) ≡ true = grind (arith, nat_tests) in
    elim (eqb_tells p page) [
      | inl same ↦ rw (same.0, here) refl
      | inr other ↦ rw other.0 refl
    ]

-- flips of bits of a page change this page alone
pub after_flips : {W : Type 0} (model : FaultModel W) (s : ChipState W) (page : ℕ) (bits : List ℕ)
    → after_trace model s (flip_events page bits) ≡ record s { pages = with_page s.pages page (fold flipped (s.pages page) bits) }
after_flips model s page [] = λ i. record s { pages = λ p. unchanged s.pages page p i }
after_flips model s page (bit ∷ bits) =
    after_flips model (happens model s (Flipped page bit)) page bits
    ∙ (λ i. record s { pages = λ p. twice s.pages page (flipped (s.pages page) bit) (λ first. fold flipped first bits) p i })

-- whether a bit was flipped, after these flips
since : Bool → List ℕ → Bool
since before [] = before
since before (bit ∷ bits) = true

since-true : (bits : List ℕ) → since true bits ≡ true
unfolding since
since-true [] = refl
since-true (bit ∷ bits) = refl

-- a page after flips
fold-flipped : (page : PageState) (bits : List ℕ)
    → fold flipped page bits
    ≡ record { cells = fold with_bit_turned page.cells bits; flips = page.flips ++ bits; torn = page.torn; flipped_since = since page.flipped_since bits }
unfolding since
fold-flipped page [] = λ i. record page { flips = sym (append-nil page.flips) i }
fold-flipped page (bit ∷ bits) =
    fold-flipped (flipped page bit) bits
    ∙ (λ i. record {
      cells = fold with_bit_turned (with_bit_turned page.cells bit) bits;
      flips = append_assoc page.flips (bit ∷ []) bits i;
      torn = page.torn;
      flipped_since = since-true bits i;
    })

length-turned : (cells bits : List ℕ) → length (fold with_bit_turned cells bits) ≡ length cells
length-turned cells [] = refl
length-turned cells (bit ∷ bits) = length-turned (with_bit_turned cells bit) bits ∙ length-set cells (bit / 8) _

-- a flipped slot has as many bytes
pub flipped-whole : (raw : ℕ) (bits : List ℕ) (slot : Slot) → IsWholeSlot raw slot → IsWholeSlot raw (flipped_slot raw bits slot)
flipped-whole raw bits slot whole = length-turned (cells_of raw slot) bits ∙ whole

slot-flipped : (raw : ℕ) (flips : List ℕ) (slot : Slot) (bits : List ℕ) → 0 < length bits
    → page_of raw (flips ++ bits) (flipped_slot raw bits slot) ≡ fold flipped (page_of raw flips slot) bits
unfolding since
slot-flipped raw flips slot [] some = absurd (omega (arith, some))
slot-flipped raw flips slot (bit ∷ bits) some = sym (fold-flipped (page_of raw flips slot) (bit ∷ bits))

-- after flips each page is as it should be
pub flip-pages : (raw : ℕ) (flips now : ℕ → List ℕ) (slots : List Slot) (at page : ℕ) (new : Slot) (bits : List ℕ) → at < length slots → 0 < length bits
    → new ≡ flipped_slot raw bits (slot_at slots at)
    → now page ≡ (if page == at then flips page ++ bits else flips page)
    → page_of raw (now page) (slot_at (slice_set slots at new) page)
    ≡ with_page (λ p. page_of raw (flips p) (slot_at slots p)) at (fold flipped (page_of raw (flips at) (slot_at slots at)) bits) page
flip-pages raw flips now slots at page new bits there some is_new counted =
    elim (eqb_tells page at) [
      | inl same ↦ rw (counted, slot_at-set slots at page new there, same.0, is_new, same.1) (slot-flipped raw (flips at) (slot_at slots at) bits some)
      | inr other ↦ rw (counted, slot_at-set slots at page new there, other.0) refl
    ]
