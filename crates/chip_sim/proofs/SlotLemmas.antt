-- Slots after one of them, or those of a block, are changed.
use Rattle.std.proofs.Common.{◌≡◌, ℕ, ◌+◌, ◌-◌, ◌/◌, ◌<◌, arith, refl, ap, sym, ◌∙◌, subst, inl, inr, Bool, true, false, List, [], ◌∷◌, length, slice_set, slice_index_or, All, if◌then◌else◌}
use Rattle.std.specs.Prelude.{◌==◌, ◌&&◌, ◌%◌, nat_le, nat_lt}
use Rattle.std.specs.List.{list_any}
use Rattle.std.proofs.lemmas.Bool.Decides.{eqb_tells, nat_tests}
use Rattle.std.proofs.lemmas.List.{get_or-set_same, get_or-set_other, get_or_default, length-replicate, length-set}
use Rattle.std.proofs.lemmas.List.Elements.{All-head, All-rest, All-set}
use Rattle.nand_model.specs.Chip.{PageState, new_page, with_page, with_block, blank_page, done_bits, torn_erase}
use Rattle.nand_model.specs.Sizes.{page_count, raw_len, first_page}
use Rattle.nand_model.specs.declared.geometry.Geometry.{Geometry}
use Rattle.nand_model.specs.declared.tear.Tear.{Tear}
use Rattle.chip_sim.specs.Blanks.{blank_cells}
use Rattle.chip_sim.specs.Slots.{IsWholeSlot, cells_of, erase_torn, page_of, program_torn, programmed_slot, slot_at}
use Rattle.chip_sim.specs.declared.page.Page.{Page}
use Rattle.chip_sim.specs.declared.slots.Slot.{Slot}
use Rattle.chip_sim.specs.declared.slots.Slot.TheVariants.{Blank, Kept}
use Rattle.nand_iface.proofs.FlashLemmas.{length-map_from}
use Rattle.chip_sim.proofs.Erasing.{in_block, place_in_block}
use Rattle.chip_sim.proofs.Placing.{first_page-there}
use Rattle.chip_sim.proofs.Tearing.{erased-page}

-- a slot after one is set
pub slot_at-set : (slots : List Slot) (at page : ℕ) (new : Slot) → at < length slots
    → slot_at (slice_set slots at new) page ≡ (if page == at then new else slot_at slots page)
slot_at-set slots at page new there =
    elim (eqb_tells page at) [
      | inl same ↦ rw (same.0, same.1) (get_or-set_same slots at new (Blank false) there)
      | inr other ↦ rw other.0 (get_or-set_other slots at page new (Blank false) other.1)
    ]

-- a slot that was read and changed is the changed slot at that place
pub slot_at-changed : (slots : List Slot) (at : ℕ) (read new : Slot) (change : Slot → Slot) → at < length slots → read ≡ slice_index_or slots at read
    → new ≡ change read → new ≡ change (slot_at slots at)
slot_at-changed slots at read new change there is_read changed = changed ∙ ap change (is_read ∙ get_or_default slots at read (Blank false) there)

-- a programmed slot has as many bytes
pub programmed-whole : (raw : ℕ) (image : List ℕ) (slot : Slot) → IsWholeSlot raw slot → IsWholeSlot raw (programmed_slot raw image slot)
programmed-whole raw image slot whole = length-map_from _ (cells_of raw slot) 0 ∙ whole

-- and so has one that was programmed by a tear
pub program_torn-whole : (raw : ℕ) (image : List ℕ) (tear : Tear) (slot : Slot) → IsWholeSlot raw slot → IsWholeSlot raw (program_torn raw image tear slot)
program_torn-whole raw image tear slot whole = length-map_from _ (cells_of raw slot) 0 ∙ whole

-- and one that was erased by a tear
pub erase_torn-whole : (raw : ℕ) (tear : Tear) (q : ℕ) (slot : Slot) → IsWholeSlot raw slot → IsWholeSlot raw (erase_torn raw tear q slot)
erase_torn-whole raw tear q (Blank torn) whole = whole
erase_torn-whole raw tear q (Kept page) whole = length-map_from _ page.cells 0 ∙ whole

-- after one slot is changed each page is as it should be
pub change-pages : (raw : ℕ) (flips : ℕ → List ℕ) (slots : List Slot) (at page : ℕ) (new : Slot) (after : PageState) → at < length slots
    → page_of raw (flips at) new ≡ after
    → page_of raw (flips page) (slot_at (slice_set slots at new) page) ≡ with_page (λ p. page_of raw (flips p) (slot_at slots p)) at after page
change-pages raw flips slots at page new after there is_new =
    elim (eqb_tells page at) [
      | inl same ↦ rw (slot_at-set slots at page new there, same.0, same.1) is_new
      | inr other ↦ rw (slot_at-set slots at page new there, other.0) refl
    ]

-- each slot of a list, at the default of a slot
All-slots : (P : Slot → Type 0) (slots : List Slot) → ((page : ℕ) → page < length slots → P (slot_at slots page)) → All P slots
All-slots P slots each = λ page d there. subst P (get_or_default slots page (Blank false) d there) (each page there)

whole_if : (raw : ℕ) (b : Bool) (slot : Slot) → IsWholeSlot raw slot → IsWholeSlot raw (if b then Blank false else slot)
whole_if raw true slot whole = length-replicate raw 0xff
whole_if raw false slot whole = whole

-- cleared slots are whole
pub cleared-whole : (raw first end : ℕ) (old new : List Slot) → length new ≡ length old
    → ((page : ℕ) → slot_at new page ≡ (if nat_le first page && nat_lt page end then Blank false else slot_at old page))
    → All (IsWholeSlot raw) old → All (IsWholeSlot raw) new
cleared-whole raw first end old new same_length cleared whole =
    All-slots (IsWholeSlot raw) new (λ page there.
    rw (cleared page) (whole_if raw (nat_le first page && nat_lt page end) (slot_at old page) (whole page (Blank false) (omega arith))))

page_if : (g : Geometry) (flips : List ℕ) (b : Bool) (slot : Slot)
    → page_of (raw_len g) (if b then [] else flips) (if b then Blank false else slot) ≡ (if b then blank_page g else page_of (raw_len g) flips slot)
page_if g flips true slot = refl
page_if g flips false slot = refl

-- after a good erase each page is as it should be
pub erase-pages : (g : Geometry) (old new : List Slot) (flips kept : ℕ → List ℕ) (block page : ℕ) → 0 < g.pages_per_block
    → slot_at new page
    ≡ (if nat_le (first_page g block) page && nat_lt page (first_page g block + g.pages_per_block) then Blank false else slot_at old page)
    → kept page ≡ (if nat_le (first_page g block) page && nat_lt page (first_page g block + g.pages_per_block) then [] else flips page)
    → page_of (raw_len g) (kept page) (slot_at new page)
    ≡ with_block g (λ p. page_of (raw_len g) (flips p) (slot_at old p)) block (λ q before. blank_page g) page
erase-pages g old new flips kept block page some cleared forgotten =
    rw (cleared, forgotten, ← in_block g.pages_per_block block page some) (page_if g (flips page) (page / g.pages_per_block == block) (slot_at old page))

-- the place of a page in its block is counted from the first page
erase_torn-page : (g : Geometry) (tear : Tear) (flips : List ℕ) (q : ℕ) (slot : Slot)
    → page_of (raw_len g) flips (erase_torn (raw_len g) tear q slot) ≡ torn_erase (done_bits (raw_len g) tear) q (page_of (raw_len g) flips slot)
erase_torn-page g tear flips q (Blank true) = λ i. record { cells = erased-page (raw_len g) tear q i; flips = flips; torn = true; flipped_since = false }
erase_torn-page g tear flips q (Blank false) = λ i. record { cells = erased-page (raw_len g) tear q i; flips = flips; torn = true; flipped_since = false }
erase_torn-page g tear flips q (Kept page) = refl

torn_if : (g : Geometry) (tear : Tear) (flips : List ℕ) (b : Bool) (p q : ℕ) (slot : Slot) → (b ≡ true → p ≡ q)
    → page_of (raw_len g) flips (if b then erase_torn (raw_len g) tear p slot else slot)
    ≡ (if b then torn_erase (done_bits (raw_len g) tear) q (page_of (raw_len g) flips slot) else page_of (raw_len g) flips slot)
torn_if g tear flips true p q slot same = rw (same refl) (erase_torn-page g tear flips q slot)
torn_if g tear flips false p q slot same = refl

-- after a torn erase each page is as it should be
pub tear-pages : (g : Geometry) (tear : Tear) (old new : List Slot) (flips : ℕ → List ℕ) (block page : ℕ) → 0 < g.pages_per_block
    → slot_at new page
    ≡ (if nat_le (first_page g block) page && nat_lt page (first_page g block + g.pages_per_block)
    then erase_torn (raw_len g) tear (page - first_page g block) (slot_at old page)
    else slot_at old page)
    → page_of (raw_len g) (flips page) (slot_at new page)
    ≡ with_block g (λ p. page_of (raw_len g) (flips p) (slot_at old p)) block (torn_erase (done_bits (raw_len g) tear)) page
tear-pages g tear old new flips block page some torn =
    rw (torn, ← in_block g.pages_per_block block page some)
    (torn_if g tear (flips page) (page / g.pages_per_block == block) (page - first_page g block) (page % g.pages_per_block) (slot_at old page)
    (place_in_block g.pages_per_block block page some))

-- one more slot is erased by a tear
pub tear-next : (raw first q : ℕ) (tear : Tear) (start slots : List Slot) (new : Slot) (page : ℕ) → first + q < length slots
    → ((p : ℕ) → slot_at slots p ≡ (if nat_le first p && nat_lt p (first + q) then erase_torn raw tear (p - first) (slot_at start p) else slot_at start p))
    → new ≡ erase_torn raw tear q (slot_at slots (first + q))
    → slot_at (slice_set slots (first + q) new) page
    ≡ (if nat_le first page && nat_lt page (first + (q + 1)) then erase_torn raw tear (page - first) (slot_at start page) else slot_at start page)
tear-next raw first q tear start slots new page there so_far is_new =
    elim (eqb_tells page (first + q)) [
      | inl same ↦
          let within : (nat_le first (first + q) && nat_lt (first + q) (first + (q + 1))) ≡ true = grind (arith, nat_tests) in
          let before : (nat_le first (first + q) && nat_lt (first + q) (first + q)) ≡ false = grind (arith, nat_tests) in
          let kept : slot_at slots (first + q) ≡ slot_at start (first + q) = rw before at (so_far (first + q)) in
          let place : (first + q) - first ≡ q = omega arith in
          rw (slot_at-set slots (first + q) page new there, same.0, same.1, within, place, is_new, kept) refl
      | inr other ↦
          let alike : (nat_le first page && nat_lt page (first + (q + 1))) ≡ (nat_le first page && nat_lt page (first + q)) = grind (arith, nat_tests) in
          rw (slot_at-set slots (first + q) page new there, other.0, alike) (so_far page)
    ]

-- slots of which some were erased by a tear are whole
torn_whole_if : (raw : ℕ) (tear : Tear) (b : Bool) (q : ℕ) (slot : Slot) → IsWholeSlot raw slot → IsWholeSlot raw (if b then erase_torn raw tear q slot else slot)
torn_whole_if raw tear true q slot whole = erase_torn-whole raw tear q slot whole
torn_whole_if raw tear false q slot whole = whole

pub torn-whole : (raw first end : ℕ) (tear : Tear) (old new : List Slot) → length new ≡ length old
    → ((page : ℕ) → slot_at new page ≡ (if nat_le first page && nat_lt page end then erase_torn raw tear (page - first) (slot_at old page) else slot_at old page))
    → All (IsWholeSlot raw) old → All (IsWholeSlot raw) new
torn-whole raw first end tear old new same_length torn whole =
    All-slots (IsWholeSlot raw) new (λ page there.
    rw (torn page) (torn_whole_if raw tear (nat_le first page && nat_lt page end) (page - first) (slot_at old page) (whole page (Blank false) (omega arith))))

-- the first page of a factory-bad block
abbrev pub factory_bad : Geometry → Page
factory_bad g = record { cells = slice_set (blank_cells (raw_len g)) g.page 0; torn = false; flipped_since = false }

same_page : (b : Bool) (page : PageState) → (if b then page else page) ≡ page
same_page true page = refl
same_page false page = refl

-- one more factory-bad block is marked, and no longer left to mark
new_page-marked : (g : Geometry) (slots : List Slot) (block : ℕ) (left : List ℕ) → first_page g block < length slots → (page : ℕ)
    → (if list_any (λ b. first_page g b == page) left
    then page_of (raw_len g) [] (Kept (factory_bad g))
    else page_of (raw_len g) [] (slot_at (slice_set slots (first_page g block) (Kept (factory_bad g))) page))
    ≡ (if list_any (λ b. first_page g b == page) (block ∷ left)
    then page_of (raw_len g) [] (Kept (factory_bad g))
    else page_of (raw_len g) [] (slot_at slots page))
new_page-marked g slots block left there page =
    elim (eqb_tells page (first_page g block)) [
      | inl same ↦
          let here : (first_page g block == page) ≡ true = grind (arith, nat_tests) in
          rw (slot_at-set slots (first_page g block) page (Kept (factory_bad g)) there, same.0, here)
          (same_page (list_any (λ b. first_page g b == page) left) (page_of (raw_len g) [] (Kept (factory_bad g))))
      | inr other ↦
          let elsewhere : (first_page g block == page) ≡ false = grind (arith, nat_tests) in
          rw (slot_at-set slots (first_page g block) page (Kept (factory_bad g)) there, other.0, elsewhere) refl
    ]

pub factory_bad-whole : (g : Geometry) → IsWholeSlot (raw_len g) (Kept (factory_bad g))
factory_bad-whole g = length-set (blank_cells (raw_len g)) g.page 0 ∙ length-replicate (raw_len g) 0xff

-- new slots of which factory-bad blocks are marked, but for those that are left to mark
pub record Marked (g : Geometry) (bad : List ℕ) (slots : List Slot) (left : List ℕ) : Type 0 where
  pub count : length slots ≡ page_count g
  pub whole : All (IsWholeSlot (raw_len g)) slots
  pub blocks : All (λ block. block < g.blocks) left
  pub pages : (page : ℕ) → (if list_any (λ b. first_page g b == page) left
      then page_of (raw_len g) [] (Kept (factory_bad g))
      else page_of (raw_len g) [] (slot_at slots page)) ≡ new_page g bad page

-- one more is marked
pub one_marked : (g : Geometry) (bad : List ℕ) (slots : List Slot) (left : List ℕ) (block : ℕ) (rest : List ℕ) (page : Page) → Marked g bad slots left
    → left ≡ block ∷ rest → page ≡ factory_bad g → Marked g bad (slice_set slots (first_page g block) (Kept page)) rest
one_marked g bad slots left block rest page so_far is_left is_bad =
    let inside : block < g.blocks = All-head (λ b. b < g.blocks) block rest (subst (All (λ b. b < g.blocks)) is_left so_far.blocks) in
    let there : first_page g block < length slots = rw so_far.count (first_page-there g block inside) in
    rw is_bad
    (record {
      count = length-set slots (first_page g block) (Kept (factory_bad g)) ∙ so_far.count;
      whole = All-set (IsWholeSlot (raw_len g)) slots (first_page g block) (Kept (factory_bad g)) (factory_bad-whole g) so_far.whole;
      blocks = All-rest (λ b. b < g.blocks) block rest left is_left so_far.blocks;
      pages = λ p. new_page-marked g slots block rest there p
          ∙ ap (λ bs. if list_any (λ b. first_page g b == p) bs
          then page_of (raw_len g) [] (Kept (factory_bad g))
          else page_of (raw_len g) [] (slot_at slots p)) (sym is_left)
          ∙ so_far.pages p;
    })
