-- A chip is quiet where each of its blocks is, and what befalls one block leaves the others as they are.
use Rattle.std.proofs.Common.{◌≡◌, ◌≢◌, ℕ, ◌+◌, ◌/◌, ◌<◌, ◌≤◌, Bool, true, false, List, [], ◌∷◌, All, refl, ap, sym, subst, ◌∙◌, inl, inr, arith}
use Rattle.std.specs.Prelude.{◌==◌, ◌||◌, count_by, not}
use Rattle.std.specs.List.{list_all, list_any}
use Rattle.std.proofs.lemmas.Bool.{and_from, and_parts, eq-eqb, eqb-true}
use Rattle.std.proofs.lemmas.List.Elements.{All-head, All-tail}
use Rattle.std.proofs.lemmas.List.Sums.{count_by-le-length}
use Rattle.nand_iface.proofs.FlashLemmas.{after_trace-geometry, flips-others, happens-erase_others, happens-geometry, happens-program_others, happens-torn_erase_others, happens-torn_program_others}
use Rattle.nand_model.proofs.Bounds.{bounds, or_parts}
use Rattle.nand_model.specs.Chip.{ChipState, Complete, DoneBits, EraseEvent, FaultModel, PageState, PowerCut, ProgramEvent, after_trace, flip_events, happens}
use Rattle.nand_model.specs.Quiet.{has_no_flip_in, is_quiet, is_quiet_table_page, is_table_block}
use Rattle.nand_model.specs.Sizes.{first_page, numbers_from}
use Rattle.nand_model.specs.Table.{has_tables, table_blocks}
use Rattle.nand_model.specs.declared.geometry.Geometry.{Geometry}
use Rattle.chip_paths.specs.Writing.{count_if}
use Rattle.bbt_flash.proofs.Sizes.{table_blocks-there}
use Rattle.chip_core.specs.Quiet.{is_quiet_block, is_quiet_first_page, unquiet_count}
use Rattle.chip_core.proofs.Numbers.{all_at, all_from, count_but_one, counted_at, length-numbers, none_fails, same_truth}
use Rattle.chip_core.proofs.Places.{first_page-block}

or-right : (a b : Bool) → b ≡ true → (a || b) ≡ true
or-right true b is = refl
or-right false b is = is

-- what holds of each number of a list holds of one that it has
any-holds : (P : ℕ → Type 0) (xs : List ℕ) (n : ℕ) → All P xs → list_any (λ x. x == n) xs ≡ true → P n
any-holds P [] n all has = cc
any-holds P (x ∷ xs) n all has =
    elim (or_parts (x == n) (list_any (λ x. x == n) xs) has) [
      | inl here ↦ subst P (eqb-true x n here) (All-head P x xs all)
      | inr later ↦ any-holds P xs n (All-tail P x xs all) later
    ]

all-at : (p : ℕ → Bool) (xs : List ℕ) (n : ℕ) → list_all p xs ≡ true → list_any (λ x. x == n) xs ≡ true → p n ≡ true
all-at p [] n all has = cc
all-at p (x ∷ xs) n all has =
    let parts = and_parts (p x) (list_all p xs) all in
    elim (or_parts (x == n) (list_any (λ x. x == n) xs) has) [
      | inl here ↦ ap p (sym (eqb-true x n here)) ∙ parts.0
      | inr later ↦ all-at p xs n parts.1 later
    ]

-- and what holds of each that it has holds of all
all-of : (p : ℕ → Bool) (xs : List ℕ) → ((n : ℕ) → list_any (λ x. x == n) xs ≡ true → p n ≡ true) → list_all p xs ≡ true
all-of p [] each = refl
all-of p (x ∷ xs) each =
    and_from (p x) (list_all p xs) (each x (ap (λ b. b || list_any (λ y. y == x) xs) (eq-eqb x x refl)))
    (all-of p xs (λ n has. each n (or-right (x == n) (list_any (λ y. y == n) xs) has)))

module _ (g : Geometry) (pages : ℕ → PageState) where
  abbrev marker_quiet : ℕ → Bool
  marker_quiet b = has_no_flip_in (pages (first_page g b)) g.page (g.page + 1)

  abbrev table_quiet : ℕ → Bool
  table_quiet b = is_quiet_table_page g (pages (first_page g b))

  abbrev tables_quiet : Bool
  tables_quiet = not (has_tables g) || list_all table_quiet (table_blocks g)

  either-or : (is_table quiet : Bool) → (is_table ≡ true → quiet ≡ true) → (not is_table || quiet) ≡ true
  either-or true quiet where_table = where_table refl
  either-or false quiet where_table = refl

  where-so : (is_table quiet : Bool) → (not is_table || quiet) ≡ true → is_table ≡ true → quiet ≡ true
  where-so true quiet either is = either
  where-so false quiet either is = cc

  -- from the chip to a block
  block-quiet : (b : ℕ) → b < g.blocks → is_quiet g pages ≡ true → is_quiet_block g pages b ≡ true
  block-quiet b there quiet =
      let parts = and_parts (list_all marker_quiet (numbers_from 0 g.blocks)) tables_quiet quiet in
      and_from (marker_quiet b) (not (is_table_block g b) || table_quiet b)
      (all_at marker_quiet 0 g.blocks b parts.0 (omega arith) (omega arith))
      (either-or (is_table_block g b) (table_quiet b)
      (λ is.
      let place = and_parts (has_tables g) (list_any (λ x. x == b) (table_blocks g)) is in
      all-at table_quiet (table_blocks g) b (where-so (has_tables g) (list_all table_quiet (table_blocks g)) parts.1 place.0) place.1))

  -- and back
  chip-quiet : ((b : ℕ) → b < g.blocks → is_quiet_block g pages b ≡ true) → is_quiet g pages ≡ true
  chip-quiet each =
      let parts = λ (b : ℕ) (there : b < g.blocks). and_parts (marker_quiet b) (not (is_table_block g b) || table_quiet b) (each b there) in
      and_from (list_all marker_quiet (numbers_from 0 g.blocks)) tables_quiet
      (all_from marker_quiet 0 g.blocks (λ b low high. (parts b (omega arith)).0))
      (either-or (has_tables g) (list_all table_quiet (table_blocks g))
      (λ tables. all-of table_quiet (table_blocks g) (λ b has.
      let there : b < g.blocks = any-holds (λ b. b < g.blocks) (table_blocks g) b (table_blocks-there g) has in
      where-so (is_table_block g b) (table_quiet b) (parts b there).1 (and_from (has_tables g) (list_any (λ x. x == b) (table_blocks g)) tables has))))

  -- a chip is quiet where no block is not
  pub quiet-by_count : is_quiet g pages ≡ (unquiet_count g pages == 0)
  quiet-by_count =
      same_truth (is_quiet g pages) (list_all (is_quiet_block g pages) (numbers_from 0 g.blocks))
      (λ quiet. all_from (is_quiet_block g pages) 0 g.blocks (λ b low high. block-quiet b (omega arith) quiet))
      (λ all. chip-quiet (λ b there. all_at (is_quiet_block g pages) 0 g.blocks b all (omega arith) (omega arith)))
      ∙ sym (none_fails (is_quiet_block g pages) (numbers_from 0 g.blocks))

  pub unquiet-few : unquiet_count g pages ≤ 4096
  unquiet-few =
      omega (arith, count_by-le-length (λ b. not (is_quiet_block g pages b)) (numbers_from 0 g.blocks), length-numbers 0 g.blocks, (bounds g).blocks_high)

  pub unquiet-at : (b : ℕ) → b < g.blocks → count_if (not (is_quiet_block g pages b)) ≤ unquiet_count g pages
  unquiet-at b there = counted_at (λ b. not (is_quiet_block g pages b)) 0 g.blocks b (omega arith) (omega arith)

-- what befalls a block changes the count by that block alone
module _ (g : Geometry) (before after : ℕ → PageState) (block : ℕ) (there : block < g.blocks)
    (others : (b : ℕ) → b ≢ block → after (first_page g b) ≡ before (first_page g b)) where
  pub unquiet-changed : unquiet_count g after + count_if (not (is_quiet_block g before block))
      ≡ unquiet_count g before + count_if (not (is_quiet_block g after block))
  unquiet-changed =
      count_but_one (λ b. not (is_quiet_block g after b)) (λ b. not (is_quiet_block g before b)) block 0 g.blocks (omega arith) (omega arith)
      (λ b other. ap not (same b other))
    where
      same : (b : ℕ) → b ≢ block → is_quiet_block g after b ≡ is_quiet_block g before b
      same b other = ap (λ (p : PageState). is_quiet_first_page g (is_table_block g b) p) (others b other)

  -- and so does the watch of an attach
  pub watches-on : (unquiet now : ℕ) (was is : Bool) → unquiet ≡ unquiet_count g before → was ≡ is_quiet_block g before block
      → is ≡ is_quiet_block g after block → now + count_if (not was) ≡ unquiet + count_if (not is)
      → now ≡ unquiet_count g after
  watches-on unquiet now was is u w i saw =
      let ws : count_if (not was) ≡ count_if (not (is_quiet_block g before block)) = ap (λ b. count_if (not b)) w in
      let is_now : count_if (not is) ≡ count_if (not (is_quiet_block g after block)) = ap (λ b. count_if (not b)) i in
      omega (arith, unquiet-changed)

module _ {W : Type 0} (model : FaultModel W) (s : ChipState W) where
  pub program-others : (page : ℕ) (image : List ℕ) (b : ℕ) → b ≢ page / s.geometry.pages_per_block
      → (happens model s (Complete (ProgramEvent page image))).pages (first_page s.geometry b) ≡ s.pages (first_page s.geometry b)
  program-others page image b other =
      happens-program_others model s page image (first_page s.geometry b)
      (λ same. other (sym (first_page-block s.geometry b) ∙ ap (λ p. p / s.geometry.pages_per_block) same))

  pub erase-others : (block b : ℕ) → b ≢ block
      → (happens model s (Complete (EraseEvent block))).pages (first_page s.geometry b) ≡ s.pages (first_page s.geometry b)
  erase-others block b other = happens-erase_others model s block (first_page s.geometry b) (λ same. other (sym (first_page-block s.geometry b) ∙ same))

  pub flips-others_block : (page : ℕ) (bits : List ℕ) (b : ℕ) → b ≢ page / s.geometry.pages_per_block
      → (after_trace model s (flip_events page bits)).pages (first_page s.geometry b) ≡ s.pages (first_page s.geometry b)
  flips-others_block page bits b other =
      flips-others model s page bits (first_page s.geometry b)
      (λ same. other (sym (first_page-block s.geometry b) ∙ ap (λ p. p / s.geometry.pages_per_block) same))

-- what a watch needs to see a change of a block, and what it has seen then
module _ {W : Type 0} (s : ChipState W) (h : Geometry) (sizes : s.geometry ≡ h) (block : ℕ) (there : block < h.blocks) (unquiet : ℕ)
    (knows : unquiet ≡ unquiet_count s.geometry s.pages) (was : Bool) (saw_was : was ≡ is_quiet_block h s.pages block) where
  low : block < s.geometry.blocks
  low = subst (λ (g : Geometry). block < g.blocks) (sym sizes) there

  was_is : was ≡ is_quiet_block s.geometry s.pages block
  was_is = saw_was ∙ ap (λ (g : Geometry). is_quiet_block g s.pages block) (sym sizes)

  pub saw-counted : count_if (not was) ≤ unquiet
  saw-counted =
      let same : count_if (not was) ≡ count_if (not (is_quiet_block s.geometry s.pages block)) = ap (λ b. count_if (not b)) was_is in
      omega (arith, unquiet-at s.geometry s.pages block low)

  pub saw-few : unquiet ≤ 4096
  saw-few = omega (arith, unquiet-few s.geometry s.pages)

  module _ (now : ℕ) (is : Bool) (saw : now + count_if (not was) ≡ unquiet + count_if (not is)) where
    watched : (after : ChipState W) → after.geometry ≡ s.geometry
        → ((b : ℕ) → b ≢ block → after.pages (first_page s.geometry b) ≡ s.pages (first_page s.geometry b)) → is ≡ is_quiet_block h after.pages block
        → now ≡ unquiet_count after.geometry after.pages
    watched after kept others saw_is =
        watches-on s.geometry s.pages after.pages block low others unquiet now was is knows was_is
        (saw_is ∙ ap (λ (g : Geometry). is_quiet_block g after.pages block) (sym sizes)) saw
        ∙ ap (λ (g : Geometry). unquiet_count g after.pages) (sym kept)

    module _ (model : FaultModel W) (after : ChipState W) (saw_is : is ≡ is_quiet_block h after.pages block) where
      pub watched-flips : (page : ℕ) (bits : List ℕ) → block ≡ page / h.pages_per_block → after ≡ after_trace model s (flip_events page bits)
          → now ≡ unquiet_count after.geometry after.pages
      watched-flips page bits at same =
          watched after (ap (λ (t : ChipState W). t.geometry) same ∙ after_trace-geometry model s (flip_events page bits))
          (λ b other. ap (λ (t : ChipState W). t.pages (first_page s.geometry b)) same
          ∙ flips-others_block model s page bits b (λ is. other (is ∙ ap (λ (g : Geometry). page / g.pages_per_block) sizes ∙ sym at)))
          saw_is

      pub watched-program : (page : ℕ) (image : List ℕ) → block ≡ page / h.pages_per_block → after ≡ happens model s (Complete (ProgramEvent page image))
          → now ≡ unquiet_count after.geometry after.pages
      watched-program page image at same =
          watched after (ap (λ (t : ChipState W). t.geometry) same ∙ happens-geometry model s (Complete (ProgramEvent page image)))
          (λ b other. ap (λ (t : ChipState W). t.pages (first_page s.geometry b)) same
          ∙ program-others model s page image b (λ is. other (is ∙ ap (λ (g : Geometry). page / g.pages_per_block) sizes ∙ sym at)))
          saw_is

      pub watched-erase : after ≡ happens model s (Complete (EraseEvent block)) → now ≡ unquiet_count after.geometry after.pages
      watched-erase same =
          watched after (ap (λ (t : ChipState W). t.geometry) same ∙ happens-geometry model s (Complete (EraseEvent block)))
          (λ b other. ap (λ (t : ChipState W). t.pages (first_page s.geometry b)) same ∙ erase-others model s block b other) saw_is

      pub watched-torn_program : (page : ℕ) (image : List ℕ) (done : DoneBits) → block ≡ page / h.pages_per_block
          → after ≡ happens model s (PowerCut (ProgramEvent page image) done) → now ≡ unquiet_count after.geometry after.pages
      watched-torn_program page image done at same =
          watched after (ap (λ (t : ChipState W). t.geometry) same ∙ happens-geometry model s (PowerCut (ProgramEvent page image) done))
          (λ b other. ap (λ (t : ChipState W). t.pages (first_page s.geometry b)) same
          ∙ happens-torn_program_others model s page image done (first_page s.geometry b)
          (λ is. other (sym (first_page-block s.geometry b) ∙ ap (λ p. p / s.geometry.pages_per_block) is
          ∙ ap (λ (g : Geometry). page / g.pages_per_block) sizes ∙ sym at))) saw_is

      pub watched-torn_erase : (done : DoneBits) → after ≡ happens model s (PowerCut (EraseEvent block) done)
          → now ≡ unquiet_count after.geometry after.pages
      watched-torn_erase done same =
          watched after (ap (λ (t : ChipState W). t.geometry) same ∙ happens-geometry model s (PowerCut (EraseEvent block) done))
          (λ b other. ap (λ (t : ChipState W). t.pages (first_page s.geometry b)) same
          ∙ happens-torn_erase_others model s block done (first_page s.geometry b)
          (λ is. other (sym (first_page-block s.geometry b) ∙ is))) saw_is
