-- The pages in which tables stand are the first ones of the blocks in which they stand.
use Rattle.std.proofs.Common.{◌≡◌, ◌≢◌, ℕ, ◌/◌, ◌%◌, Bool, true, false, List, [], ◌∷◌, refl, ap, sym, ◌∙◌, arith}
use Rattle.std.specs.Prelude.{◌==◌, ◌&&◌}
use Rattle.std.specs.List.{list_any}
use Rattle.std.proofs.lemmas.Bool.{eq-eqb, eqb-true, ne_eqb}
use Rattle.std.proofs.Math.Nat.{mul-mod_left}
use Rattle.nand_model.proofs.Bounds.{pages-some}
use Rattle.nand_model.specs.Quiet.{is_table_block, is_table_page}
use Rattle.nand_model.specs.Sizes.{first_page}
use Rattle.nand_model.specs.Table.{has_tables, table_blocks}
use Rattle.nand_model.specs.declared.geometry.Geometry.{Geometry}
use Rattle.chip_core.proofs.Numbers.{same_truth}
use Rattle.chip_core.proofs.Places.{first_page-block}

module _ (g : Geometry) (page : ℕ) where
  abbrev block : ℕ
  block = page / g.pages_per_block

  -- the first page of a block is this page where the block is that of the page, and the page the first of its block
  same-test : page % g.pages_per_block ≡ 0 → (b : ℕ) → (first_page g b == page) ≡ (b == block)
  same-test first b =
      let some = pages-some g in
      let whole : first_page g block ≡ page = omega arith in
      same_truth (first_page g b == page) (b == block)
      (λ is. eq-eqb b block (sym (first_page-block g b) ∙ ap (λ p. p / g.pages_per_block) (eqb-true (first_page g b) page is)))
      (λ is. eq-eqb (first_page g b) page (ap (first_page g) (eqb-true b block is) ∙ whole))

  pub table_page-at : page % g.pages_per_block ≡ 0 → is_table_page g page ≡ is_table_block g block
  table_page-at first = (λ i. has_tables g && list_any (λ b. same-test first b i) (table_blocks g))

  no-test : page % g.pages_per_block ≢ 0 → (b : ℕ) → (first_page g b == page) ≡ false
  no-test other b =
      ne_eqb (first_page g b) page
      (λ is. let zero : first_page g b % g.pages_per_block ≡ 0 = mul-mod_left b g.pages_per_block in other (ap (λ p. p % g.pages_per_block) (sym is) ∙ zero))

  none : (bs : List ℕ) → list_any (λ b. false) bs ≡ false
  none [] = refl
  none (b ∷ bs) = none bs

  and-false : (a : Bool) → (a && false) ≡ false
  and-false true = refl
  and-false false = refl

  pub table_page-none : page % g.pages_per_block ≢ 0 → is_table_page g page ≡ false
  table_page-none other =
      (λ i. has_tables g && list_any (λ b. no-test other b i) (table_blocks g))
      ∙ ap (λ t. has_tables g && t) (none (table_blocks g)) ∙ and-false (has_tables g)
