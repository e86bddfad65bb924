-- Pages and blocks.
use Rattle.std.proofs.Common.{◌≡◌, ◌≢◌, ◌⊎◌, inl, inr, Bool, ◌<◌, ℕ, ◌*◌, ◌/◌, ◌%◌, true, false, ◌==◌, refl, ap, sym, ◌∙◌, arith, add-zero}
use Rattle.std.proofs.lemmas.Nat.{div-mul-add}
use Rattle.std.proofs.lemmas.Bool.Decides.{nat_tests}
use Rattle.nand_model.specs.Sizes.{first_page}
use Rattle.nand_model.specs.Chip.{PageState, with_block, with_page}
use Rattle.nand_model.specs.declared.geometry.Geometry.{Geometry}

at_block : (b p : ℕ) → 0 < p → b * p / p ≡ b
at_block b p h = rw add-zero at (div-mul-add b p 0 h)

in_block : (b p : ℕ) → 0 < p → b * p % p ≡ 0
in_block b p h = grind (arith, at_block b p h)

not_same : (b block : ℕ) → (b ≡ block → ⊥) → (b == block) ≡ false
not_same b block n = grind (arith, nat_tests)

is_same : (b : ℕ) → (b == b) ≡ true
is_same b = grind (arith, nat_tests)

pub with_block-other : (g : Geometry) (pages : ℕ → PageState) (block b : ℕ) (change : ℕ → PageState → PageState) → 0 < g.pages_per_block
    → (b ≡ block → ⊥) → with_block g pages block change (first_page g b) ≡ pages (first_page g b)
with_block-other g pages block b change h n = rw (at_block b g.pages_per_block h, not_same b block n) refl

pub with_block-same : (g : Geometry) (pages : ℕ → PageState) (block : ℕ) (change : ℕ → PageState → PageState) → 0 < g.pages_per_block
    → with_block g pages block change (first_page g block) ≡ change 0 (pages (first_page g block))
with_block-same g pages block change h = rw (at_block block g.pages_per_block h, is_same block, in_block block g.pages_per_block h) refl

pub with_page-same : (g : Geometry) (pages : ℕ → PageState) (page : ℕ) (new : PageState) → with_page pages page new page ≡ new
with_page-same g pages page new = rw (is_same page) refl

pub with_page-other : (g : Geometry) (pages : ℕ → PageState) (block b : ℕ) (new : PageState) → 0 < g.pages_per_block
    → (b ≡ block → ⊥) → with_page pages (first_page g block) new (first_page g b) ≡ pages (first_page g b)
with_page-other g pages block b new h n =
    let apart : b * g.pages_per_block ≡ block * g.pages_per_block → ⊥ = λ e. n (sym (at_block b g.pages_per_block h) ∙ ap (λ x. x / g.pages_per_block) e ∙ at_block block g.pages_per_block h) in
    rw (not_same (b * g.pages_per_block) (block * g.pages_per_block) apart) refl

pub first_page-same : (g : Geometry) (a b : ℕ) → 0 < g.pages_per_block → first_page g a ≡ first_page g b → a ≡ b
first_page-same g a b h e = sym (at_block a g.pages_per_block h) ∙ ap (λ x. x / g.pages_per_block) e ∙ at_block b g.pages_per_block h

pub same_or_not : (a b : ℕ) → (a ≡ b) ⊎ (a ≢ b)
same_or_not a b = on (a == b) refl
  where
    on : (t : Bool) → (a == b) ≡ t → (a ≡ b) ⊎ (a ≢ b)
    on true e = inl (grind (arith, nat_tests))
    on false e = inr (grind (arith, nat_tests))

pub block_of_first : (g : Geometry) (b : ℕ) → 0 < g.pages_per_block → first_page g b / g.pages_per_block ≡ b
block_of_first g b h = at_block b g.pages_per_block h
