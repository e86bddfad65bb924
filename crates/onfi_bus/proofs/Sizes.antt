-- The sizes of the largest chip.
use Rattle.std.proofs.Common.{◌≡◌, ℕ, ◌*◌, ◌/◌, ◌<◌, ◌≤◌, ◌∙◌, inl, inr, ap, sym, add-zero, arith}
use Rattle.std.proofs.Math.Nat.{mul-le-mul_right}
use Rattle.std.proofs.lemmas.Nat.{div-mul-add, mul-le}
use Rattle.nand_model.proofs.Bounds.{bounds, pages-le, pages-some}
use Rattle.nand_model.specs.Sizes.{page_count, raw_len}
use Rattle.nand_model.specs.declared.geometry.Geometry.{Geometry}

pub raw_len_small : (g : Geometry) → raw_len g ≤ 4320
raw_len_small g =
    elim (bounds g).pages [
      | inl e ↦ omega (arith, e.0, e.1)
      | inr others ↦ elim others [ inl e ↦ omega (arith, e.0, e.1) | inr e ↦ omega (arith, e.0, e.1) ]
    ]

pub page_count_small : (g : Geometry) → page_count g ≤ 524288
page_count_small g = mul-le g.blocks g.pages_per_block 4096 128 (bounds g).blocks_high (pages-le g)

-- the first page of a block is there
pub first_page_there : (g : Geometry) (block : ℕ) → block < g.blocks → block * g.pages_per_block < page_count g
first_page_there g block there = omega (arith, mul-le-mul_right g.pages_per_block there, pages-some g)

-- and in the block
pub first_page_block : (g : Geometry) (block : ℕ) → block * g.pages_per_block / g.pages_per_block ≡ block
first_page_block g block =
    let some = pages-some g in
    ap (λ (n : ℕ). n / g.pages_per_block) (sym (add-zero (block * g.pages_per_block))) ∙ div-mul-add block g.pages_per_block 0 (omega arith)
