-- The first page of a block of the chip is a page of the chip.
use Rattle.std.proofs.Common.{ℕ, ◌+◌, ◌*◌, ◌^◌, ◌<◌, ◌≤◌, arith, inl, inr}
use Rattle.std.proofs.Math.Nat.{mul-le-mul_right}
use Rattle.nand_model.specs.Sizes.{page_count, first_page}
use Rattle.nand_model.specs.declared.geometry.Geometry.{Geometry}
use Rattle.nand_model.proofs.Bounds.{bounds}

-- a block has pages
pub pages_per_block-some : (g : Geometry) → 0 < g.pages_per_block
pages_per_block-some g = elim ((bounds g).block) [ inl h ↦ omega arith | inr h ↦ omega arith ]

-- the pages of a block are pages of the chip
pub block-there : (g : Geometry) (block : ℕ) → block < g.blocks → block * g.pages_per_block + g.pages_per_block ≤ page_count g
block-there g block there = omega (arith, mul-le-mul_right g.pages_per_block there)

pub first_page-there : (g : Geometry) (block : ℕ) → block < g.blocks → first_page g block < page_count g
first_page-there g block there = omega (arith, block-there g block there, pages_per_block-some g)

-- and their numbers are small
pub block_end-small : (g : Geometry) (block : ℕ) → block < g.blocks → block * g.pages_per_block + g.pages_per_block < 2 ^ 32
block_end-small g block there =
    let more : block + 1 ≤ 4096 = omega (arith, (bounds g).blocks_high) in
    let all : (block + 1) * g.pages_per_block ≤ 4096 * g.pages_per_block = mul-le-mul_right g.pages_per_block more in
    elim ((bounds g).block) [ inl h ↦ omega arith | inr h ↦ omega arith ]
