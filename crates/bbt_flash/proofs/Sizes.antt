-- Blocks of a chip and their pages, as numbers of 32 bits.
use Rattle.std.proofs.Common.{◌≡◌, ℕ, ◌*◌, ◌-◌, ◌<◌, ◌≤◌, [], ◌∷◌, All, arith}
use Rattle.std.proofs.Math.Nat.{mul-le-mul_right}
use Rattle.std.proofs.lemmas.List.Elements.{All-cons, All-nil}
use Rattle.std.proofs.lemmas.Nat.{mul-le}
use Rattle.nand_model.specs.Sizes.{first_page, page_count}
use Rattle.nand_model.specs.Table.{table_blocks}
use Rattle.nand_model.specs.declared.geometry.Geometry.{Geometry}
use Rattle.nand_model.proofs.Bounds.{bounds, pages-le, pages-some}

-- the first page of a block that is there
pub first_page-small : (g : Geometry) (block : ℕ) → block < g.blocks → block * g.pages_per_block ≤ 4096 * 128
first_page-small g block there =
    let high = (bounds g).blocks_high in
    let low : block ≤ 4096 = omega arith in
    mul-le block g.pages_per_block 4096 128 low (pages-le g)

-- it is there
pub first_page-there : (g : Geometry) (block : ℕ) → block < g.blocks → first_page g block < page_count g
first_page-there g block there = omega (arith, mul-le-mul_right g.pages_per_block there, pages-some g)

-- the last four blocks are there
pub table_blocks-there : (g : Geometry) → All (λ block. block < g.blocks) (table_blocks g)
table_blocks-there g =
    let low = (bounds g).blocks_low in
    let There : ℕ → Type 0 = λ block. block < g.blocks in
    let first : g.blocks - 1 < g.blocks = omega arith in
    let second : g.blocks - 2 < g.blocks = omega arith in
    let third : g.blocks - 3 < g.blocks = omega arith in
    let fourth : g.blocks - 4 < g.blocks = omega arith in
    All-cons There (g.blocks - 1) ((g.blocks - 2) ∷ (g.blocks - 3) ∷ (g.blocks - 4) ∷ []) first
    (All-cons There (g.blocks - 2) ((g.blocks - 3) ∷ (g.blocks - 4) ∷ []) second
    (All-cons There (g.blocks - 3) ((g.blocks - 4) ∷ []) third (All-cons There (g.blocks - 4) [] fourth (All-nil There))))
