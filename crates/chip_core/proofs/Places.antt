-- Pages and blocks of a chip and their places.
use Rattle.std.proofs.Common.{◌≡◌, ℕ, ◌*◌, ◌/◌, ◌<◌, ◌≤◌, ◌∙◌, ap, sym, add-zero, arith}
use Rattle.std.proofs.Math.Nat.{div-lt_iff_lt-mul}
use Rattle.std.proofs.lemmas.Nat.{div-mul-add, mul-le}
use Rattle.nand_model.specs.Sizes.{page_count, first_page}
use Rattle.nand_model.specs.declared.geometry.Geometry.{Geometry}
use Rattle.nand_model.proofs.Bounds.{bounds, pages-le, pages-some}

pub page_count-le : (g : Geometry) → page_count g ≤ 4096 * 128
page_count-le g = mul-le g.blocks g.pages_per_block 4096 128 (bounds g).blocks_high (pages-le g)

-- the first page of a block is in the block
pub first_page-block : (g : Geometry) (block : ℕ) → first_page g block / g.pages_per_block ≡ block
first_page-block g block =
    let some = pages-some g in
    ap (λ n. n / g.pages_per_block) (sym (add-zero (first_page g block))) ∙ div-mul-add block g.pages_per_block 0 (omega arith)

-- the block of a page that is there is there
pub block-there : (g : Geometry) (page : ℕ) → page < page_count g → page / g.pages_per_block < g.blocks
block-there g page there = (div-lt_iff_lt-mul (pages-some g)).1 there
