-- Where blocks begin, and where their markers stand.
use Rattle.std.proofs.Common.{◌≡◌, ℕ, suc, ◌+◌, ◌-◌, ◌*◌, ◌<◌, ◌≤◌, ◌^◌, ◌∷◌, ◌++◌, List, replicate, slice_set, refl, sym, ap, arith, ◌⊎◌, inl, inr}
use Rattle.std.proofs.lemmas.Nat.{mul-lt}
use Rattle.std.proofs.Math.Nat.{mul-lt-mul_of_pos_right, sub_self}
use Rattle.std.proofs.Math.ListN.{set}
use Rattle.std.proofs.lemmas.List.{replicate-append-replicate, set-append_right, length-replicate}
use Rattle.nand_model.specs.Page.{marker_image}
use Rattle.nand_model.specs.Sizes.{first_page, page_count, raw_len}
use Rattle.nand_model.specs.declared.geometry.Geometry.{Geometry}
use Rattle.nand_model.proofs.Bounds.{bounds}

pages_low : (n : ℕ) → (n ≡ 64) ⊎ (n ≡ 128) → 0 < n
pages_low n (inl e) = omega arith
pages_low n (inr e) = omega arith

pages_high : (n : ℕ) → (n ≡ 64) ⊎ (n ≡ 128) → n < 129
pages_high n (inl e) = omega arith
pages_high n (inr e) = omega arith

-- a block that is there begins at a page that is there
pub first_page-lt : (g : Geometry) (block : ℕ) → block < g.blocks → first_page g block < page_count g
first_page-lt g block there = mul-lt-mul_of_pos_right there (pages_low g.pages_per_block (bounds g).block)

-- and the page's number is small
pub first_page-small : (g : Geometry) (block : ℕ) → block < g.blocks → first_page g block < 2 ^ 32
first_page-small g block there =
    let blocks : g.blocks ≤ 4096 = (bounds g).blocks_high in
    let small : block * g.pages_per_block < 4096 * 129 = mul-lt block g.pages_per_block 4096 129 (omega arith) (pages_high g.pages_per_block (bounds g).block) in
    omega arith

spare_low : (g : Geometry) → ((g.page ≡ 2048) × (g.spare ≡ 64)) ⊎ (((g.page ≡ 4096) × (g.spare ≡ 128)) ⊎ ((g.page ≡ 4096) × (g.spare ≡ 224))) → 0 < g.spare
spare_low g (inl e) = let s = e.1 in omega arith
spare_low g (inr (inl e)) = let s = e.1 in omega arith
spare_low g (inr (inr e)) = let s = e.1 in omega arith

-- the marker byte is within the page
pub marker_place-lt : (g : Geometry) → g.page < raw_len g
marker_place-lt g = let low = spare_low g (bounds g).pages in omega arith

marked_run : (byte marker n m : ℕ) → 0 < m → slice_set (replicate (n + m) byte) n marker ≡ replicate n byte ++ marker ∷ replicate (m - 1) byte
marked_run byte marker n m low =
    let split : replicate (n + m) byte ≡ replicate n byte ++ replicate m byte = sym (replicate-append-replicate n m byte) in
    let one : m ≡ suc (m - 1) = omega arith in
    let first : set (replicate m byte) 0 marker ≡ marker ∷ replicate (m - 1) byte = ap (λ k. set (replicate k byte) 0 marker) one in
    rw (split, set-append_right (replicate n byte) (replicate m byte) n n marker (length-replicate n byte) (omega arith), sub_self n, first) refl

-- erased bytes with the marker byte cleared are the image of a marker
pub marker_image-set : (g : Geometry) (bytes : List ℕ) → bytes ≡ replicate (raw_len g) 0xff → slice_set bytes g.page 0 ≡ marker_image g
marker_image-set g bytes erased = rw erased (marked_run 0xff 0 g.page g.spare (spare_low g (bounds g).pages))
