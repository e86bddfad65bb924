-- The places of a table in its page.
use Rattle.std.proofs.Common.{◌≡◌, ◌≢◌, ℕ, ◌+◌, ◌*◌, ◌/◌, ◌≤◌, ◌⊎◌, inl, inr, false, ◌∷◌, ◌++◌, [], List, replicate, refl, arith}
use Rattle.std.specs.Prelude.{◌==◌}
use Rattle.std.proofs.lemmas.Bool.Decides.{nat_tests}
use Rattle.std.proofs.Math.Nat.{mul-le-mul_right}
use Rattle.nand_model.specs.Sizes.{parity_bytes, parity_start, raw_len, step_count}
use Rattle.nand_model.specs.Table.{padded, pattern, table_bytes, table_layout}
use Rattle.nand_model.specs.declared.geometry.Geometry.{Geometry}
use Rattle.nand_model.specs.declared.words.Which.{Which}
use Rattle.nand_model.proofs.Bounds.{bounds}

sizes : (page spare : ℕ) → ((page ≡ 2048) × (spare ≡ 64)) ⊎ (((page ≡ 4096) × (spare ≡ 128)) ⊎ ((page ≡ 4096) × (spare ≡ 224)))
    → (2048 ≤ page) × (page ≡ 512 * (page / 512))
sizes page spare (inl e) = let p = e.0 in (omega arith, omega arith)
sizes page spare (inr (inl e)) = let p = e.0 in (omega arith, omega arith)
sizes page spare (inr (inr e)) = let p = e.0 in (omega arith, omega arith)

-- the bytes of a body
pub page-low : (g : Geometry) → 2048 ≤ g.page
page-low g = (sizes g.page g.spare (bounds g).pages).0

-- which make whole steps
pub page-steps : (g : Geometry) → g.page ≡ 512 * step_count g
page-steps g = (sizes g.page g.spare (bounds g).pages).1

pub step_count-some : (g : Geometry) → 1 ≤ step_count g
step_count-some g = let low = page-low g in let whole = page-steps g in omega arith

-- the parities end the spare
pub parities-end : (g : Geometry) → parity_start g + step_count g * parity_bytes g ≡ g.spare
parities-end g = let room = (bounds g).room in omega arith

-- the first parity is within the page
pub first_parity : (g : Geometry) → g.page + parity_start g + parity_bytes g ≤ raw_len g
first_parity g =
    let end = parities-end g in
    let one = mul-le-mul_right (parity_bytes g) (step_count-some g) in
    omega arith

-- a body has room for a header and the states of all blocks
pub body-long : (g : Geometry) → g.blocks / 4 + 5 ≤ g.page
body-long g = let low = page-low g in let high = (bounds g).blocks_high in omega arith

-- the layout with the header at the head of the body
pub layout_in_body : (g : Geometry) (which : Which) (version : ℕ) (states : List ℕ) → g.bbt ≢ 1
    → table_layout g which version states ≡ padded g.page (pattern which ++ (version ∷ []) ++ table_bytes states) ++ replicate g.spare 0xff
layout_in_body g which version states h =
    let off : (g.bbt == 1) ≡ false = grind (arith, nat_tests) in
    rw off refl
