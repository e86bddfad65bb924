-- The words of a page's steps: where their parities stand, and how many of their bits were flipped.
use Rattle.std.proofs.Common.{◌≡◌, ℕ, ◌+◌, ◌-◌, ◌*◌, ◌^◌, ◌<◌, ◌≤◌, min, inl, inr, arith}
use Rattle.std.specs.Prelude.{nat_le}
use Rattle.std.proofs.lemmas.Bool.{le-leb, leb-true}
use Rattle.std.proofs.lemmas.Nat.{mul-le}
use Rattle.nand_model.proofs.Bounds.{bounds}
use Rattle.nand_model.specs.Sizes.{parity_bytes, step_count}
use Rattle.nand_model.specs.declared.geometry.Geometry.{Geometry}
use Rattle.chip_core.proofs.Numbers.{same_truth}

pub page-few : (g : Geometry) → g.page + g.spare ≤ 4320
page-few g = elim (bounds g).pages [ inl e ↦ omega (arith, e.0, e.1) | inr others ↦ elim others [ inl e ↦ omega (arith, e.0, e.1) | inr e ↦ omega (arith, e.0, e.1) ] ]

pub parity-few : (g : Geometry) (step : ℕ) → step < step_count g → step * parity_bytes g ≤ 8 * 26
parity-few g step there =
    let steps : step ≤ 8 = omega (arith, page-few g) in
    let high = (bounds g).t_high in
    let bytes : parity_bytes g ≤ 26 = omega arith in
    mul-le step (parity_bytes g) 8 26 steps bytes

-- a word has few enough flips where its body does, and its parity for the rest
pub few-flips : (a b t x y : ℕ) → x ≡ min a (2 ^ 32 - 1) → y ≡ min b (2 ^ 32 - 1) → t ≤ 16 → x ≤ t → nat_le y (t - x) ≡ nat_le (a + b) t
few-flips a b t x y body parity low some =
    same_truth (nat_le y (t - x)) (nat_le (a + b) t) (λ h. let few = leb-true y (t - x) h in le-leb (a + b) t (omega arith))
    (λ h. let few = leb-true (a + b) t h in le-leb y (t - x) (omega arith))
