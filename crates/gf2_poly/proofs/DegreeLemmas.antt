-- Degrees, and bounds on products.
use Rattle.std.proofs.Common.{◌≡◌, ℕ, zero, suc, ◌+◌, ◌*◌, ◌/◌, ◌%◌, ◌^◌, ◌<◌, ◌≤◌, sym, ap, ◌∙◌, subst, arith, inl, inr, lit<}
use Rattle.std.specs.Prelude.{bit_xor}
use Rattle.std.proofs.lemmas.Bool.{cases_lt}
use Rattle.std.proofs.lemmas.Nat.{pow_pos, xor_lt}
use Rattle.std.proofs.Math.Nat.{pow-suc, pow-le-pow_right}
use Rattle.code_model.specs.Binary.{product, HasDegree}
use Rattle.code_model.proofs.BinaryLemmas.{product-zero_left, product-digit}

pub plus_power : (k : ℕ) → 2 ^ (k + 1) ≡ 2 ^ k + 2 ^ k
plus_power k = let i : k + 1 ≡ suc k = omega arith in let e = pow-suc 2 k in ap (λ n. 2 ^ n) i ∙ omega arith

-- the bounds of a degree in the form of the field's lemmas
pub below_twice : (d n : ℕ) → n < 2 ^ (d + 1) → n < 2 * 2 ^ d
below_twice d n h = let e = plus_power d in omega arith

pub has_degree : (d n : ℕ) → (2 ^ d ≤ n) × (n < 2 * 2 ^ d) → HasDegree d n
has_degree d n h = let e = plus_power d in let lo = h.0 in let hi = h.1 in (lo, omega arith)

-- a polynomial has one degree
pub degree_unique : (d e a : ℕ) → HasDegree d a → HasDegree e a → d ≡ e
degree_unique d e a h g = elim (cases_lt d e) [
  | inl l ↦ absurd (let w : 2 ^ (d + 1) ≤ 2 ^ e = pow-le-pow_right (lit< tt) (omega arith) in let a1 = h.1 in let a0 = g.0 in omega arith)
  | inr r ↦ elim (cases_lt e d) [
    | inl l ↦ absurd (let w : 2 ^ (e + 1) ≤ 2 ^ d = pow-le-pow_right (lit< tt) (omega arith) in let a1 = g.1 in let a0 = h.0 in omega arith)
    | inr s ↦ omega arith
  ]
]

digit-mul-lt : (c b n : ℕ) → c < 2 → b < n → c * b < n
digit-mul-lt zero b n h l = omega arith
digit-mul-lt (suc zero) b n h l = omega arith
digit-mul-lt (suc (suc c)) b n h l = absurd (omega arith)

-- a product by its factors' bounds
pub product-lt : (i j a b : ℕ) → a < 2 ^ i → b < 2 ^ (j + 1) → product a b < 2 ^ (i + j)
product-lt zero j a b ha hb =
    let z : a ≡ 0 = omega arith in
    subst (λ (x : ℕ). x < 2 ^ (0 + j)) (sym (ap (λ x. product x b) z ∙ product-zero_left b)) (pow_pos (0 + j))
product-lt (suc i) j a b ha hb =
    let h = a / 2 in
    let c = a % 2 in
    let s = pow-suc 2 i in
    let inner = product-lt i j h b (omega arith) hb in
    let index : suc i + j ≡ suc (i + j) = omega arith in
    let q = pow-suc 2 (i + j) in
    let wide : 2 ^ (j + 1) ≤ 2 ^ suc (i + j) = pow-le-pow_right (lit< tt) (omega arith) in
    let small = digit-mul-lt c b (2 ^ (j + 1)) (omega arith) hb in
    let sum = xor_lt (suc (i + j)) (2 * product h b) (c * b) (omega arith) (omega arith) in
    let whole : 2 * h + c ≡ a = omega arith in
    let value : product a b ≡ bit_xor (2 * product h b) (c * b) = ap (λ x. product x b) (sym whole) ∙ product-digit h c b (omega arith) in
    subst (λ (k : ℕ). product a b < 2 ^ k) (sym index) (subst (λ (x : ℕ). x < 2 ^ suc (i + j)) (sym value) sum)
