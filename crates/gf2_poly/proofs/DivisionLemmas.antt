-- Degrees by bits, and division coefficient by coefficient.
use Rattle.std.proofs.Common.{◌≡◌, ℕ, suc, ◌+◌, ◌-◌, ◌*◌, ◌/◌, ◌%◌, ◌^◌, ◌<◌, ◌≤◌, sym, ap, ◌∙◌, subst, arith, inl, inr, lit<}
use Rattle.std.specs.Prelude.{bit_xor}
use Rattle.std.proofs.lemmas.Bool.{cases_lt}
use Rattle.std.proofs.lemmas.Nat.{pow_pos, div_below, le-div, shr-shr, shr_below, mod-pow-add, mod_below}
use Rattle.std.proofs.Math.Nat.{pow-le-pow_right}
use Rattle.code_model.specs.Binary.{product, reduced, remainder, HasDegree}
use Rattle.code_model.proofs.BinaryLemmas.{product-digit, remainder-digit, remainder-unique, remainder-lt, quotient}
use Rattle.gf2_poly.specs.Division.{IsRemainder}
use Rattle.gf2_poly.proofs.DegreeLemmas.{plus_power, below_twice, degree_unique, product-lt}

pub top_from_bit : (w n : ℕ) → n / 2 ^ w % 2 ≡ 1 → 2 ^ w ≤ n
top_from_bit w n e = elim (cases_lt n (2 ^ w)) [
  | inl l ↦ absurd (let z : n / 2 ^ w < 1 = div_below n (2 ^ w) 1 (pow_pos w) (omega arith) in omega arith)
  | inr g ↦ g
]

pub below_from_bit : (w n : ℕ) → n < 2 * 2 ^ w → (n / 2 ^ w % 2 ≡ 1 → ⊥) → n < 2 ^ w
below_from_bit w n h ne = elim (cases_lt n (2 ^ w)) [
  | inl l ↦ l
  | inr g ↦ absurd (ne (
      let low = le-div 1 n (2 ^ w) (pow_pos w) (omega arith) in
      let high = div_below n (2 ^ w) 2 (pow_pos w) h in
      omega arith))
]

-- the low n + 1 bits, by bit n
pub low_bits_more : (a n : ℕ) → a % 2 ^ (n + 1) ≡ (a / 2 ^ n % 2) * 2 ^ n + a % 2 ^ n
low_bits_more a n = let e : n + 1 ≡ 1 + n = omega arith in ap (λ k. a % 2 ^ k) e ∙ mod-pow-add a 1 n

pub degree_with_bit : (a n : ℕ) → a / 2 ^ n % 2 ≡ 1 → HasDegree n (a % 2 ^ (n + 1))
degree_with_bit a n e =
    let s : a % 2 ^ (n + 1) ≡ 1 * 2 ^ n + a % 2 ^ n = low_bits_more a n ∙ ap (λ c. c * 2 ^ n + a % 2 ^ n) e in
    let l = mod_below a (2 ^ n) (pow_pos n) in
    let p = plus_power n in
    (omega arith, omega arith)

pub same_without_bit : (a n : ℕ) → (a / 2 ^ n % 2 ≡ 1 → ⊥) → a % 2 ^ (n + 1) ≡ a % 2 ^ n
same_without_bit a n ne =
    let z : a / 2 ^ n % 2 ≡ 0 = omega arith in
    let t : 0 * 2 ^ n + a % 2 ^ n ≡ a % 2 ^ n = omega arith in
    low_bits_more a n ∙ ap (λ c. c * 2 ^ n + a % 2 ^ n) z ∙ t

-- ---- the next lower coefficient
pub next_digit : (a k : ℕ) → a / 2 ^ k ≡ 2 * (a / 2 ^ suc k) + a / 2 ^ k % 2
next_digit a k =
    let i : k + 1 ≡ suc k = omega arith in
    let e : a / 2 ^ suc k ≡ a / 2 ^ k / 2 = sym (shr-shr a k 1 ∙ ap (λ x. a / 2 ^ x) i) in
    omega arith

pub all_shifted : (a w : ℕ) → a < 2 ^ w → a / 2 ^ w ≡ 0
all_shifted a w h = let l = div_below a (2 ^ w) 1 (pow_pos w) (omega arith) in omega arith

-- a partial product has room to be moved up
pub product-room : (a b left right k n : ℕ) → a < 2 ^ (left + 1) → b < 2 ^ (right + 1) → left + right ≤ n → product (a / 2 ^ suc k) b < 2 ^ n
product-room a b left right k n ha hb within =
    let wide : 2 ^ (left + 1) ≤ 2 ^ ((left - k) + suc k) = pow-le-pow_right (lit< tt) (omega arith) in
    let low = shr_below a (left - k) (suc k) (omega arith) in
    let bound = product-lt (left - k) right (a / 2 ^ suc k) b low hb in
    let room : 2 ^ ((left - k) + right) ≤ 2 ^ n = pow-le-pow_right (lit< tt) (omega arith) in
    omega arith

pub product-more : (a b k : ℕ) → product (a / 2 ^ k) b ≡ bit_xor (2 * product (a / 2 ^ suc k) b) ((a / 2 ^ k % 2) * b)
product-more a b k = ap (λ x. product x b) (next_digit a k) ∙ product-digit (a / 2 ^ suc k) (a / 2 ^ k % 2) b (omega arith)

pub remainder-more : (d f a k : ℕ) → remainder d f (a / 2 ^ k) ≡ reduced d f (2 * remainder d f (a / 2 ^ suc k) + a / 2 ^ k % 2)
remainder-more d f a k = ap (remainder d f) (next_digit a k) ∙ remainder-digit d f (a / 2 ^ suc k) (a / 2 ^ k % 2) (pow_pos d) (omega arith)

-- ---- the remainder, and no other
pub remainder_is : (d a b : ℕ) → HasDegree d b → IsRemainder a b (remainder d b a)
remainder_is d a b h = record {
  lower = λ e g. subst (λ (k : ℕ). remainder d b a < 2 ^ k) (degree_unique d e b h g) (remainder-lt d b a h.0 (below_twice d b h.1));
  multiple = quotient d b a h.0 (below_twice d b h.1);
}

pub remainder_only : (d a b r : ℕ) → HasDegree d b → IsRemainder a b r → r ≡ remainder d b a
remainder_only d a b r h s =
    sym (ap (remainder d b) s.multiple.1 ∙ remainder-unique d b s.multiple.0 r h.0 (below_twice d b h.1) (s.lower d h))
