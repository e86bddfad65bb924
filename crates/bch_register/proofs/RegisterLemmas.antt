-- A register of any width, which holds the remainder of what was taken in, moved up by its width.
use Rattle.std.proofs.Common.{◌≡◌, ℕ, zero, suc, ◌+◌, ◌-◌, ◌*◌, ◌/◌, ◌%◌, ◌^◌, ◌<◌, ◌≤◌, sym, ap, ap₂, ◌∙◌, subst, arith, inl, inr, lit<}
use Rattle.std.specs.Prelude.{bit_xor}
use Rattle.std.proofs.lemmas.Nat.{xor_block, pow-add, pow_pos, xor_comm, mod_low, div_below, le-div, shl_below, shl-shr}
use Rattle.std.proofs.lemmas.Bool.{cases_lt}
use Rattle.std.proofs.Math.Nat.{pow-suc, mul-le-mul_right, pow-le-pow_right}
use lib.Bits.{xor_zero_r}
use Rattle.code_model.specs.Binary.{reduced, remainder, HasDegree}
use Rattle.code_model.proofs.BinaryLemmas.{reduced-small, reduced-large, remainder-digit, remainder-xor, remainder-small, remainder-lt}
use Rattle.code_model.proofs.ShiftLemmas.{xor-shift, remainder-shift}

-- ---- the product by x
pub reduced-remainder : (w f a : ℕ) → reduced w f (2 * remainder w f a) ≡ remainder w f (2 * a)
reduced-remainder w f a =
    let e : (n : ℕ) → 2 * n ≡ 2 * n + 0 = (λ n. omega arith) in
    let z : 0 < 2 = omega arith in
    ap (reduced w f) (e (remainder w f a)) ∙ sym (remainder-digit w f a 0 (pow_pos w) z) ∙ ap (remainder w f) (sym (e a))

double_shift : (a k : ℕ) → 2 * (a * 2 ^ k) ≡ a * 2 ^ suc k
double_shift a k = let e = pow-suc 2 k in let t : 2 * (a * 2 ^ k) ≡ a * (2 ^ k * 2) = omega arith in t ∙ ap (λ x. a * x) (sym e)

-- one more place up
pub remainder-moved : (w f a k : ℕ) → reduced w f (2 * remainder w f (a * 2 ^ k)) ≡ remainder w f (a * 2 ^ (k + 1))
remainder-moved w f a k = let e : suc k ≡ k + 1 = omega arith in reduced-remainder w f (a * 2 ^ k) ∙ ap (remainder w f) (double_shift a k ∙ ap (λ i. a * 2 ^ i) e)

-- a remainder may stand for the number in a product by a power of x
pub remainder-shifted : (w f a k : ℕ) → 2 ^ w ≤ f → f < 2 * 2 ^ w → remainder w f (remainder w f a * 2 ^ k) ≡ remainder w f (a * 2 ^ k)
remainder-shifted w f a zero lo hi =
    let e : (n : ℕ) → n * 2 ^ 0 ≡ n = (λ n. omega arith) in
    ap (remainder w f) (e (remainder w f a)) ∙ remainder-small w f (remainder w f a) (remainder-lt w f a lo hi) ∙ ap (remainder w f) (sym (e a))
remainder-shifted w f a (suc k) lo hi =
    ap (remainder w f) (sym (double_shift (remainder w f a) k)) ∙ sym (reduced-remainder w f (remainder w f a * 2 ^ k))
    ∙ ap (λ x. reduced w f (2 * x)) (remainder-shifted w f a k lo hi)
    ∙ reduced-remainder w f (a * 2 ^ k) ∙ ap (remainder w f) (double_shift a k)

-- ---- numbers side by side
pub xor-apart : (k a b : ℕ) → b < 2 ^ k → bit_xor (a * 2 ^ k) b ≡ a * 2 ^ k + b
xor-apart k a b h =
    let e : a * 2 ^ k + 0 ≡ a * 2 ^ k = omega arith in
    let z : 0 * 2 ^ k + b ≡ b = omega arith in
    ap₂ bit_xor (sym e) (sym z) ∙ xor_block k a 0 0 b (pow_pos k) h ∙ ap (λ x. x * 2 ^ k + b) (xor_zero_r a)

pub xor-apart_left : (k a b : ℕ) → a < 2 ^ k → bit_xor a (b * 2 ^ k) ≡ b * 2 ^ k + a
xor-apart_left k a b h = xor_comm a (b * 2 ^ k) ∙ xor-apart k b a h

-- a byte at the top of a register v + 8 places wide, moved up
byte_above : (v n byte : ℕ) → byte < 2 ^ 8 → bit_xor (n * 2 ^ (v + 8)) (byte * 2 ^ v) * 2 ^ 8 ≡ (n * 256 + byte) * 2 ^ (v + 8)
byte_above v n byte h =
    let p : 2 ^ (v + 8) ≡ 2 ^ v * 2 ^ 8 = pow-add 2 v 8 in
    let up : n * 2 ^ (v + 8) ≡ n * 2 ^ 8 * 2 ^ v = (let t : n * (2 ^ v * 2 ^ 8) ≡ n * 2 ^ 8 * 2 ^ v = omega arith in ap (λ x. n * x) p ∙ t) in
    let t : (n * 2 ^ 8 + byte) * 2 ^ v * 2 ^ 8 ≡ (n * 256 + byte) * (2 ^ v * 2 ^ 8) = omega arith in
    ap (λ x. bit_xor x (byte * 2 ^ v) * 2 ^ 8) up ∙ ap (λ x. x * 2 ^ 8) (xor-shift (n * 2 ^ 8) byte v)
    ∙ ap (λ x. x * 2 ^ v * 2 ^ 8) (xor-apart 8 n byte h) ∙ t ∙ ap (λ x. (n * 256 + byte) * x) (sym p)

-- a byte taken in
pub remainder-byte : (v f n byte : ℕ) → 2 ^ (v + 8) ≤ f → f < 2 * 2 ^ (v + 8) → byte < 2 ^ 8
    → remainder (v + 8) f (bit_xor (remainder (v + 8) f (n * 2 ^ (v + 8))) (byte * 2 ^ v) * 2 ^ 8) ≡ remainder (v + 8) f ((n * 256 + byte) * 2 ^ (v + 8))
remainder-byte v f n byte lo hi h =
    let w = v + 8 in
    let p : 2 ^ (v + 8) ≡ 2 ^ v * 2 ^ 8 = pow-add 2 v 8 in
    let low : byte * 2 ^ v < 2 ^ (v + 8) =
    (let m : byte * 2 ^ v < 2 ^ 8 * 2 ^ v = Rattle.std.proofs.Math.Nat.mul-lt-mul_of_pos_right h (pow_pos v) in let t : 2 ^ 8 * 2 ^ v ≡ 2 ^ v * 2 ^ 8 = omega arith in omega arith) in
    ap (λ x. remainder w f (bit_xor (remainder w f (n * 2 ^ w)) x * 2 ^ 8)) (sym (remainder-small w f (byte * 2 ^ v) low))
    ∙ ap (λ x. remainder w f (x * 2 ^ 8)) (sym (remainder-xor w f (n * 2 ^ w) (byte * 2 ^ v) lo hi))
    ∙ remainder-shifted w f (bit_xor (n * 2 ^ w) (byte * 2 ^ v)) 8 lo hi
    ∙ ap (remainder w f) (byte_above v n byte h)

-- ---- the register's step
pub moved-large : (w r m x : ℕ) → r < 2 ^ suc w → m < 2 ^ suc w → 2 ^ w ≤ r → x ≡ r * 2 ^ 1 % 2 ^ suc w → bit_xor x m ≡ reduced (suc w) (2 ^ suc w + m) (2 * r)
moved-large w r m x hr hm top ex =
    let n = 2 ^ suc w in
    let e : n ≡ 2 ^ w * 2 = pow-suc 2 w in
    let low : 2 * r - n < n = omega arith in
    let q : r * 2 ^ 1 ≡ 1 * n + (2 * r - n) = omega arith in
    let x_is : x ≡ 2 * r - n = ex ∙ ap (λ i. i % n) q ∙ mod_low 1 (suc w) (2 * r - n) low in
    let whole : 2 * r ≡ 1 * n + x = omega arith in
    let one : n + m ≡ 1 * n + m = omega arith in
    let none : 0 * n + bit_xor x m ≡ bit_xor x m = omega arith in
    sym (reduced-large (suc w) (n + m) (2 * r) (omega arith) ∙ ap₂ bit_xor whole one ∙ xor_block (suc w) 1 1 x m (omega arith) hm ∙ none)

pub moved-small : (w r m x : ℕ) → r < 2 ^ w → x ≡ r * 2 ^ 1 % 2 ^ suc w → x ≡ reduced (suc w) (2 ^ suc w + m) (2 * r)
moved-small w r m x low ex =
    let e : 2 ^ suc w ≡ 2 ^ w * 2 = pow-suc 2 w in
    let small : 2 * r < 2 ^ suc w = omega arith in
    let q : r * 2 ^ 1 ≡ 0 * 2 ^ suc w + 2 * r = omega arith in
    let x_is : x ≡ 2 * r = ex ∙ ap (λ i. i % 2 ^ suc w) q ∙ mod_low 0 (suc w) (2 * r) small in
    x_is ∙ sym (reduced-small (suc w) (2 ^ suc w + m) (2 * r) small)

-- the top bit of a number of w + 1 bits
pub top_from_bit : (w r : ℕ) → r / 2 ^ w % 2 ≡ 1 → 2 ^ w ≤ r
top_from_bit w r e = elim (cases_lt r (2 ^ w)) [
  | inl l ↦ absurd (let z : r / 2 ^ w < 1 = div_below r (2 ^ w) 1 (pow_pos w) (omega arith) in omega arith)
  | inr g ↦ g
]

pub below_from_bit : (w r : ℕ) → r < 2 ^ suc w → (r / 2 ^ w % 2 ≡ 1 → ⊥) → r < 2 ^ w
below_from_bit w r h ne = elim (cases_lt r (2 ^ w)) [
  | inl l ↦ l
  | inr g ↦ absurd (ne (
      let e : 2 ^ suc w ≡ 2 ^ w * 2 = pow-suc 2 w in
      let low = le-div 1 r (2 ^ w) (pow_pos w) (omega arith) in
      let high = div_below r (2 ^ w) 2 (pow_pos w) (omega arith) in
      omega arith))
]

-- ---- a modulus moved up to the register's width
pub aligned_value : (d s w g : ℕ) → d + s ≡ w → HasDegree d g → 2 ^ w + g * 2 ^ s % 2 ^ w ≡ g * 2 ^ s
aligned_value d s w g e h =
    let p : 2 ^ w ≡ 2 ^ d * 2 ^ s = ap (λ i. 2 ^ i) (sym e) ∙ pow-add 2 d s in
    let lo : 2 ^ d * 2 ^ s ≤ g * 2 ^ s = mul-le-mul_right (2 ^ s) h.0 in
    let hi : g * 2 ^ s < 2 ^ suc w =
    (let b = shl_below g (d + 1) s h.1 in let i : d + 1 + s ≡ suc w = omega arith in subst (λ (k : ℕ). g * 2 ^ s < 2 ^ k) i b) in
    let twice : 2 ^ suc w ≡ 2 ^ w * 2 = pow-suc 2 w in
    let whole : g * 2 ^ s ≡ 1 * 2 ^ w + (g * 2 ^ s - 2 ^ w) = omega arith in
    let low : g * 2 ^ s % 2 ^ w ≡ g * 2 ^ s - 2 ^ w = ap (λ i. i % 2 ^ w) whole ∙ mod_low 1 w (g * 2 ^ s - 2 ^ w) (omega arith) in
    omega arith

pub below_twice : (d g : ℕ) → g < 2 ^ (d + 1) → g < 2 * 2 ^ d
below_twice d g h =
    let i : d + 1 ≡ suc d = omega arith in
    let e : 2 ^ (d + 1) ≡ 2 ^ d * 2 = ap (λ k. 2 ^ k) i ∙ pow-suc 2 d in
    omega arith

-- the remainder by the generator, out of the register
pub parity_from_register : (d s w g top n r q : ℕ) → d + s ≡ w → HasDegree d g → top ≡ g * 2 ^ s → r ≡ remainder w top (n * 2 ^ w) → q ≡ r / 2 ^ s → q ≡ remainder d g (n * 2 ^ d)
parity_from_register d s w g top n r q e h et er eq =
    let p : 2 ^ w ≡ 2 ^ d * 2 ^ s = ap (λ i. 2 ^ i) (sym e) ∙ pow-add 2 d s in
    let up : n * 2 ^ w ≡ n * 2 ^ d * 2 ^ s = (let t : n * (2 ^ d * 2 ^ s) ≡ n * 2 ^ d * 2 ^ s = omega arith in ap (λ x. n * x) p ∙ t) in
    let moved : r ≡ remainder d g (n * 2 ^ d) * 2 ^ s =
    (er ∙ ap₂ (remainder w) et up ∙ ap (λ i. remainder i (g * 2 ^ s) (n * 2 ^ d * 2 ^ s)) (sym e)
    ∙ remainder-shift d s g (n * 2 ^ d) h.0 (below_twice d g h.1)) in
    eq ∙ ap (λ x. x / 2 ^ s) moved ∙ shl-shr (remainder d g (n * 2 ^ d)) s

-- low coefficients added to a number moved up
pub remainder-joined : (d g n p : ℕ) → HasDegree d g → p < 2 ^ d → bit_xor (remainder d g (n * 2 ^ d)) p ≡ remainder d g (n * 2 ^ d + p)
remainder-joined d g n p h small =
    let hi = below_twice d g h.1 in
    ap (bit_xor (remainder d g (n * 2 ^ d))) (sym (remainder-small d g p small)) ∙ sym (remainder-xor d g (n * 2 ^ d) p h.0 hi)
    ∙ ap (remainder d g) (xor-apart d n p small)

-- a number moved up with room for it
pub shl-room : (d s w n : ℕ) → d + s ≤ w → n < 2 ^ d → n * 2 ^ s % 2 ^ w ≡ n * 2 ^ s
shl-room d s w n room h =
    let low = shl_below n d s h in
    let wide : 2 ^ (d + s) ≤ 2 ^ w = pow-le-pow_right (lit< tt) room in
    let z : n * 2 ^ s ≡ 0 * 2 ^ w + n * 2 ^ s = omega arith in
    ap (λ x. x % 2 ^ w) z ∙ mod_low 0 w (n * 2 ^ s) (omega arith)
