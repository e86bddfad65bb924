use Rattle.std.proofs.Common.{◌≡◌, ℕ, suc, ◌+◌, ◌*◌, ◌/◌, ◌%◌, ◌^◌, ◌<◌, ◌≤◌, sym, ap, ap₂, ◌∙◌, arith}
use Rattle.std.specs.Prelude.{bit_xor, bit_and}
use Rattle.std.proofs.lemmas.Nat.{and_mask, shr-shr}
use lib.Bits.{xor_zero_r}
use Rattle.code_model.specs.Binary.{reduced, times}
use Rattle.code_model.proofs.BinaryLemmas.{reduced-small, reduced-large, times-digit, times_comm, times-zero}

pub doubled_large : (m f a n : ℕ) → n ≡ a * 2 → 2 ^ m ≤ n → bit_xor n f ≡ reduced m f (2 * a)
doubled_large m f a n e h = let e' : n ≡ 2 * a = omega arith in sym (reduced-large m f n h) ∙ ap (reduced m f) e'

pub doubled_small : (m f a n : ℕ) → n ≡ a * 2 → n < 2 ^ m → n ≡ reduced m f (2 * a)
doubled_small m f a n e h = let e' : n ≡ 2 * a = omega arith in sym (reduced-small m f n h) ∙ ap (reduced m f) e'

pub times-zero_left : (m f b : ℕ) → times m f 0 b ≡ 0
times-zero_left m f b = times_comm m f 0 b ∙ times-zero m f b

-- the next lower digit of a
pub shr_digit : (a k : ℕ) → 2 * (a / 2 ^ suc k) + a / 2 ^ k % 2 ≡ a / 2 ^ k
shr_digit a k =
    let e : a / 2 ^ suc k ≡ a / 2 ^ k / 2 = sym (shr-shr a k 1 ∙ ap (λ x. a / 2 ^ x) (omega arith)) in
    omega arith

pub times_step_one : (m f a b k n s d : ℕ) → 2 ^ m ≤ f → f < 2 * 2 ^ m → b < 2 ^ m → n ≡ suc k → s ≡ times m f (a / 2 ^ n) b → d ≡ reduced m f (2 * s) → bit_and (a / 2 ^ k) 1 ≡ 1 → bit_xor d b ≡ times m f (a / 2 ^ k) b
times_step_one m f a b k n s d lo hi h en es ed bit =
    let low : a / 2 ^ k % 2 ≡ 1 = sym (and_mask (a / 2 ^ k) 1) ∙ bit in
    let one : 1 * b ≡ b = omega arith in
    ap₂ bit_xor (ed ∙ ap (λ x. reduced m f (2 * x)) (es ∙ ap (λ x. times m f (a / 2 ^ x) b) en)) (sym one)
    ∙ sym (times-digit m f (a / 2 ^ suc k) 1 b lo hi (omega arith) h)
    ∙ ap (λ x. times m f x b) (ap (λ x. 2 * (a / 2 ^ suc k) + x) (sym low) ∙ shr_digit a k)

pub times_step_zero : (m f a b k n s d : ℕ) → 2 ^ m ≤ f → f < 2 * 2 ^ m → b < 2 ^ m → n ≡ suc k → s ≡ times m f (a / 2 ^ n) b → d ≡ reduced m f (2 * s) → (bit_and (a / 2 ^ k) 1 ≡ 1 → ⊥) → d ≡ times m f (a / 2 ^ k) b
times_step_zero m f a b k n s d lo hi h en es ed bit =
    let masked : bit_and (a / 2 ^ k) 1 ≡ a / 2 ^ k % 2 = and_mask (a / 2 ^ k) 1 in
    let low : a / 2 ^ k % 2 ≡ 0 = omega arith in
    let none : 0 * b ≡ 0 = omega arith in
    sym (xor_zero_r d) ∙ ap₂ bit_xor (ed ∙ ap (λ x. reduced m f (2 * x)) (es ∙ ap (λ x. times m f (a / 2 ^ x) b) en)) (sym none)
    ∙ sym (times-digit m f (a / 2 ^ suc k) 0 b lo hi (omega arith) h)
    ∙ ap (λ x. times m f x b) (ap (λ x. 2 * (a / 2 ^ suc k) + x) (sym low) ∙ shr_digit a k)
