-- Powers of x by squaring and one after another.
use Rattle.std.proofs.Common.{◌≡◌, ◌≢◌, ℕ, suc, ◌+◌, ◌-◌, ◌*◌, ◌/◌, ◌%◌, ◌^◌, ◌<◌, sym, ap, ap₂, ◌∙◌, arith, inl, inr}
use Rattle.std.specs.Prelude.{bit_and}
use Rattle.std.proofs.lemmas.Nat.{and_mask}
use Rattle.std.proofs.lemmas.Bool.{cases_eq, cases_lt}
use Rattle.code_model.specs.Binary.{times, power, reduced, IsPrimitive}
use Rattle.code_model.proofs.CodeLemmas.{shr_digit}
use Rattle.code_model.proofs.FieldLemmas.{times-x, power-add, power-lt, powers_differ, logarithm}

module _ (m f : ℕ) (p : IsPrimitive m f) where
  pub power-double : (a n : ℕ) → power m f a (2 * n) ≡ times m f (power m f a n) (power m f a n)
  power-double a n = let e : 2 * n ≡ n + n = omega arith in ap (power m f a) e ∙ power-add m f p a n n

  -- the next power of x
  pub power_x-suc : (n : ℕ) → power m f 2 (n + 1) ≡ reduced m f (2 * power m f 2 n)
  unfolding power
  power_x-suc n = let e : n + 1 ≡ suc n = omega arith in ap (power m f 2) e ∙ times-x m f (power m f 2 n) p.low p.high (power-lt m f p 2 n)

  pub square_step_zero : (n k j s q : ℕ) → j ≡ suc k → s ≡ power m f 2 (n / 2 ^ j) → q ≡ times m f s s → (bit_and (n / 2 ^ k) 1 ≡ 1 → ⊥) → q ≡ power m f 2 (n / 2 ^ k)
  square_step_zero n k j s q ej es eq bit =
      let masked : bit_and (n / 2 ^ k) 1 ≡ n / 2 ^ k % 2 = and_mask (n / 2 ^ k) 1 in
      let d = shr_digit n k in
      let e : 2 * (n / 2 ^ suc k) ≡ n / 2 ^ k = omega arith in
      let es' : s ≡ power m f 2 (n / 2 ^ suc k) = es ∙ ap (λ i. power m f 2 (n / 2 ^ i)) ej in
      eq ∙ ap₂ (times m f) es' es' ∙ sym (power-double 2 (n / 2 ^ suc k)) ∙ ap (power m f 2) e

  pub square_step_one : (n k j s q : ℕ) → j ≡ suc k → s ≡ power m f 2 (n / 2 ^ j) → q ≡ times m f s s → bit_and (n / 2 ^ k) 1 ≡ 1 → reduced m f (2 * q) ≡ power m f 2 (n / 2 ^ k)
  square_step_one n k j s q ej es eq bit =
      let masked : n / 2 ^ k % 2 ≡ 1 = sym (and_mask (n / 2 ^ k) 1) ∙ bit in
      let d = shr_digit n k in
      let e : 2 * (n / 2 ^ suc k) + 1 ≡ n / 2 ^ k = omega arith in
      let es' : s ≡ power m f 2 (n / 2 ^ suc k) = es ∙ ap (λ i. power m f 2 (n / 2 ^ i)) ej in
      ap (λ x. reduced m f (2 * x)) (eq ∙ ap₂ (times m f) es' es' ∙ sym (power-double 2 (n / 2 ^ suc k)))
      ∙ sym (power_x-suc (2 * (n / 2 ^ suc k))) ∙ ap (power m f 2) e

  -- an element other than 0 is one of the powers below 2^m - 1
  pub not_none : (a : ℕ) → 0 < a → a < 2 ^ m → ((k : ℕ) → k < 2 ^ m - 1 → power m f 2 k ≢ a) → ⊥
  not_none a not_zero small none = let l = logarithm m f p a not_zero small in none l.0 l.1 l.2

  -- powers below 2^m - 1 are equal only where their exponents are
  pub same_exponent : (i j : ℕ) → i < 2 ^ m - 1 → j < 2 ^ m - 1 → power m f 2 i ≡ power m f 2 j → i ≡ j
  same_exponent i j h k e = elim (cases_eq i j) [
    | inl same ↦ same
    | inr ne ↦ elim (cases_lt i j) [ inl below ↦ absurd (powers_differ m f p i j below k e) | inr above ↦ absurd (powers_differ m f p j i (omega arith) h (sym e)) ]
  ]
