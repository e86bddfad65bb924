use Rattle.std.proofs.Common.{◌≡◌, ◌≢◌, ℕ, zero, suc, ◌+◌, ◌-◌, ◌*◌, ◌^◌, ◌<◌, ◌≤◌, refl, sym, ap, ap₂, ◌∙◌, arith, true, false, Bool, cond, inl, inr}
use Rattle.std.specs.Prelude.{bit_xor, nat_eq}
use lib.Bits.{xor_zero_r}
use Rattle.std.proofs.lemmas.Bool.Decides.{nat_tests}
use Rattle.code_model.specs.Binary.{reduced, times, power, none_is_one, shifted, IsPrimitive}
use Rattle.code_model.proofs.BinaryLemmas.{times-lt, times_comm, times_assoc, times-one, times-zero, times-digit}
use Rattle.std.proofs.lemmas.Bool.{cases_eq}
use Rattle.std.proofs.Math.Nat.{mul_comm}
use Rattle.code_model.proofs.Pigeonhole.{onto_from_one_to_one}

-- the product by x
pub times-x : (m f a : ℕ) → 2 ^ m ≤ f → f < 2 * 2 ^ m → a < 2 ^ m → times m f a 2 ≡ reduced m f (2 * a)
times-x m f a lo hi h =
    let none : 0 * a ≡ 0 = omega arith in
    times_comm m f a 2 ∙ times-digit m f 1 0 a lo hi (omega arith) h
    ∙ ap₂ bit_xor (ap (λ x. reduced m f (2 * x)) (times_comm m f 1 a ∙ times-one m f a h)) none ∙ xor_zero_r _

one_not_zero : suc zero ≢ zero
one_not_zero e = omega arith

module _ (m f : ℕ) (p : IsPrimitive m f) where
  pub power-lt : (a n : ℕ) → power m f a n < 2 ^ m
  unfolding power
  power-lt a zero = omega (arith, p.wide)
  power-lt a (suc n) = times-lt m f _ _ p.low p.high

  pub power-add : (a i j : ℕ) → power m f a (i + j) ≡ times m f (power m f a i) (power m f a j)
  unfolding power
  power-add a i zero = let e : i + 0 ≡ i = omega arith in ap (power m f a) e ∙ sym (times-one m f _ (power-lt a i))
  power-add a i (suc j) =
      let e : i + suc j ≡ suc (i + j) = omega arith in
      ap (power m f a) e ∙ ap (λ x. times m f x a) (power-add a i j) ∙ times_assoc m f _ _ a p.low p.high

  pub power-mul : (a i j : ℕ) → power m f a (i * j) ≡ power m f (power m f a i) j
  unfolding power
  power-mul a i zero = let e : i * 0 ≡ 0 = omega arith in ap (power m f a) e
  power-mul a i (suc j) =
      let e : i * suc j ≡ i * j + i = omega arith in
      ap (power m f a) e ∙ power-add a (i * j) i ∙ ap (λ x. times m f x (power m f a i)) (power-mul a i j)

  pub power_not-zero : (i : ℕ) → i < 2 ^ m - 1 → power m f 2 i ≢ 0
  power_not-zero i h e =
      let n = 2 ^ m - 1 in
      let sum : i + (n - i) ≡ n = omega arith in
      one_not_zero
      (sym p.returns ∙ ap (power m f 2) (sym sum) ∙ power-add 2 i (n - i) ∙ ap (λ x. times m f x (power m f 2 (n - i))) e
      ∙ times_comm m f 0 _ ∙ times-zero m f _)

  pub powers_differ : (i j : ℕ) → i < j → j < 2 ^ m - 1 → power m f 2 i ≢ power m f 2 j
  powers_differ i j h k e =
      let n = 2 ^ m - 1 in
      let rest = power m f 2 (n - i) in
      let sum : i + (n - i) ≡ n = omega arith in
      let sum' : j + (n - i) ≡ n + (j - i) = omega arith in
      p.not_before (j - i) (omega arith) (omega arith)
      (sym (times-one m f _ (power-lt 2 (j - i))) ∙ times_comm m f _ 1 ∙ ap (λ x. times m f x (power m f 2 (j - i))) (sym p.returns)
      ∙ sym (power-add 2 n (j - i)) ∙ ap (power m f 2) (sym sum') ∙ power-add 2 j (n - i)
      ∙ ap (λ x. times m f x rest) (sym e) ∙ sym (power-add 2 i (n - i)) ∙ ap (power m f 2) sum ∙ p.returns)

  -- every element but 0 is a power of x
  pub logarithm : (a : ℕ) → 0 < a → a < 2 ^ m → (i : ℕ) × (i < 2 ^ m - 1) × (power m f 2 i ≡ a)
  logarithm a pos_a h =
      let r = onto_from_one_to_one (2 ^ m - 1) (λ i. power m f 2 i - 1)
      (λ i l. let z = power_not-zero i l in let b = power-lt 2 i in omega arith)
      (λ i j l k e. let z = power_not-zero i (omega arith) in let z' = power_not-zero j k in powers_differ i j l k (omega arith))
      (a - 1) (omega arith) in
      let z = power_not-zero r.0 r.1 in
      let e = r.2 in
      (r.0, r.1, omega arith)

  pub inverse : (a : ℕ) → 0 < a → a < 2 ^ m → (b : ℕ) × (b < 2 ^ m) × (times m f a b ≡ 1)
  inverse a pos_a h =
      let l = logarithm a pos_a h in
      let n = 2 ^ m - 1 in
      let l_lt = l.1 in
      let sum : l.0 + (n - l.0) ≡ n = omega arith in (
        power m f 2 (n - l.0),
        power-lt 2 _,
        ap (λ x. times m f x (power m f 2 (n - l.0))) (sym l.2) ∙ sym (power-add 2 l.0 (n - l.0)) ∙ ap (power m f 2) sum ∙ p.returns,
      )

  pub power-one : (n : ℕ) → power m f 1 n ≡ 1
  unfolding power
  power-one zero = refl
  power-one (suc n) = ap (λ x. times m f x 1) (power-one n) ∙ times-one m f 1 (omega (arith, p.wide))

  -- every element but 0 comes back to 1
  pub power-order : (a : ℕ) → 0 < a → a < 2 ^ m → power m f a (2 ^ m - 1) ≡ 1
  power-order a pos_a h =
      let l = logarithm a pos_a h in
      let n = 2 ^ m - 1 in
      let turned : l.0 * n ≡ n * l.0 = mul_comm l.0 n in
      ap (λ x. power m f x n) (sym l.2) ∙ sym (power-mul 2 l.0 n) ∙ ap (power m f 2) turned ∙ power-mul 2 n l.0
      ∙ ap (λ x. power m f x l.0) p.returns ∙ power-one l.0

  -- the field has no divisors of 0
  pub times_zero-cancel : (a b : ℕ) → a < 2 ^ m → b < 2 ^ m → a ≢ 0 → times m f a b ≡ 0 → b ≡ 0
  times_zero-cancel a b h k ne e =
      let i = inverse a (omega arith) h in
      sym (times-one m f b k) ∙ times_comm m f b 1 ∙ ap (λ x. times m f x b) (sym i.2 ∙ times_comm m f a i.0)
      ∙ times_assoc m f i.0 a b p.low p.high ∙ ap (times m f i.0) e ∙ times-zero m f i.0

-- ---- what the checker computes
shifted-power : (m f n k : ℕ) → 2 ^ m ≤ f → f < 2 * 2 ^ m → 2 < 2 ^ m → shifted m f n (power m f 2 k) ≡ power m f 2 (k + n)
unfolding shifted power
shifted-power m f zero k lo hi w = let e : k ≡ k + 0 = omega arith in ap (power m f 2) e
shifted-power m f (suc n) k lo hi w =
    let e : suc k + n ≡ k + suc n = omega arith in
    ap (shifted m f n) (sym (times-x m f _ lo hi (lt k))) ∙ shifted-power m f n (suc k) lo hi w ∙ ap (power m f 2) e
  where
    lt : (k : ℕ) → power m f 2 k < 2 ^ m
    lt zero = omega arith
    lt (suc k) = times-lt m f _ _ lo hi

cond_parts : (s r : Bool) → cond s false r ≡ true → (s ≡ false) × (r ≡ true)
cond_parts true r t = cc
cond_parts false r t = (refl, t)

none_is_one-power : (m f n k : ℕ) → 2 ^ m ≤ f → f < 2 * 2 ^ m → 2 < 2 ^ m → none_is_one m f n (power m f 2 k) ≡ true → (i : ℕ) → k ≤ i → i < k + n → power m f 2 i ≢ 1
unfolding none_is_one power
none_is_one-power m f zero k lo hi w t i a b = absurd (omega arith)
none_is_one-power m f (suc n) k lo hi w t i a b =
    let c = cond_parts (nat_eq (power m f 2 k) 1) (none_is_one m f n (reduced m f (2 * power m f 2 k))) t in
    elim (cases_eq k i) [
      | inl e ↦ (λ e'. let e'' : power m f 2 k ≡ 1 = ap (power m f 2) e ∙ e' in let q = c.0 in grind (arith, nat_tests))
      | inr ne ↦ none_is_one-power m f n (suc k) lo hi w (ap (none_is_one m f n) (times-x m f _ lo hi (lt k)) ∙ c.1) i (omega arith) (omega arith)
    ]
  where
    lt : (k : ℕ) → power m f 2 k < 2 ^ m
    lt zero = omega arith
    lt (suc k) = times-lt m f _ _ lo hi

-- one run of the powers shows that f is primitive
pub primitive_from_tests : (m f : ℕ) → 2 ^ m ≤ f → f < 2 * 2 ^ m → 2 < 2 ^ m → shifted m f (2 ^ m - 1) 1 ≡ 1 → none_is_one m f (2 ^ m - 2) 2 ≡ true → IsPrimitive m f
unfolding power
primitive_from_tests m f lo hi w back never = record {
  low = lo;
  high = hi;
  wide = w;
  returns = back_to_one;
  not_before = λ k a b. none_is_one-power m f (2 ^ m - 2) 1 lo hi w (ap (none_is_one m f (2 ^ m - 2)) first ∙ never) k (omega arith) (omega arith);
}
  where
    first : power m f 2 1 ≡ 2
    first = times_comm m f 1 2 ∙ times-one m f 2 w

    back_to_one : power m f 2 (2 ^ m - 1) ≡ 1
    back_to_one =
        let e : 0 + (2 ^ m - 1) ≡ 2 ^ m - 1 = omega arith in
        sym (ap (power m f 2) e) ∙ sym (shifted-power m f (2 ^ m - 1) 0 lo hi w) ∙ back
