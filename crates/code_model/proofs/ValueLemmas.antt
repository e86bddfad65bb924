use Rattle.std.proofs.Common.{◌≡◌, ◌≢◌, ℕ, zero, suc, ◌+◌, ◌-◌, ◌*◌, ◌/◌, ◌%◌, ◌^◌, ◌<◌, ◌≤◌, List, [], ◌∷◌, length, refl, sym, ap, ap₂, ◌∙◌, subst, arith, true, false, cond, inl, inr}
use Rattle.std.specs.Prelude.{bit_xor, nat_eq}
use Rattle.std.proofs.lemmas.Nat.{xor_lt}
use Rattle.std.proofs.lemmas.Bool.{cases_eq}
use lib.Bits.{xor_assoc, xor_zero_r}
use Rattle.code_model.specs.Binary.{product, times, power, value_at, IsPrimitive}
use Rattle.code_model.specs.Generator.{generator_of, minimal_of}
use Rattle.code_model.specs.Poly.{Every, AllDiffer, moment, term}
use Rattle.code_model.specs.Word.{number_from, AreBits, IsMultiple, differences, distance}
use Rattle.code_model.proofs.BitsLemmas.{by_bits, bits_fold-zero, bits_fold-digit, xor_digit, xor_swap}
use Rattle.code_model.proofs.BinaryLemmas.{times-lt, times_comm, times_assoc, times-xor_right, times-one, times-zero, product-zero_left, product-digit}
use Rattle.code_model.proofs.FieldLemmas.{power-lt, power-mul, power_not-zero, powers_differ}
use Rattle.code_model.proofs.DistanceLemmas.{same_from_none}
use Rattle.code_model.proofs.KeyEquation.{errors, ArePlaces, none_from_moments}
use Rattle.code_model.proofs.Instances.{domain_from_primitive}
use Rattle.std.proofs.Math.Nat.{mul_comm}

pub times-zero_left : (m f b : ℕ) → times m f 0 b ≡ 0
times-zero_left m f b = times_comm m f 0 b ∙ times-zero m f b

pub value_at-zero : (m f x : ℕ) → value_at m f x 0 ≡ 0
unfolding value_at
value_at-zero m f x = bits_fold-zero _

pub value_at-digit : (m f x a c : ℕ) → c < 2 → value_at m f x (2 * a + c) ≡ bit_xor (times m f (value_at m f x a) x) c
unfolding value_at
value_at-digit m f x a c h = bits_fold-digit (λ v c. bit_xor (times m f v x) c) (ap (λ v. bit_xor v 0) (times-zero_left m f x)) a c h

module _ (m f : ℕ) (p : IsPrimitive m f) where
  pub times-xor_left : (a b c : ℕ) → times m f (bit_xor a b) c ≡ bit_xor (times m f a c) (times m f b c)
  times-xor_left a b c =
      times_comm m f (bit_xor a b) c ∙ times-xor_right m f c a b p.low p.high ∙ ap₂ bit_xor (times_comm m f c a) (times_comm m f c b)

  pub value_at-lt : (x a : ℕ) → value_at m f x a < 2 ^ m
  value_at-lt x a =
      by_bits (λ n. value_at m f x n < 2 ^ m) (subst (λ (v : ℕ). v < 2 ^ m) (sym (value_at-zero m f x)) (omega (arith, p.wide)))
      (λ a c h ih. subst (λ (v : ℕ). v < 2 ^ m) (sym (value_at-digit m f x a c h)) (xor_lt m (times m f (value_at m f x a) x) c (times-lt m f _ _ p.low p.high) (omega (arith, p.wide))))
      a

  pub value_at-xor : (x a b : ℕ) → value_at m f x (bit_xor a b) ≡ bit_xor (value_at m f x a) (value_at m f x b)
  value_at-xor x a b =
      by_bits (λ n. (b : ℕ) → value_at m f x (bit_xor n b) ≡ bit_xor (value_at m f x n) (value_at m f x b))
      (λ b. ap (λ v. bit_xor v (value_at m f x b)) (sym (value_at-zero m f x)))
      (λ a c h ih b.
      let e = b / 2 in
      let k = b % 2 in
      let k_lt : k < 2 = omega arith in
      let whole : 2 * e + k ≡ b = omega arith in
      let both : bit_xor c k < 2 = xor_lt 1 c k h k_lt in
      let va = value_at m f x a in
      let ve = value_at m f x e in
      ap (λ n. value_at m f x (bit_xor (2 * a + c) n)) (sym whole)
      ∙ ap (value_at m f x) (xor_digit a c e k h k_lt)
      ∙ value_at-digit m f x (bit_xor a e) (bit_xor c k) both
      ∙ ap (λ v. bit_xor (times m f v x) (bit_xor c k)) (ih e)
      ∙ ap (λ v. bit_xor v (bit_xor c k)) (times-xor_left va ve x)
      ∙ xor_swap (times m f va x) (times m f ve x) c k
      ∙ ap₂ bit_xor (sym (value_at-digit m f x a c h)) (sym (value_at-digit m f x e k k_lt))
      ∙ ap (λ n. bit_xor (value_at m f x (2 * a + c)) (value_at m f x n)) whole)
      a b

  double : (x a : ℕ) → value_at m f x (2 * a) ≡ times m f (value_at m f x a) x
  double x a = let e : 2 * a ≡ 2 * a + 0 = omega arith in ap (value_at m f x) e ∙ value_at-digit m f x a 0 (omega arith) ∙ xor_zero_r (times m f (value_at m f x a) x)

  digit_value : (x c b : ℕ) → c < 2 → value_at m f x (c * b) ≡ times m f c (value_at m f x b)
  digit_value x zero b h = let e : 0 * b ≡ 0 = omega arith in ap (value_at m f x) e ∙ value_at-zero m f x ∙ sym (times-zero_left m f (value_at m f x b))
  digit_value x (suc zero) b h =
      let e : 1 * b ≡ b = omega arith in
      ap (value_at m f x) e ∙ sym (times_comm m f 1 (value_at m f x b) ∙ times-one m f (value_at m f x b) (value_at-lt x b))
  digit_value x (suc (suc c)) b h = absurd (omega arith)

  -- the value of a product is the product of the values
  pub value_at-product : (x a b : ℕ) → value_at m f x (product a b) ≡ times m f (value_at m f x a) (value_at m f x b)
  value_at-product x a b =
      let vb = value_at m f x b in
      by_bits (λ n. value_at m f x (product n b) ≡ times m f (value_at m f x n) vb)
      (ap (value_at m f x) (product-zero_left b) ∙ value_at-zero m f x ∙ sym (ap (λ v. times m f v vb) (value_at-zero m f x) ∙ times-zero_left m f vb))
      (λ a c h ih.
      let va = value_at m f x a in
      ap (value_at m f x) (product-digit a c b h) ∙ value_at-xor x (2 * product a b) (c * b)
      ∙ ap₂ bit_xor
      (double x (product a b) ∙ ap (λ v. times m f v x) ih ∙ times_assoc m f va vb x p.low p.high ∙ ap (times m f va) (times_comm m f vb x)
      ∙ sym (times_assoc m f va x vb p.low p.high))
      (digit_value x c b h)
      ∙ sym (times-xor_left (times m f va x) c vb) ∙ ap (λ v. times m f v vb) (sym (value_at-digit m f x a c h)))
      a

  -- ---- the generator's roots
  pub generator-root : (x t i : ℕ) → i < t → value_at m f x (minimal_of m f (2 * i + 1)) ≡ 0 → value_at m f x (generator_of m f t) ≡ 0
  unfolding generator_of
  generator-root x zero i h z = absurd (omega arith)
  generator-root x (suc t) i h z = elim (cases_eq i t) [
    | inl e ↦
        value_at-product x (generator_of m f t) (minimal_of m f (2 * t + 1))
        ∙ ap (times m f (value_at m f x (generator_of m f t))) (ap (λ k. value_at m f x (minimal_of m f (2 * k + 1))) (sym e) ∙ z) ∙ times-zero m f _
    | inr ne ↦
        value_at-product x (generator_of m f t) (minimal_of m f (2 * t + 1))
        ∙ ap (λ v. times m f v (value_at m f x (minimal_of m f (2 * t + 1)))) (generator-root x t i (omega arith) z) ∙ times-zero_left m f _
  ]

  pub value-code_word : (x t : ℕ) (bs : List ℕ) → value_at m f x (generator_of m f t) ≡ 0 → IsMultiple m f t bs → value_at m f x (number_from 0 bs) ≡ 0
  value-code_word x t bs z w =
      ap (value_at m f x) w.1 ∙ value_at-product x w.0 (generator_of m f t) ∙ ap (times m f (value_at m f x w.0)) z ∙ times-zero m f _

  -- ---- two words
  pub power_sum : ℕ → List ℕ → ℕ
  power_sum x [] = 0
  power_sum x (k ∷ ks) = bit_xor (power m f x k) (power_sum x ks)

  value-differences : (x a b : ℕ) (xs ys : List ℕ) → AreBits xs → AreBits ys → length xs ≡ length ys
      → bit_xor (value_at m f x (number_from a xs)) (value_at m f x (number_from b ys)) ≡ bit_xor (times m f (bit_xor (value_at m f x a) (value_at m f x b)) (power m f x (length xs))) (power_sum x (differences xs ys))
  unfolding number_from differences power_sum power
  value-differences x a b [] [] s r e =
      sym (ap (λ v. bit_xor v 0) (times-one m f _ (xor_lt m _ _ (value_at-lt x a) (value_at-lt x b))) ∙ xor_zero_r _)
  value-differences x a b [] (y ∷ ys) s r e = cc
  value-differences x a b (c ∷ xs) [] s r e = cc
  value-differences x a b (c ∷ xs) (k ∷ ys) s r e =
      let va = value_at m f x a in
      let vb = value_at m f x b in
      let n = power m f x (length xs) in
      let rest = power_sum x (differences xs ys) in
      value-differences x (2 * a + c) (2 * b + k) xs ys s.1 r.1 (omega arith)
      ∙ ap (λ v. bit_xor (times m f v n) rest)
      (ap₂ bit_xor (value_at-digit m f x a c s.0) (value_at-digit m f x b k r.0) ∙ xor_swap (times m f va x) c (times m f vb x) k
      ∙ ap (λ v. bit_xor v (bit_xor c k)) (sym (times-xor_left va vb x)))
      ∙ ap (λ v. bit_xor v rest) (times-xor_left (times m f (bit_xor va vb) x) (bit_xor c k) n)
      ∙ xor_assoc (times m f (times m f (bit_xor va vb) x) n) (times m f (bit_xor c k) n) rest
      ∙ ap₂ bit_xor (times_assoc m f (bit_xor va vb) x n p.low p.high ∙ ap (times m f (bit_xor va vb)) (times_comm m f x n)) (one_more c k s.0 r.0)
    where
      one : times m f 1 (power m f x (length xs)) ≡ power m f x (length xs)
      one = times_comm m f 1 _ ∙ times-one m f _ (power-lt m f p x (length xs))

      one_more : (c k : ℕ) → c < 2 → k < 2 → bit_xor (times m f (bit_xor c k) (power m f x (length xs))) (power_sum x (differences xs ys))
          ≡ power_sum x (cond (nat_eq c k) (differences xs ys) (length xs ∷ differences xs ys))
      one_more zero zero h g = ap (λ v. bit_xor v (power_sum x (differences xs ys))) (times-zero_left m f _)
      one_more zero (suc zero) h g = ap (λ v. bit_xor v (power_sum x (differences xs ys))) one
      one_more (suc zero) zero h g = ap (λ v. bit_xor v (power_sum x (differences xs ys))) one
      one_more (suc zero) (suc zero) h g = ap (λ v. bit_xor v (power_sum x (differences xs ys))) (times-zero_left m f _)
      one_more zero (suc (suc k)) h g = absurd (omega arith)
      one_more (suc zero) (suc (suc k)) h g = absurd (omega arith)
      one_more (suc (suc c)) k h g = absurd (omega arith)

  -- the values of two words differ by the sum of the powers at which they differ
  pub words_differ : (x : ℕ) (xs ys : List ℕ) → AreBits xs → AreBits ys → length xs ≡ length ys
      → bit_xor (value_at m f x (number_from 0 xs)) (value_at m f x (number_from 0 ys)) ≡ power_sum x (differences xs ys)
  words_differ x xs ys s r e =
      value-differences x 0 0 xs ys s r e
      ∙ ap (λ v. bit_xor (times m f (bit_xor v v) (power m f x (length xs))) (power_sum x (differences xs ys))) (value_at-zero m f x)
      ∙ ap (λ v. bit_xor v (power_sum x (differences xs ys))) (times-zero_left m f (power m f x (length xs)))

  -- ---- the places of the differences
  unfoldable pub places : List ℕ → List ℕ
  places [] = []
  places (k ∷ ks) = power m f 2 k ∷ places ks

  term_power : (x j : ℕ) → x < 2 ^ m → term (times m f) 1 x j ≡ power m f x j
  unfolding term power
  term_power x zero h = refl
  term_power x (suc j) h = ap (times m f x) (term_power x j h) ∙ times_comm m f x _

  power_swap : (j k : ℕ) → power m f (power m f 2 j) k ≡ power m f (power m f 2 k) j
  power_swap j k = sym (power-mul m f p 2 j k) ∙ ap (power m f 2) (mul_comm j k) ∙ power-mul m f p 2 k j

  pub power_sum-moment : (j : ℕ) (ks : List ℕ) → power_sum (power m f 2 j) ks ≡ moment (times m f) (errors (places ks)) j
  unfolding power_sum places errors moment
  power_sum-moment j [] = refl
  power_sum-moment j (k ∷ ks) =
      ap₂ bit_xor (power_swap j k ∙ sym (term_power (power m f 2 k) j (power-lt m f p 2 k))) (power_sum-moment j ks)

  differences-lt : (n : ℕ) (xs ys : List ℕ) → length xs ≤ n → Every (λ k. k < n) (differences xs ys)
  unfolding differences
  differences-lt n [] ys h = tt
  differences-lt n (x ∷ xs) [] h = tt
  differences-lt n (x ∷ xs) (y ∷ ys) h =
      elim (nat_eq x y) as (λ b. Every (λ k. k < n) (cond b (differences xs ys) (length xs ∷ differences xs ys))) [
        | true ↦ differences-lt n xs ys (omega arith)
        | false ↦ (omega arith, differences-lt n xs ys (omega arith))
      ]

  away : (k : ℕ) (ks : List ℕ) → k < 2 ^ m - 1 → Every (λ l. l < k) ks → Every (λ y. y ≢ power m f 2 k) (places ks)
  unfolding places
  away k [] h s = tt
  away k (l ∷ ks) h s = (powers_differ m f p l k s.0 h, away k ks h s.1)

  places-differ : (n : ℕ) (xs ys : List ℕ) → length xs ≤ n → n ≤ 2 ^ m - 1 → AllDiffer (places (differences xs ys))
  unfolding differences places
  places-differ n [] ys h g = tt
  places-differ n (x ∷ xs) [] h g = tt
  places-differ n (x ∷ xs) (y ∷ ys) h g =
      elim (nat_eq x y) as (λ b. AllDiffer (places (cond b (differences xs ys) (length xs ∷ differences xs ys)))) [
        | true ↦ places-differ n xs ys (omega arith) g
        | false ↦ (away (length xs) (differences xs ys) (omega arith) (differences-lt (length xs) xs ys (omega arith)), places-differ n xs ys (omega arith) g)
      ]

  places-small : (ks : List ℕ) → Every (λ y. y < 2 ^ m) (places ks)
  unfolding places
  places-small [] = tt
  places-small (k ∷ ks) = (power-lt m f p 2 k, places-small ks)

  places-not_zero : (ks : List ℕ) → Every (λ k. k < 2 ^ m - 1) ks → Every (λ y. y ≢ 0) (places ks)
  unfolding places
  places-not_zero [] s = tt
  places-not_zero (k ∷ ks) s = (power_not-zero m f p k s.0, places-not_zero ks s.1)

  pub are_places : (n : ℕ) (xs ys : List ℕ) → length xs ≤ n → n ≤ 2 ^ m - 1 → ArePlaces (2 ^ m) (places (differences xs ys))
  are_places n xs ys h g = record {
    small = places-small (differences xs ys);
    not_zero = places-not_zero (differences xs ys) (differences-lt (2 ^ m - 1) xs ys (omega arith));
    differ = places-differ n xs ys h g;
  }

  -- ---- the bound
  pub length-places : (ks : List ℕ) → length (places ks) ≡ length ks
  unfolding places
  length-places [] = refl
  length-places (k ∷ ks) = ap suc (length-places ks)

  -- two code words that differ in at most w places are equal, where the generator has w
  -- neighbouring powers as roots
  pub bound : (t w : ℕ) (xs ys : List ℕ) → ((j : ℕ) → 0 < j → j ≤ w → value_at m f (power m f 2 j) (generator_of m f t) ≡ 0)
      → AreBits xs → AreBits ys → length xs ≡ length ys → length xs ≤ 2 ^ m - 1 → distance xs ys ≤ w → IsMultiple m f t xs → IsMultiple m f t ys → xs ≡ ys
  bound t w xs ys roots s r e room near cx cy =
      let len = length-places (differences xs ys) in
      let none = none_from_moments (2 ^ m) (times m f) (domain_from_primitive m f p) (omega (arith, p.wide)) (places (differences xs ys)) w here (omega arith) zero_sum in
      same_from_none xs ys e (omega arith)
    where
      big : 1 < 2 ^ m
      big = omega (arith, p.wide)

      here : ArePlaces (2 ^ m) (places (differences xs ys))
      here = are_places (length xs) xs ys (omega arith) room

      zero_sum : (j : ℕ) → 0 < j → j ≤ w → moment (times m f) (errors (places (differences xs ys))) j ≡ 0
      zero_sum j a b =
          sym (power_sum-moment j (differences xs ys)) ∙ sym (words_differ (power m f 2 j) xs ys s r e)
          ∙ ap₂ bit_xor (value-code_word (power m f 2 j) t xs (roots j a b) cx) (value-code_word (power m f 2 j) t ys (roots j a b) cy)
