use Rattle.std.proofs.Common.{◌≡◌, ◌≢◌, ℕ, zero, suc, ◌+◌, ◌/◌, ◌%◌, ◌^◌, ◌<◌, ◌≤◌, List, [], ◌∷◌, length, refl, sym, ap, ap₂, ◌∙◌, arith}
use Rattle.std.specs.Prelude.{bit_xor}
use Rattle.std.proofs.lemmas.Nat.Bits.{bit_at_xor, same_from_bits}
use lib.Bits.{xor_self, xor_zero_r}
use Rattle.code_model.specs.Poly.{IsDomain, Every, AllDiffer, value, term, moment, convolved, with_root, with_root_from, weighted, locator}
use Rattle.code_model.proofs.BitsLemmas.{xor_swap}

-- ---- equations between sums, decided bit by bit
pub xor_cancel : (a b : ℕ) → bit_xor a b ≡ 0 → a ≡ b
xor_cancel a b e = same_from_bits _ _ (λ i. let e' = ap (λ n. n / 2 ^ i % 2) e in omega (arith, simp bit_at_xor at e'))

five : (a b c e f : ℕ) → bit_xor (bit_xor a b) (bit_xor c e) ≡ bit_xor (bit_xor (bit_xor a f) (bit_xor c e)) (bit_xor b f)
five a b c e f = same_from_bits _ _ (λ i. simp bit_at_xor (omega arith))

four : (a b c e : ℕ) → bit_xor (bit_xor a b) (bit_xor c e) ≡ bit_xor a (bit_xor (bit_xor c b) e)
four a b c e = same_from_bits _ _ (λ i. simp bit_at_xor (omega arith))

module _ (size : ℕ) (mul : ℕ → ℕ → ℕ) (d : IsDomain size mul) where
  -- ---- the sum of terms
  -- each a x^j by x + y
  scaled : ℕ → List (ℕ × ℕ) → List (ℕ × ℕ)
  scaled y [] = []
  scaled y (t ∷ ts) = (mul (bit_xor t.1 y) t.0, t.1) ∷ scaled y ts

  mul-xor_left : (a b c : ℕ) → mul (bit_xor a b) c ≡ bit_xor (mul a c) (mul b c)
  mul-xor_left a b c = d.mul_comm _ c ∙ d.mul_xor c a b ∙ ap₂ bit_xor (d.mul_comm c a) (d.mul_comm c b)

  mul_swap : (a b c : ℕ) → mul a (mul b c) ≡ mul b (mul a c)
  mul_swap a b c = sym (d.mul_assoc a b c) ∙ ap (λ x. mul x c) (d.mul_comm a b) ∙ d.mul_assoc b a c

  term-mul : (k a x j : ℕ) → term mul (mul k a) x j ≡ mul k (term mul a x j)
  unfolding term
  term-mul k a x zero = refl
  term-mul k a x (suc j) = ap (mul x) (term-mul k a x j) ∙ mul_swap x k _

  moment-scaled : (y : ℕ) (ts : List (ℕ × ℕ)) (j : ℕ) → moment mul (scaled y ts) j ≡ bit_xor (moment mul ts (suc j)) (mul y (moment mul ts j))
  unfolding moment scaled term
  moment-scaled y [] j = sym (d.mul_zero y)
  moment-scaled y (t ∷ ts) j =
      ap₂ bit_xor (term-mul (bit_xor t.1 y) t.0 t.1 j ∙ mul-xor_left t.1 y (term mul t.0 t.1 j)) (moment-scaled y ts j)
      ∙ xor_swap (mul t.1 (term mul t.0 t.1 j)) (mul y (term mul t.0 t.1 j)) (moment mul ts (suc j)) (mul y (moment mul ts j))
      ∙ ap (bit_xor (bit_xor (mul t.1 (term mul t.0 t.1 j)) (moment mul ts (suc j)))) (sym (d.mul_xor y _ _))

  abbrev pub Small : ℕ × ℕ → Type 0
  Small t = (t.0 < size) × (t.1 < size)

  scaled-small : (y : ℕ) → (ts : List (ℕ × ℕ)) → Every Small ts → Every Small (scaled y ts)
  unfolding scaled
  scaled-small y [] s = tt
  scaled-small y (t ∷ ts) s = ((d.mul_lt _ _, s.0.1), scaled-small y ts s.1)

  abbrev pub Apart : List (ℕ × ℕ) → Type 0
  Apart [] = Unit {0}
  Apart (t ∷ ts) = Every (λ u. u.1 ≢ t.1) ts × Apart ts

  scaled-apart_from : (x y : ℕ) (ts : List (ℕ × ℕ)) → Every (λ u. u.1 ≢ x) ts → Every (λ u. u.1 ≢ x) (scaled y ts)
  unfolding scaled
  scaled-apart_from x y [] s = tt
  scaled-apart_from x y (t ∷ ts) s = (s.0, scaled-apart_from x y ts s.1)

  scaled-apart : (y : ℕ) (ts : List (ℕ × ℕ)) → Apart ts → Apart (scaled y ts)
  unfolding scaled
  scaled-apart y [] s = tt
  scaled-apart y (t ∷ ts) s = (scaled-apart_from t.1 y ts s.0, scaled-apart y ts s.1)

  scaled-not_zero : (y : ℕ) (ts : List (ℕ × ℕ)) → Every (λ u. u.1 ≢ 0) ts → Every (λ u. u.1 ≢ 0) (scaled y ts)
  scaled-not_zero y ts s = scaled-apart_from 0 y ts s

  -- what is 0 once scaled was 0 before
  unscaled : (y : ℕ) (ts : List (ℕ × ℕ)) → y < size → Every Small ts → Every (λ u. u.1 ≢ y) ts → Every (λ u. u.0 ≡ 0) (scaled y ts) → Every (λ u. u.0 ≡ 0) ts
  unfolding scaled
  unscaled y [] h s n z = tt
  unscaled y (t ∷ ts) h s n z =
      (d.mul_cancel (bit_xor t.1 y) t.0 (d.sum_lt t.1 y s.0.1 h) s.0.0 (λ e. n.0 (xor_cancel t.1 y e)) z.0, unscaled y ts h s.1 n.1 z.1)

  length-scaled : (y : ℕ) (ts : List (ℕ × ℕ)) → length (scaled y ts) ≡ length ts
  unfolding scaled
  length-scaled y [] = refl
  length-scaled y (t ∷ ts) = ap suc (length-scaled y ts)

  pub term-zero : (x j : ℕ) → term mul 0 x j ≡ 0
  unfolding term
  term-zero x zero = refl
  term-zero x (suc j) = ap (mul x) (term-zero x j) ∙ d.mul_zero x

  term-lt : (a x j : ℕ) → a < size → term mul a x j < size
  unfolding term
  term-lt a x zero h = h
  term-lt a x (suc j) h = d.mul_lt _ _

  zero_from_term : (a x j : ℕ) → a < size → x < size → x ≢ 0 → term mul a x j ≡ 0 → a ≡ 0
  unfolding term
  zero_from_term a x zero h k ne e = e
  zero_from_term a x (suc j) h k ne e = zero_from_term a x j h k ne (d.mul_cancel x _ k (term-lt a x j h) ne e)

  pub moment-zeros : (ts : List (ℕ × ℕ)) (j : ℕ) → Every (λ u. u.0 ≡ 0) ts → moment mul ts j ≡ 0
  unfolding moment
  moment-zeros [] j z = refl
  moment-zeros (t ∷ ts) j z = ap₂ bit_xor (ap (λ a. term mul a t.1 j) z.0 ∙ term-zero t.1 j) (moment-zeros ts j z.1)

  vandermonde : (w : ℕ) (ts : List (ℕ × ℕ)) (j : ℕ) → length ts ≡ w → Every Small ts → Every (λ u. u.1 ≢ 0) ts → Apart ts → ((i : ℕ) → i < w → moment mul ts (j + i) ≡ 0) → Every (λ u. u.0 ≡ 0) ts
  unfolding moment term
  vandermonde zero [] j e s n a z = tt
  vandermonde zero (t ∷ ts) j e s n a z = cc
  vandermonde (suc w) [] j e s n a z = cc
  vandermonde (suc w) (t ∷ ts) j e s n a z =
      let len : length ts ≡ w = omega arith in
      let y = t.1 in
      let below : (i : ℕ) → i < w → moment mul (scaled y ts) (j + i) ≡ 0 =
      (λ i h.
      let e1 : term mul t.0 y (j + i) ≡ moment mul ts (j + i) = xor_cancel _ _ (z i (omega arith)) in
      let e2 : j + suc i ≡ suc (j + i) = omega arith in
      let e3 : mul y (term mul t.0 y (j + i)) ≡ moment mul ts (suc (j + i)) = xor_cancel _ _ (ap (moment mul (t ∷ ts)) (sym e2) ∙ z (suc i) (omega arith)) in
      moment-scaled y ts (j + i) ∙ ap₂ bit_xor (sym e3) (ap (mul y) (sym e1)) ∙ xor_self (mul y (term mul t.0 y (j + i)))) in
      let rest = unscaled y ts s.0.1 s.1 a.0 (vandermonde w (scaled y ts) j (length-scaled y ts ∙ len) (scaled-small y ts s.1) (scaled-not_zero y ts n.1) (scaled-apart y ts a.1) below) in
      let j0 : j + 0 ≡ j = omega arith in
      let first : term mul t.0 y j ≡ 0 =
      xor_cancel _ _ (ap (bit_xor (term mul t.0 y j)) (sym (moment-zeros ts j rest)) ∙ ap (moment mul (t ∷ ts)) (sym j0) ∙ z 0 (omega arith)) in
      (zero_from_term t.0 y j s.0.0 s.0.1 n.0 first, rest)

  -- Vandermonde: where the sums of w terms a x^j are 0 for w neighbouring j, and the x differ and
  -- are not 0, each a is 0
  pub zero_moments : (ts : List (ℕ × ℕ)) (j : ℕ) → Every Small ts → Every (λ u. u.1 ≢ 0) ts → Apart ts → ((i : ℕ) → i < length ts → moment mul ts (j + i) ≡ 0) → Every (λ u. u.0 ≡ 0) ts
  zero_moments ts j s n a z = vandermonde (length ts) ts j refl s n a z

  -- ---- values and roots
  pub value-lt : (cs : List ℕ) (x : ℕ) → Every (λ c. c < size) cs → 0 < size → value mul cs x < size
  unfolding value
  value-lt [] x s h = h
  value-lt (c ∷ cs) x s h = d.sum_lt c _ s.0 (d.mul_lt x _)

  quotient_by : ℕ → List ℕ → List ℕ
  quotient_by y [] = []
  quotient_by y (c ∷ cs) = value mul (c ∷ cs) y ∷ quotient_by y cs

  -- x p(x) + y p(y) is a multiple of x + y
  value-quotient : (y x : ℕ) (cs : List ℕ) → bit_xor (mul x (value mul cs x)) (mul y (value mul cs y)) ≡ mul (bit_xor x y) (value mul (quotient_by y cs) x)
  unfolding value quotient_by
  value-quotient y x [] = ap₂ bit_xor (d.mul_zero x) (d.mul_zero y) ∙ sym (d.mul_zero _)
  value-quotient y x (c ∷ cs) =
      let p = mul x (value mul cs x) in
      let q = mul y (value mul cs y) in
      let w = value mul (quotient_by y cs) x in
      ap₂ bit_xor (d.mul_xor x c p) (d.mul_xor y c q)
      ∙ five (mul x c) (mul x p) (mul y c) (mul y q) (mul x q)
      ∙ sym (d.mul_xor (bit_xor x y) (bit_xor c q) (mul x w)
      ∙ ap₂ bit_xor
      (mul-xor_left x y (bit_xor c q) ∙ ap₂ bit_xor (d.mul_xor x c q) (d.mul_xor y c q))
      (mul_swap (bit_xor x y) x w ∙ ap (mul x) (sym (value-quotient y x cs)) ∙ d.mul_xor x p q))

  length-quotient : (y : ℕ) (cs : List ℕ) → length (quotient_by y cs) ≡ length cs
  unfolding quotient_by
  length-quotient y [] = refl
  length-quotient y (c ∷ cs) = ap suc (length-quotient y cs)

  quotient-small : (y : ℕ) (cs : List ℕ) → 0 < size → Every (λ c. c < size) cs → Every (λ c. c < size) (quotient_by y cs)
  unfolding quotient_by
  quotient-small y [] h s = tt
  quotient-small y (c ∷ cs) h s = (value-lt (c ∷ cs) y s h, quotient-small y cs h s.1)

  value-zeros : (cs : List ℕ) (x : ℕ) → Every (λ c. c ≡ 0) cs → value mul cs x ≡ 0
  unfolding value
  value-zeros [] x z = refl
  value-zeros (c ∷ cs) x z = ap₂ bit_xor z.0 (ap (mul x) (value-zeros cs x z.1) ∙ d.mul_zero x)

  -- the lowest coefficient of a polynomial whose others are 0
  value-constant : (c : ℕ) (cs : List ℕ) (x : ℕ) → Every (λ c. c ≡ 0) cs → value mul (c ∷ cs) x ≡ c
  unfolding value
  value-constant c cs x z = ap (bit_xor c) (ap (mul x) (value-zeros cs x z) ∙ d.mul_zero x) ∙ xor_zero_r c

  zeros_from_quotient : (y : ℕ) (cs : List ℕ) → Every (λ c. c ≡ 0) (quotient_by y cs) → Every (λ c. c ≡ 0) cs
  unfolding quotient_by
  zeros_from_quotient y [] z = tt
  zeros_from_quotient y (c ∷ cs) z =
      let rest = zeros_from_quotient y cs z.1 in
      (sym (value-constant c cs y rest) ∙ z.0, rest)

  quotient-roots : (c y : ℕ) (cs : List ℕ) (ys : List ℕ) → 0 < size → y < size → Every (λ c. c < size) cs → Every (λ x. x < size) ys → Every (λ x. x ≢ y) ys → value mul (c ∷ cs) y ≡ 0 → Every (λ x. value mul (c ∷ cs) x ≡ 0) ys → Every (λ x. value mul (quotient_by y cs) x ≡ 0) ys
  unfolding value
  quotient-roots c y cs [] o h s k n e r = tt
  quotient-roots c y cs (x ∷ ys) o h s k n e r = (
    d.mul_cancel (bit_xor x y) _ (d.sum_lt x y k.0 h) (value-lt _ x (quotient-small y cs o s) o) (λ q. n.0 (xor_cancel x y q))
        (sym (value-quotient y x cs) ∙ ap₂ bit_xor (sym (xor_cancel c _ r.0)) (sym (xor_cancel c _ e)) ∙ xor_self c),
    quotient-roots c y cs ys o h s k.1 n.1 e r.1,
  )

  -- a polynomial with as many roots as coefficients is 0
  pub zeros_from_roots : (ys cs : List ℕ) → 0 < size → length cs ≤ length ys → Every (λ c. c < size) cs → Every (λ x. x < size) ys → AllDiffer ys → Every (λ x. value mul cs x ≡ 0) ys → Every (λ c. c ≡ 0) cs
  zeros_from_roots ys [] o l s k n r = tt
  zeros_from_roots [] (c ∷ cs) o l s k n r = absurd (omega arith)
  zeros_from_roots (y ∷ ys) (c ∷ cs) o l s k n r =
      let len = length-quotient y cs in
      let rest = zeros_from_quotient y cs
      (zeros_from_roots ys (quotient_by y cs) o (omega arith) (quotient-small y cs o s.1) k.1 n.1
      (quotient-roots c y cs ys o k.0 s.1 k.1 n.0 r.0 r.1)) in
      (sym (value-constant c cs y rest) ∙ r.0, rest)

  -- ---- the key equation
  weighted-none : (ts : List (ℕ × ℕ)) (j : ℕ) → moment mul (weighted mul [] ts) j ≡ 0
  unfolding moment weighted value
  weighted-none [] j = refl
  weighted-none (t ∷ ts) j = ap₂ bit_xor (ap (λ a. term mul a t.1 j) (d.mul_comm 0 t.0 ∙ d.mul_zero t.0) ∙ term-zero t.1 j) (weighted-none ts j)

  weighted-more : (c : ℕ) (cs : List ℕ) (ts : List (ℕ × ℕ)) (j : ℕ) → bit_xor (mul c (moment mul ts j)) (moment mul (weighted mul cs ts) (suc j)) ≡ moment mul (weighted mul (c ∷ cs) ts) j
  unfolding moment weighted value term
  weighted-more c cs [] j = ap (λ x. bit_xor x 0) (d.mul_zero c)
  weighted-more c cs (t ∷ ts) j =
      let v = value mul cs t.1 in
      let e = term mul t.0 t.1 j in
      ap (λ x. bit_xor x (bit_xor (mul t.1 (term mul (mul v t.0) t.1 j)) (moment mul (weighted mul cs ts) (suc j)))) (d.mul_xor c e _)
      ∙ xor_swap (mul c e) (mul c (moment mul ts j)) (mul t.1 (term mul (mul v t.0) t.1 j)) (moment mul (weighted mul cs ts) (suc j))
      ∙ ap₂ bit_xor
      (ap (bit_xor (mul c e)) (ap (mul t.1) (term-mul v t.0 t.1 j) ∙ sym (d.mul_assoc t.1 v e)) ∙ sym (mul-xor_left c (mul t.1 v) e)
      ∙ sym (term-mul (bit_xor c (mul t.1 v)) t.0 t.1 j))
      (weighted-more c cs ts j)

  -- the coefficients against the moments are the moments of the terms times the polynomial's values
  pub convolved-moments : (ts : List (ℕ × ℕ)) (cs : List ℕ) (j : ℕ) → convolved mul (moment mul ts) cs j ≡ moment mul (weighted mul cs ts) j
  unfolding convolved
  convolved-moments ts [] j = sym (weighted-none ts j)
  convolved-moments ts (c ∷ cs) j =
      ap (bit_xor (mul c (moment mul ts j))) (convolved-moments ts cs (suc j)) ∙ weighted-more c cs ts j

  -- ---- the polynomial whose roots are given
  with_root_from-value : (a low : ℕ) (cs : List ℕ) (x : ℕ) → value mul (with_root_from mul a low cs) x ≡ bit_xor low (mul (bit_xor x a) (value mul cs x))
  unfolding value with_root_from
  with_root_from-value a low [] x = ap (bit_xor low) (d.mul_zero x ∙ sym (d.mul_zero _))
  with_root_from-value a low (c ∷ cs) x =
      let v = value mul cs x in
      ap (λ w. bit_xor (bit_xor low (mul a c)) (mul x w)) (with_root_from-value a c cs x)
      ∙ ap (bit_xor (bit_xor low (mul a c))) (d.mul_xor x c _)
      ∙ four low (mul a c) (mul x c) (mul x (mul (bit_xor x a) v))
      ∙ ap (bit_xor low) (ap₂ bit_xor (sym (mul-xor_left x a c)) (mul_swap x (bit_xor x a) v) ∙ sym (d.mul_xor (bit_xor x a) c (mul x v)))

  value-with_root : (a : ℕ) (cs : List ℕ) (x : ℕ) → value mul (with_root mul a cs) x ≡ mul (bit_xor x a) (value mul cs x)
  unfolding with_root
  value-with_root a cs x = with_root_from-value a 0 cs x

  length-with_root_from : (a low : ℕ) (cs : List ℕ) → length (with_root_from mul a low cs) ≡ suc (length cs)
  unfolding with_root_from
  length-with_root_from a low [] = refl
  length-with_root_from a low (c ∷ cs) = ap suc (length-with_root_from a c cs)

  pub length-locator : (xs : List ℕ) → length (locator mul xs) ≡ suc (length xs)
  unfolding locator with_root
  length-locator [] = refl
  length-locator (x ∷ xs) = length-with_root_from x 0 (locator mul xs) ∙ ap suc (length-locator xs)

  pub locator-roots : (xs : List ℕ) → Every (λ x. value mul (locator mul xs) x ≡ 0) xs
  unfolding locator
  locator-roots [] = tt
  locator-roots (x ∷ xs) = (
    value-with_root x (locator mul xs) x ∙ ap (λ z. mul z (value mul (locator mul xs) x)) (xor_self x) ∙ d.mul_comm 0 _ ∙ d.mul_zero _,
    more x (locator mul xs) xs (locator-roots xs),
  )
    where
      more : (a : ℕ) (cs ys : List ℕ) → Every (λ x. value mul cs x ≡ 0) ys → Every (λ x. value mul (with_root mul a cs) x ≡ 0) ys
      more a cs [] r = tt
      more a cs (y ∷ ys) r = (value-with_root a cs y ∙ ap (mul (bit_xor y a)) r.0 ∙ d.mul_zero _, more a cs ys r.1)
