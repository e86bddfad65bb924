-- Minimal polynomials: their coefficients are 0 and 1, since squaring turns the roots round.
use Rattle.std.proofs.Common.{◌≡◌, ◌≢◌, ℕ, zero, suc, ◌+◌, ◌-◌, ◌*◌, ◌/◌, ◌%◌, ◌^◌, ◌<◌, ◌≤◌, List, [], ◌∷◌, ◌++◌, length, refl, sym, ap, ap₂, ◌∙◌, subst, arith, lit<, inl, inr}
use Rattle.std.specs.Prelude.{bit_xor}
use Rattle.std.proofs.lemmas.Nat.Bits.{bit_at_xor, same_from_bits}
use Rattle.std.proofs.lemmas.Bool.{cases_eq}
use Rattle.std.proofs.lemmas.Nat.{xor_comm}
use Rattle.std.proofs.Math.Nat.{pow-suc}
use lib.Bits.{xor_self}
use Rattle.code_model.specs.Binary.{times, power, value_at, IsPrimitive}
use Rattle.code_model.specs.Poly.{IsDomain, Every, value, with_root, with_root_from, locator}
use Rattle.code_model.specs.Generator.{packed, conjugates, minimal_of}
use Rattle.code_model.proofs.PolyLemmas.{xor_cancel, locator-roots, length-locator}
use Rattle.code_model.proofs.KeyEquation.{coefficient, locator-small, locator-lead}
use Rattle.code_model.proofs.ValueLemmas.{value_at-zero, value_at-digit}
use Rattle.code_model.proofs.FieldLemmas.{power-lt, power-add, power-mul, power-order, times_zero-cancel}
use Rattle.code_model.proofs.BinaryLemmas.{times-lt, times_comm, times-one}
use Rattle.code_model.proofs.InverseLemmas.{power-first}
use Rattle.code_model.proofs.Instances.{domain_from_primitive}

-- a sum whose middle terms are equal
middle : (a b c : ℕ) → bit_xor (bit_xor a b) (bit_xor b c) ≡ bit_xor a c
middle a b c = same_from_bits _ _ (λ i. simp bit_at_xor (omega arith))

-- the heads of two products by two roots
heads : (l k r s t : ℕ) → bit_xor l r ≡ bit_xor k s → bit_xor l (bit_xor r t) ≡ bit_xor k (bit_xor s t)
heads l k r s t e = same_from_bits _ _ (λ i. let e' = ap (λ n. n / 2 ^ i % 2) e in simp bit_at_xor (omega (arith, simp bit_at_xor at e')))

turned : (k r s : ℕ) → bit_xor (bit_xor k r) s ≡ bit_xor (bit_xor k s) r
turned k r s = same_from_bits _ _ (λ i. simp bit_at_xor (omega arith))

module _ (size : ℕ) (mul : ℕ → ℕ → ℕ) (d : IsDomain size mul) where
  pub square-xor : (a b : ℕ) → mul (bit_xor a b) (bit_xor a b) ≡ bit_xor (mul a a) (mul b b)
  square-xor a b =
      d.mul_xor (bit_xor a b) a b
      ∙ ap₂ bit_xor (d.mul_comm (bit_xor a b) a ∙ d.mul_xor a a b) (d.mul_comm (bit_xor a b) b ∙ d.mul_xor b a b ∙ ap (λ x. bit_xor x (mul b b)) (d.mul_comm b a))
      ∙ middle (mul a a) (mul a b) (mul b b)

  pub square-mul : (a b : ℕ) → mul (mul a b) (mul a b) ≡ mul (mul a a) (mul b b)
  square-mul a b =
      d.mul_assoc a b (mul a b) ∙ ap (mul a) (sym (d.mul_assoc b a b) ∙ ap (λ x. mul x b) (d.mul_comm b a) ∙ d.mul_assoc a b b) ∙ sym (d.mul_assoc a a (mul b b))

  -- the squares of the coefficients
  unfoldable pub squares : List ℕ → List ℕ
  squares [] = []
  squares (c ∷ cs) = mul c c ∷ squares cs

  squares-with_root_from : (a low : ℕ) (cs : List ℕ) → squares (with_root_from mul a low cs) ≡ with_root_from mul (mul a a) (mul low low) (squares cs)
  unfolding squares with_root_from
  squares-with_root_from a low [] = refl
  squares-with_root_from a low (c ∷ cs) =
      ap₂ (λ x xs. x ∷ xs) (square-xor low (mul a c) ∙ ap (bit_xor (mul low low)) (square-mul a c)) (squares-with_root_from a c cs)

  -- squaring the coefficients squares the roots
  squares-locator : 1 < size → (xs : List ℕ) → squares (locator mul xs) ≡ locator mul (squares xs)
  unfolding squares locator with_root
  squares-locator h [] = ap (λ x. x ∷ []) (d.mul_one 1 h)
  squares-locator h (x ∷ xs) =
      squares-with_root_from x 0 (locator mul xs) ∙ ap₂ (with_root_from mul (mul x x)) (d.mul_zero 0) (squares-locator h xs)

  with_root_from-swap : (a b l k low : ℕ) (cs : List ℕ) → bit_xor l (mul a low) ≡ bit_xor k (mul b low)
      → with_root_from mul a l (with_root_from mul b low cs) ≡ with_root_from mul b k (with_root_from mul a low cs)
  unfolding with_root_from
  with_root_from-swap a b l k low [] e = ap (λ x. x ∷ low ∷ []) e
  with_root_from-swap a b l k low (c ∷ cs) e =
      ap₂ (λ x xs. x ∷ xs)
      (ap (bit_xor l) (d.mul_xor a low (mul b c)) ∙ heads l k (mul a low) (mul b low) (mul a (mul b c)) e
      ∙ ap (bit_xor k) (ap (bit_xor (mul b low)) (sym (d.mul_assoc a b c) ∙ ap (λ x. mul x c) (d.mul_comm a b) ∙ d.mul_assoc b a c) ∙ sym (d.mul_xor b low (mul a c))))
      (with_root_from-swap a b (bit_xor low (mul b c)) (bit_xor low (mul a c)) c cs (turned low (mul b c) (mul a c)))

  -- the order of the roots does not matter
  locator-snoc : (a : ℕ) (xs : List ℕ) → locator mul (xs ++ a ∷ []) ≡ locator mul (a ∷ xs)
  unfolding locator with_root
  locator-snoc a [] = refl
  locator-snoc a (x ∷ xs) =
      ap (with_root_from mul x 0) (locator-snoc a xs)
      ∙ with_root_from-swap x a 0 0 0 (locator mul xs) (ap (bit_xor 0) (d.mul_zero x ∙ sym (d.mul_zero a)))

  -- an element that is its own square is 0 or 1
  fixed-lt : (c : ℕ) → 1 < size → c < size → mul c c ≡ c → c < 2
  fixed-lt c one h e = elim (cases_eq c 0) [
    | inl z ↦ omega arith
    | inr ne ↦ (let back : bit_xor c 1 ≡ 0 = d.mul_cancel c (bit_xor c 1) h (d.sum_lt c 1 h one) ne (d.mul_xor c c 1 ∙ ap₂ bit_xor e (d.mul_one c h) ∙ xor_self c) in
        let same : c ≡ 1 = xor_cancel c 1 back in
        omega arith)
  ]

  bits_from_fixed : (cs : List ℕ) → 1 < size → Every (λ c. c < size) cs → squares cs ≡ cs → Every (λ c. c < 2) cs
  unfolding squares
  bits_from_fixed [] one s e = tt
  bits_from_fixed (c ∷ cs) one s e = (fixed-lt c one s.0 (cc), bits_from_fixed cs one s.1 (cc))

  pub locator-bits : (xs ys : List ℕ) (a : ℕ) → 1 < size → xs ≡ a ∷ ys → squares xs ≡ ys ++ a ∷ [] → Every (λ c. c < 2) (locator mul xs)
  locator-bits xs ys a one front back =
      bits_from_fixed (locator mul xs) one (locator-small size mul d one xs)
      (squares-locator one xs ∙ ap (locator mul) back ∙ locator-snoc a ys ∙ ap (locator mul) (sym front))

-- a number whose binary digits are a list of 0 and 1
packed-lt : (cs : List ℕ) → Every (λ c. c < 2) cs → packed cs < 2 ^ length cs
unfolding packed
packed-lt [] s = lit< tt
packed-lt (c ∷ cs) s = let ih = packed-lt cs s.1 in let e = pow-suc 2 (length cs) in let h = s.0 in omega arith

packed-le : (n : ℕ) (cs : List ℕ) → length cs ≡ suc n → coefficient cs n ≡ 1 → 2 ^ n ≤ packed cs
unfolding packed
packed-le n [] h e = absurd (omega arith)
packed-le zero (c ∷ cs) h e = omega arith
packed-le (suc n) (c ∷ cs) h e = let ih = packed-le n cs (omega arith) e in let q = pow-suc 2 n in omega arith

module _ (m f : ℕ) (p : IsPrimitive m f) where
  two_not_zero : suc (suc zero) ≡ zero → ⊥
  two_not_zero e = omega arith

  pub power_x-not_zero : (n : ℕ) → power m f 2 n ≢ 0
  unfolding power
  power_x-not_zero zero e = omega arith
  power_x-not_zero (suc n) e = two_not_zero (times_zero-cancel m f p (power m f 2 n) 2 (power-lt m f p 2 n) p.wide (power_x-not_zero n) e)

  squares-conjugates : (n a : ℕ) → squares (2 ^ m) (times m f) (domain_from_primitive m f p) (conjugates m f n a) ≡ conjugates m f n (times m f a a)
  unfolding squares conjugates
  squares-conjugates zero a = refl
  squares-conjugates (suc n) a = ap (λ xs. times m f a a ∷ xs) (squares-conjugates n (times m f a a))

  square-power : (a : ℕ) → a < 2 ^ m → times m f a a ≡ power m f a 2
  unfolding power
  square-power a h = ap (λ x. times m f x a) (sym (times_comm m f 1 a ∙ times-one m f a h))

  power-square : (n a : ℕ) → a < 2 ^ m → power m f (times m f a a) (2 ^ n) ≡ power m f a (2 ^ suc n)
  power-square n a h =
      let e : 2 * 2 ^ n ≡ 2 ^ suc n = (let q = pow-suc 2 n in omega arith) in
      ap (λ x. power m f x (2 ^ n)) (square-power a h) ∙ sym (power-mul m f p a 2 (2 ^ n)) ∙ ap (power m f a) e

  conjugates-snoc : (n a : ℕ) → a < 2 ^ m → conjugates m f (suc n) a ≡ conjugates m f n a ++ power m f a (2 ^ n) ∷ []
  unfolding conjugates
  conjugates-snoc zero a h = ap (λ x. x ∷ []) (power-first m f p a h)
  conjugates-snoc (suc n) a h =
      ap (λ xs. a ∷ xs) (conjugates-snoc n (times m f a a) (times-lt m f a a p.low p.high) ∙ ap (λ x. conjugates m f n (times m f a a) ++ x ∷ []) (power-square n a h))

  -- squaring an element as often as the degree gives it back
  power-whole : (a : ℕ) → 0 < a → a < 2 ^ m → power m f a (2 ^ m) ≡ a
  power-whole a not_zero h =
      let e : 2 ^ m ≡ 2 ^ m - 1 + 1 = omega arith in
      ap (power m f a) e ∙ power-add m f p a (2 ^ m - 1) 1
      ∙ ap₂ (times m f) (power-order m f p a not_zero h) (sym (power-first m f p a h)) ∙ times_comm m f 1 a ∙ times-one m f a h

  length-conjugates : (n a : ℕ) → length (conjugates m f n a) ≡ n
  unfolding conjugates
  length-conjugates zero a = refl
  length-conjugates (suc n) a = ap suc (length-conjugates n (times m f a a))

  conjugates-front : (k a : ℕ) → conjugates m f (suc k) a ≡ a ∷ conjugates m f k (times m f a a)
  unfolding conjugates
  conjugates-front k a = refl

  -- the polynomial with an element's conjugates as roots has coefficients 0 and 1
  minimal-bits : (k a : ℕ) → m ≡ suc k → 0 < a → a < 2 ^ m → Every (λ c. c < 2) (locator (times m f) (conjugates m f (suc k) a))
  minimal-bits k a e not_zero h =
      let dom = domain_from_primitive m f p in
      let wide = p.wide in
      let whole : power m f (times m f a a) (2 ^ k) ≡ a = power-square k a h ∙ ap (λ i. power m f a (2 ^ i)) (sym e) ∙ power-whole a not_zero h in
      locator-bits (2 ^ m) (times m f) dom (conjugates m f (suc k) a) (conjugates m f k (times m f a a)) a (omega arith)
      (conjugates-front k a)
      (squares-conjugates (suc k) a ∙ conjugates-snoc k (times m f a a) (times-lt m f a a p.low p.high)
      ∙ ap (λ x. conjugates m f k (times m f a a) ++ x ∷ []) whole)

  value_at-packed : (x : ℕ) (cs : List ℕ) → Every (λ c. c < 2) cs → value_at m f x (packed cs) ≡ value (times m f) cs x
  unfolding packed value
  value_at-packed x [] s = value_at-zero m f x
  value_at-packed x (c ∷ cs) s =
      value_at-digit m f x (packed cs) c s.0
      ∙ ap (λ v. bit_xor v c) (times_comm m f (value_at m f x (packed cs)) x ∙ ap (times m f x) (value_at-packed x cs s.1))
      ∙ xor_comm (times m f x (value (times m f) cs x)) c

  pub predecessor : (k : ℕ) × (m ≡ suc k)
  predecessor = (m - 1, let above = degree_not_zero m p.wide in omega arith)
    where
      degree_not_zero : (n : ℕ) → 2 < 2 ^ n → 0 < n
      degree_not_zero zero h = absurd (omega arith)
      degree_not_zero (suc n) h = omega arith

  -- the coefficients of a minimal polynomial are 0 and 1
  pub roots_bits : (j : ℕ) → Every (λ c. c < 2) (locator (times m f) (conjugates m f m (power m f 2 j)))
  roots_bits j =
      let k = predecessor in
      let a = power m f 2 j in
      let ne = power_x-not_zero j in
      let P : ℕ → Type 0 = λ n. Every (λ c. c < 2) (locator (times m f) (conjugates m f n a)) in
      subst P (sym k.1) (minimal-bits k.0 a k.1 (omega arith) (power-lt m f p 2 j))

  -- a power of x is a root of its minimal polynomial
  pub minimal-root : (j : ℕ) → value_at m f (power m f 2 j) (minimal_of m f j) ≡ 0
  unfolding minimal_of
  minimal-root j =
      let k = predecessor in
      let a = power m f 2 j in
      let P : List ℕ → Type 0 = λ xs. Every (λ x. value (times m f) (locator (times m f) xs) x ≡ 0) xs in
      let front : conjugates m f m a ≡ a ∷ conjugates m f k.0 (times m f a a) = ap (λ n. conjugates m f n a) k.1 ∙ conjugates-front k.0 a in
      let roots : P (a ∷ conjugates m f k.0 (times m f a a)) = locator-roots (2 ^ m) (times m f) (domain_from_primitive m f p) (a ∷ conjugates m f k.0 (times m f a a)) in
      value_at-packed a (locator (times m f) (conjugates m f m a)) (roots_bits j)
      ∙ ap (λ xs. value (times m f) (locator (times m f) xs) a) front ∙ roots.0

  -- a minimal polynomial has the field's degree
  pub minimal-degree : (j : ℕ) → (2 ^ m ≤ minimal_of m f j) × (minimal_of m f j < 2 * 2 ^ m)
  unfolding minimal_of
  minimal-degree j =
      let dom = domain_from_primitive m f p in
      let xs = conjugates m f m (power m f 2 j) in
      let len : length xs ≡ m = length-conjugates m (power m f 2 j) in
      let long : length (locator (times m f) xs) ≡ suc m = length-locator (2 ^ m) (times m f) dom xs ∙ ap suc len in
      let lead : coefficient (locator (times m f) xs) m ≡ 1 = ap (coefficient (locator (times m f) xs)) (sym len) ∙ locator-lead (2 ^ m) (times m f) dom (omega (arith, p.wide)) xs in
      let low = packed-le m (locator (times m f) xs) long lead in
      let high = packed-lt (locator (times m f) xs) (roots_bits j) in
      let size : 2 ^ length (locator (times m f) xs) ≡ 2 ^ m * 2 = ap (λ n. 2 ^ n) long ∙ pow-suc 2 m in
      (low, omega arith)
