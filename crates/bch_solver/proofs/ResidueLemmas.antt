-- Values of polynomials modulo a locator at the locator's roots.
use Rattle.std.proofs.Common.{◌≡◌, ◌≢◌, ℕ, zero, suc, ◌+◌, ◌-◌, ◌*◌, ◌^◌, ◌<◌, ◌≤◌, List, [], ◌∷◌, length, get_or, replicate, refl, sym, ap, ap₂, ◌∙◌, subst, arith, inl, inr}
use Rattle.std.specs.Prelude.{bit_xor}
use Rattle.std.proofs.lemmas.Bool.{cases_lt, cases_eq}
use Rattle.std.proofs.lemmas.Nat.{xor_comm, xor_lt, pow_pos}
use Rattle.std.proofs.Math.Nat.{pow-suc}
use lib.Bits.{xor_zero_r, xor_self, xor_assoc}
use Rattle.code_model.specs.Binary.{times, power, IsPrimitive}
use Rattle.code_model.specs.Poly.{Every, value}
use Rattle.code_model.proofs.BinaryLemmas.{times-zero, times_comm, times_assoc, times-one, times-xor_right}
use Rattle.code_model.proofs.BitsLemmas.{xor_swap}
use Rattle.code_model.proofs.FieldLemmas.{power-add, power-order}
use Rattle.code_model.proofs.Instances.{domain_from_primitive}
use Rattle.code_model.proofs.KeyEquation.{ArePlaces}
use Rattle.code_model.proofs.PolyLemmas.{xor_cancel, zeros_from_roots}
use Rattle.code_model.proofs.MinimalLemmas.{square-xor, square-mul}
use Rattle.bch_solver.specs.Rows.{listed}
use Rattle.bch_solver.specs.Residues.{value_17, IsModulus, IsResidue}
use Rattle.bch_solver.proofs.FirstLemmas.{zeros}

zero_xor : (a : ℕ) → bit_xor 0 a ≡ a
zero_xor a = xor_comm 0 a ∙ xor_zero_r a

module _ (m f : ℕ) (p : IsPrimitive m f) where
  abbrev at : (ℕ → ℕ) → ℕ → ℕ → ℕ
  at c n x = value (times m f) (listed c n) x

  at-zeros : (c : ℕ → ℕ) (n x : ℕ) → ((i : ℕ) → c i ≡ 0) → at c n x ≡ 0
  unfolding listed value
  at-zeros c zero x z = refl
  at-zeros c (suc n) x z = ap₂ bit_xor (z 0) (ap (times m f x) (at-zeros (λ i. c (suc i)) n x (λ i. z (suc i))) ∙ times-zero m f x)

  -- coefficients that are 0 at the end do not count
  pub at-above : (c : ℕ → ℕ) (n k x : ℕ) → n ≤ k → ((i : ℕ) → n ≤ i → c i ≡ 0) → at c k x ≡ at c n x
  unfolding listed value
  at-above c zero k x h z = at-zeros c k x (λ i. z i (omega arith))
  at-above c (suc n) zero x h z = absurd (omega arith)
  at-above c (suc n) (suc k) x h z = ap (λ v. bit_xor (c 0) (times m f x v)) (at-above (λ i. c (suc i)) n k x (omega arith) (λ i g. z (suc i) (omega arith)))

  -- the sum of a polynomial and a multiple of another
  at-sum : (a b c : ℕ → ℕ) (k n x : ℕ) → ((i : ℕ) → c i ≡ bit_xor (a i) (times m f k (b i))) → at c n x ≡ bit_xor (at a n x) (times m f k (at b n x))
  unfolding listed value
  at-sum a b c k zero x h = sym (ap (bit_xor 0) (times-zero m f k))
  at-sum a b c k (suc n) x h =
      let va = at (λ i. a (suc i)) n x in
      let vb = at (λ i. b (suc i)) n x in
      let turned : times m f x (times m f k vb) ≡ times m f k (times m f x vb) =
      sym (times_assoc m f x k vb p.low p.high) ∙ ap (λ y. times m f y vb) (times_comm m f x k) ∙ times_assoc m f k x vb p.low p.high in
      ap₂ bit_xor (h 0) (ap (times m f x) (at-sum (λ i. a (suc i)) (λ i. b (suc i)) (λ i. c (suc i)) k n x (λ i. h (suc i)))
      ∙ times-xor_right m f x va (times m f k vb) p.low p.high ∙ ap (bit_xor (times m f x va)) turned)
      ∙ xor_swap (a 0) (times m f k (b 0)) (times m f x va) (times m f k (times m f x vb))
      ∙ ap (bit_xor (bit_xor (a 0) (times m f x va))) (sym (times-xor_right m f k (b 0) (times m f x vb) p.low p.high))

  -- coefficients one place up
  up : (ℕ → ℕ) → ℕ → ℕ
  up r zero = 0
  up r (suc i) = r i

  at-up : (r : ℕ → ℕ) (n x : ℕ) → at (up r) (suc n) x ≡ times m f x (at r n x)
  unfolding listed value up
  at-up r n x = zero_xor (times m f x (at r n x))

  -- a residue times x, less the multiple of the modulus that its highest coefficient asks for
  pub moved_up_value : (e lead : ℕ) (c r next : List ℕ) → IsModulus m e c → IsResidue m e r → lead ≡ get_or r (e - 1) 0 → lead < 2 ^ m
      → get_or next 0 0 ≡ times m f lead (get_or c 0 0)
      → ((i : ℕ) → 0 < i → i < e → get_or next i 0 ≡ bit_xor (get_or r (i - 1) 0) (times m f lead (get_or c i 0)))
      → ((i : ℕ) → e ≤ i → get_or next i 0 ≡ 0)
      → (x : ℕ) → value_17 m f c x ≡ 0 → value_17 m f next x ≡ times m f x (value_17 m f r x)
  unfolding up
  moved_up_value e lead c r next mc mr el small first more rest x root =
      at-sum (up rs) (λ i. get_or c i 0) (λ i. get_or next i 0) lead 17 x here
      ∙ ap₂ bit_xor (at-up rs 16 x) (ap (times m f lead) root ∙ times-zero m f lead) ∙ xor_zero_r (times m f x (at rs 16 x))
      ∙ ap (times m f x) (sym (at-above rs 16 17 x (omega arith) (λ i g. mr.above i (let h = mc.few in omega arith))))
    where
      rs : ℕ → ℕ
      rs i = get_or r i 0

      past : (i : ℕ) → e ≤ suc i → bit_xor (get_or r i 0) (times m f lead (get_or c (suc i) 0)) ≡ 0
      past i g = elim (cases_eq (suc i) e) [
        | inl q ↦
            ap₂ bit_xor (let j : i ≡ e - 1 = omega arith in ap (λ k. get_or r k 0) j ∙ sym el) (ap (λ j. times m f lead (get_or c j 0)) q ∙ ap (times m f lead) mc.lead ∙ times-one m f lead small)
            ∙ xor_self lead
        | inr ne ↦ ap₂ bit_xor (mr.above i (omega arith)) (ap (times m f lead) (mc.above (suc i) (omega arith)) ∙ times-zero m f lead)
      ]

      here : (i : ℕ) → get_or next i 0 ≡ bit_xor (up rs i) (times m f lead (get_or c i 0))
      here zero = first ∙ sym (zero_xor (times m f lead (get_or c 0 0)))
      here (suc i) = elim (cases_lt (suc i) e) [
        | inl h ↦ (let q : suc i - 1 ≡ i = omega arith in more (suc i) (omega arith) h ∙ ap (λ j. bit_xor (get_or r j 0) (times m f lead (get_or c (suc i) 0))) q)
        | inr g ↦ rest (suc i) g ∙ sym (past i g)
      ]

  at-same : (a b : ℕ → ℕ) (n x : ℕ) → ((i : ℕ) → b i ≡ a i) → at b n x ≡ at a n x
  unfolding listed value
  at-same a b zero x h = refl
  at-same a b (suc n) x h = ap₂ bit_xor (h 0) (ap (times m f x) (at-same (λ i. a (suc i)) (λ i. b (suc i)) n x (λ i. h (suc i))))

  -- another lowest coefficient
  at-first : (a b : ℕ → ℕ) (n q x : ℕ) → b 0 ≡ bit_xor (a 0) q → ((i : ℕ) → b (suc i) ≡ a (suc i)) → at b (suc n) x ≡ bit_xor q (at a (suc n) x)
  unfolding listed value
  at-first a b n q x first rest =
      ap₂ bit_xor (first ∙ xor_comm (a 0) q) (ap (times m f x) (at-same (λ i. a (suc i)) (λ i. b (suc i)) n x rest))
      ∙ xor_assoc q (a 0) (times m f x (at (λ i. a (suc i)) n x))

  pub value-first : (a b : List ℕ) (q x : ℕ) → get_or b 0 0 ≡ bit_xor (get_or a 0 0) q → ((i : ℕ) → i ≢ 0 → get_or b i 0 ≡ get_or a i 0) → value_17 m f b x ≡ bit_xor q (value_17 m f a x)
  value-first a b q x first rest = at-first (λ i. get_or a i 0) (λ i. get_or b i 0) 16 q x first (λ i. rest (suc i) (omega arith))

  pub value-zeros : (a : List ℕ) (x : ℕ) → ((i : ℕ) → get_or a i 0 ≡ 0) → value_17 m f a x ≡ 0
  value-zeros a x z = at-zeros (λ i. get_or a i 0) 17 x z

  -- the value of a polynomial of degree e, or below it
  pub value-degree : (a : List ℕ) (n x : ℕ) → n ≤ 17 → ((i : ℕ) → n ≤ i → get_or a i 0 ≡ 0) → value_17 m f a x ≡ at (λ i. get_or a i 0) n x
  value-degree a n x h z = at-above (λ i. get_or a i 0) n 17 x h z

  -- the square of a polynomial with one more coefficient r in front
  pub square_more : (x v s r q u w : ℕ) → s ≡ times m f v v → u ≡ times m f x s → w ≡ times m f x u → q ≡ times m f r r
      → bit_xor q w ≡ times m f (bit_xor r (times m f x v)) (bit_xor r (times m f x v))
  square_more x v s r q u w es eu ew eq =
      let d = domain_from_primitive m f p in
      ap₂ bit_xor eq (ew ∙ ap (times m f x) (eu ∙ ap (times m f x) es) ∙ sym (times_assoc m f x x (times m f v v) p.low p.high) ∙ sym (square-mul (2 ^ m) (times m f) d x v))
      ∙ sym (square-xor (2 ^ m) (times m f) d r (times m f x v))

  -- from x^n to x^(2 n + 1)
  pub power_squared_up : (x v s i j : ℕ) → v ≡ power m f x (2 ^ i - 1) → s ≡ times m f x (times m f v v) → j ≡ suc i → s ≡ power m f x (2 ^ j - 1)
  unfolding power
  power_squared_up x v s i j ev es ej =
      let n = 2 ^ i - 1 in
      let positive = pow_pos i in
      let twice : 2 ^ j ≡ 2 ^ i * 2 = ap (λ k. 2 ^ k) ej ∙ pow-suc 2 i in
      let e : suc (n + n) ≡ 2 ^ j - 1 = omega arith in
      es ∙ ap (times m f x) (ap₂ (times m f) ev ev ∙ sym (power-add m f p x n n)) ∙ times_comm m f x (power m f x (n + n)) ∙ ap (power m f x) e

  pub power_begins : (x : ℕ) → 1 ≡ power m f x (2 ^ 0 - 1)
  unfolding power
  power_begins x = refl

  -- ---- a residue that is 1 at as many places as the locator's degree is 1
  both_every : (P Q R S : ℕ → Type 0) (xs : List ℕ) → ((x : ℕ) → P x → Q x → R x → S x) → Every P xs → Every Q xs → Every R xs → Every S xs
  both_every P Q R S [] h a b c = tt
  both_every P Q R S (x ∷ xs) h a b c = (h x a.0 b.0 c.0, both_every P Q R S xs h a.1 b.1 c.1)

  every-listed : (c : ℕ → ℕ) (n l : ℕ) → Every (λ v. v ≡ 0) (listed c n) → l < n → c l ≡ 0
  unfolding listed
  every-listed c zero l z h = absurd (omega arith)
  every-listed c (suc n) zero z h = z.0
  every-listed c (suc n) (suc l) z h = every-listed (λ i. c (suc i)) n l z.1 (omega arith)

  listed-small : (c : ℕ → ℕ) (n : ℕ) → ((i : ℕ) → c i < 2 ^ m) → Every (λ v. v < 2 ^ m) (listed c n)
  unfolding listed
  listed-small c zero s = tt
  listed-small c (suc n) s = (s 0, listed-small (λ i. c (suc i)) n (λ i. s (suc i)))

  length-listed : (c : ℕ → ℕ) (n : ℕ) → length (listed c n) ≡ n
  unfolding listed
  length-listed c zero = refl
  length-listed c (suc n) = ap suc (length-listed (λ i. c (suc i)) n)

  -- less 1
  less_one : (ℕ → ℕ) → ℕ → ℕ
  less_one r zero = bit_xor (r 0) 1
  less_one r (suc i) = r (suc i)

  pub one_from_roots : (e : ℕ) (c r xs : List ℕ) → IsModulus m e c → IsResidue m e r → ArePlaces (2 ^ m) xs → length xs ≡ e
      → ((x : ℕ) → value_17 m f c x ≡ 0 → value_17 m f r x ≡ power m f x (2 ^ m - 1)) → Every (λ x. value_17 m f c x ≡ 0) xs
      → (get_or r 0 0 ≡ 1) × ((l : ℕ) → 0 < l → get_or r l 0 ≡ 0)
  unfolding less_one
  one_from_roots e c r xs mc mr places len powers roots = (
    xor_cancel (get_or r 0 0) 1 (zero_at 0 mc.some),
    λ l h. elim (cases_lt l e) [
      | inl g ↦ later l h g
      | inr g ↦ mr.above l g
    ],
  )
    where
      rs : ℕ → ℕ
      rs i = get_or r i 0

      wide : 2 < 2 ^ m
      wide = p.wide

      small : (i : ℕ) → less_one rs i < 2 ^ m
      small zero = xor_lt m (get_or r 0 0) 1 (mr.small 0) (omega arith)
      small (suc i) = mr.small (suc i)

      past : (i : ℕ) → e ≤ i → less_one rs i ≡ 0
      past zero h = (let s = mc.some in absurd (omega arith))
      past (suc i) h = mr.above (suc i) h

      root : (x : ℕ) → x < 2 ^ m → x ≢ 0 → value_17 m f c x ≡ 0 → at (less_one rs) e x ≡ 0
      root x s ne z =
          sym (at-above (less_one rs) e 17 x (let h = mc.few in omega arith) past)
          ∙ at-first rs (less_one rs) 16 1 x refl (λ i. refl) ∙ ap (bit_xor 1) (powers x z ∙ power-order m f p x (omega arith) s)

      zeros : Every (λ v. v ≡ 0) (listed (less_one rs) e)
      zeros = zeros_from_roots (2 ^ m) (times m f) (domain_from_primitive m f p) xs (listed (less_one rs) e) (omega arith) (omega (arith, length-listed (less_one rs) e))
          (listed-small (less_one rs) e small) places.small places.differ (both_every _ _ _ _ xs root places.small places.not_zero roots)

      zero_at : (l : ℕ) → l < e → less_one rs l ≡ 0
      zero_at l h = every-listed (less_one rs) e l zeros h

      later : (l : ℕ) → 0 < l → l < e → get_or r l 0 ≡ 0
      later zero h g = absurd (omega arith)
      later (suc l) h g = zero_at (suc l) g

  -- ---- a coefficient in front of zeros
  pub zeros_small : (k : ℕ) → get_or {A = ℕ} (replicate 17 0) k 0 < 2 ^ m
  zeros_small k = subst (λ (x : ℕ). x < 2 ^ m) (sym (zeros 17 k)) (omega (arith, p.wide))

  pub unit_above : (a k : ℕ) → 1 ≤ k → get_or {A = ℕ} (a ∷ replicate 16 0) k 0 ≡ 0
  unit_above a zero h = absurd (omega arith)
  unit_above a (suc k) h = zeros 16 k

  pub unit_small : (a k : ℕ) → a < 2 ^ m → get_or {A = ℕ} (a ∷ replicate 16 0) k 0 < 2 ^ m
  unit_small a zero h = h
  unit_small a (suc k) h = subst (λ (x : ℕ). x < 2 ^ m) (sym (zeros 16 k)) (omega (arith, p.wide))

  pub value-unit : (x : ℕ) → value_17 m f (1 ∷ replicate 16 0) x ≡ power m f x (2 ^ 0 - 1)
  value-unit x =
      value-first (replicate 17 0) (1 ∷ replicate 16 0) 1 x refl (λ i ne. unit_above 1 i (omega arith) ∙ sym (zeros 17 i))
      ∙ ap (bit_xor 1) (value-zeros (replicate 17 0) x (zeros 17)) ∙ power_begins x

  pub every_as : (P Q : ℕ → Type 0) (xs : List ℕ) → ((x : ℕ) → P x → Q x) → Every P xs → Every Q xs
  every_as P Q [] h e = tt
  every_as P Q (x ∷ xs) h e = (h x e.0, every_as P Q xs h e.1)
