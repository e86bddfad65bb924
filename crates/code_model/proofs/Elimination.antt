use Rattle.std.proofs.Common.{◌≡◌, ◌≢◌, ℕ, zero, suc, ◌+◌, ◌<◌, ◌≤◌, List, [], ◌∷◌, length, refl, sym, ap, ap₂, ◌∙◌, subst, arith, inl, inr}
use Rattle.std.specs.Prelude.{bit_xor}
use Rattle.std.proofs.lemmas.Bool.{cases_eq, cases_lt}
use lib.Bits.{xor_assoc, xor_self, xor_zero_r}
use Rattle.code_model.specs.Poly.{IsDomain, Every, combined, against, rows_of}
use Rattle.code_model.proofs.BitsLemmas.{xor_swap}

-- A vector is a function of the place, and a polynomial one of the degree.
module _ (size : ℕ) (mul : ℕ → ℕ → ℕ) (d : IsDomain size mul) where
  -- each vector has a place where it is not 0 and those after it are
  abbrev pub IsEchelon : ℕ → List (ℕ → ℕ) → Type 0
  IsEchelon rows [] = Unit {0}
  IsEchelon rows (v ∷ vs) = ((p : ℕ) × (p < rows) × (v p ≢ 0) × (v p < size) × Every (λ w. w p ≡ 0) vs) × IsEchelon rows vs

  combined-zero : (ks : List ℕ) (vs : List (ℕ → ℕ)) (p : ℕ) → Every (λ w. w p ≡ 0) vs → combined mul ks vs p ≡ 0
  unfolding combined
  combined-zero [] vs p z = refl
  combined-zero (k ∷ ks) [] p z = refl
  combined-zero (k ∷ ks) (v ∷ vs) p z = ap₂ bit_xor (ap (mul k) z.0 ∙ d.mul_zero k) (combined-zero ks vs p z.1)

  -- vectors in echelon form are independent
  zeros_from_combined : (rows : ℕ) (ks : List ℕ) (vs : List (ℕ → ℕ)) → Every (λ k. k < size) ks → length ks ≡ length vs → IsEchelon rows vs → ((j : ℕ) → j < rows → combined mul ks vs j ≡ 0) → Every (λ k. k ≡ 0) ks
  unfolding combined
  zeros_from_combined rows [] vs s e i z = tt
  zeros_from_combined rows (k ∷ ks) [] s e i z = cc
  zeros_from_combined rows (k ∷ ks) (v ∷ vs) s e i z =
      let p = i.0.0 in
      let here : mul k (v p) ≡ 0 = (sym (xor_zero_r (mul k (v p))) ∙ ap (bit_xor (mul k (v p))) (sym (combined-zero ks vs p i.0.4)) ∙ z p i.0.1) in
      let k0 : k ≡ 0 = d.mul_cancel (v p) k i.0.3 s.0 i.0.2 (d.mul_comm (v p) k ∙ here) in
      let none : (j : ℕ) → mul k (v j) ≡ 0 = (λ j. ap (λ x. mul x (v j)) k0 ∙ d.mul_comm 0 (v j) ∙ d.mul_zero (v j)) in
      let gone : (j : ℕ) → j < rows → combined mul ks vs j ≡ 0 = (λ j h. sym (ap (λ x. bit_xor x (combined mul ks vs j)) (none j)) ∙ z j h) in
      (k0, zeros_from_combined rows ks vs s.1 (omega arith) i.1 gone)

  -- polynomials of neighbouring degrees, from a on, each with the leading coefficient 1
  abbrev pub AreMonicFrom : ℕ → List (ℕ → ℕ) → Type 0
  AreMonicFrom a [] = Unit {0}
  AreMonicFrom a (u ∷ us) = ((u a ≡ 1) × ((l : ℕ) → a < l → u l ≡ 0)) × AreMonicFrom (suc a) us

  combined-lt : (ks : List ℕ) (us : List (ℕ → ℕ)) (l : ℕ) → 0 < size → combined mul ks us l < size
  unfolding combined
  combined-lt [] us l h = h
  combined-lt (k ∷ ks) [] l h = h
  combined-lt (k ∷ ks) (u ∷ us) l h = d.sum_lt _ _ (d.mul_lt k (u l)) (combined-lt ks us l h)

  combined-above : (a : ℕ) (ks : List ℕ) (us : List (ℕ → ℕ)) (l : ℕ) → AreMonicFrom a us → a + length us ≤ l → combined mul ks us l ≡ 0
  unfolding combined
  combined-above a [] us l m h = refl
  combined-above a (k ∷ ks) [] l m h = refl
  combined-above a (k ∷ ks) (u ∷ us) l m h =
      ap₂ bit_xor (ap (mul k) (m.0.1 l (omega arith)) ∙ d.mul_zero k) (combined-above (suc a) ks us l m.1 (omega arith))

  -- each polynomial is a sum of them, from the degree a up
  expansion : (a : ℕ) (us : List (ℕ → ℕ)) (c : ℕ → ℕ) → 0 < size → AreMonicFrom a us → ((l : ℕ) → c l < size)
      → (ks : List ℕ) × Every (λ k. k < size) ks × (length ks ≡ length us) × ((l : ℕ) → a ≤ l → l < a + length us → combined mul ks us l ≡ c l)
  unfolding combined
  expansion a [] c o m s = ([], tt, refl, λ l h k. absurd (omega arith))
  expansion a (u ∷ us) c o m s =
      let r = expansion (suc a) us c o m.1 s in
      let k = bit_xor (c a) (combined mul r.0 us a) in
      let k_lt : k < size = d.sum_lt (c a) (combined mul r.0 us a) (s a) (combined-lt r.0 us a o) in
      let here : bit_xor (mul k (u a)) (combined mul r.0 us a) ≡ c a =
      (ap (λ x. bit_xor x (combined mul r.0 us a)) (ap (mul k) m.0.0 ∙ d.mul_one k k_lt)
      ∙ xor_assoc (c a) (combined mul r.0 us a) (combined mul r.0 us a) ∙ ap (bit_xor (c a)) (xor_self (combined mul r.0 us a)) ∙ xor_zero_r (c a)) in (
        k ∷ r.0,
        (k_lt, r.1),
        ap suc r.2,
        λ l h b. elim (cases_eq l a) [
          | inl e ↦ subst (λ (x : ℕ). bit_xor (mul k (u x)) (combined mul r.0 us x) ≡ c x) (sym e) here
          | inr ne ↦ ap₂ bit_xor (ap (mul k) (m.0.1 l (omega arith)) ∙ d.mul_zero k) (r.3 l (omega arith) (omega arith))
        ],
      )

  mul-xor_left : (a b c : ℕ) → mul (bit_xor a b) c ≡ bit_xor (mul a c) (mul b c)
  mul-xor_left a b c = d.mul_comm _ c ∙ d.mul_xor c a b ∙ ap₂ bit_xor (d.mul_comm c a) (d.mul_comm c b)

  pub against-sum : (s : ℕ → ℕ) (n k : ℕ) (c e : ℕ → ℕ) (j : ℕ) → against mul s n (λ i. bit_xor (mul k (c i)) (e i)) j ≡ bit_xor (mul k (against mul s n c j)) (against mul s n e j)
  unfolding against
  against-sum s zero k c e j = sym (xor_zero_r _) ∙ ap (λ x. bit_xor x 0) (sym (d.mul_zero k))
  against-sum s (suc n) k c e j =
      let rc = against mul s n (λ i. c (suc i)) (suc j) in
      let re = against mul s n (λ i. e (suc i)) (suc j) in
      ap₂ bit_xor (mul-xor_left (mul k (c 0)) (e 0) (s j) ∙ ap (λ x. bit_xor x (mul (e 0) (s j))) (d.mul_assoc k (c 0) (s j)))
      (against-sum s n k (λ i. c (suc i)) (λ i. e (suc i)) (suc j))
      ∙ xor_swap (mul k (mul (c 0) (s j))) (mul (e 0) (s j)) (mul k rc) re
      ∙ ap (λ x. bit_xor x (bit_xor (mul (e 0) (s j)) re)) (sym (d.mul_xor k (mul (c 0) (s j)) rc))

  against-zero : (s : ℕ → ℕ) (n j : ℕ) → against mul s n (λ i. 0) j ≡ 0
  unfolding against
  against-zero s zero j = refl
  against-zero s (suc n) j = ap₂ bit_xor (d.mul_comm 0 (s j) ∙ d.mul_zero (s j)) (against-zero s n (suc j))

  against-combined : (s : ℕ → ℕ) (n : ℕ) (ks : List ℕ) (us : List (ℕ → ℕ)) (j : ℕ) → combined mul ks (rows_of mul s n us) j ≡ against mul s n (combined mul ks us) (suc j)
  unfolding combined rows_of
  against-combined s n [] us j = sym (against-zero s n (suc j))
  against-combined s n (k ∷ ks) [] j = sym (against-zero s n (suc j))
  against-combined s n (k ∷ ks) (u ∷ us) j =
      ap (bit_xor (mul k (against mul s n u (suc j)))) (against-combined s n ks us j) ∙ sym (against-sum s n k u (combined mul ks us) (suc j))

  pub against-same : (s : ℕ → ℕ) (n : ℕ) (c e : ℕ → ℕ) (j : ℕ) → ((i : ℕ) → c i ≡ e i) → against mul s n c j ≡ against mul s n e j
  unfolding against
  against-same s zero c e j h = refl
  against-same s (suc n) c e j h =
      ap₂ bit_xor (ap (λ x. mul x (s j)) (h 0)) (against-same s n (λ i. c (suc i)) (λ i. e (suc i)) (suc j) (λ i. h (suc i)))

  length-rows_of : (s : ℕ → ℕ) (n : ℕ) (us : List (ℕ → ℕ)) → length (rows_of mul s n us) ≡ length us
  unfolding rows_of
  length-rows_of s n [] = refl
  length-rows_of s n (u ∷ us) = ap suc (length-rows_of s n us)

  combined_zeros : (ks : List ℕ) (us : List (ℕ → ℕ)) (l : ℕ) → Every (λ k. k ≡ 0) ks → combined mul ks us l ≡ 0
  unfolding combined
  combined_zeros [] us l z = refl
  combined_zeros (k ∷ ks) [] l z = refl
  combined_zeros (k ∷ ks) (u ∷ us) l z = ap₂ bit_xor (ap (λ x. mul x (u l)) z.0 ∙ d.mul_comm 0 (u l) ∙ d.mul_zero (u l)) (combined_zeros ks us l z.1)

  -- where the rows of monic polynomials of degrees 0 to w - 1 are in echelon form, only 0 of degree
  -- below w has the row 0
  pub zero_from_echelon : (s : ℕ → ℕ) (n rows : ℕ) (us : List (ℕ → ℕ)) (c : ℕ → ℕ) → 0 < size → AreMonicFrom 0 us → IsEchelon rows (rows_of mul s n us)
      → ((l : ℕ) → c l < size) → ((l : ℕ) → length us ≤ l → c l ≡ 0) → ((j : ℕ) → j < rows → against mul s n c (suc j) ≡ 0) → (l : ℕ) → c l ≡ 0
  zero_from_echelon s n rows us c o m i s_lt above z l =
      sym (same l) ∙ combined_zeros r.0 us l zeros
    where
      r : (ks : List ℕ) × Every (λ k. k < size) ks × (length ks ≡ length us) × ((l : ℕ) → 0 ≤ l → l < 0 + length us → combined mul ks us l ≡ c l)
      r = expansion 0 us c o m s_lt

      same : (l : ℕ) → combined mul r.0 us l ≡ c l
      same l = elim (cases_lt l (length us)) [
        | inl h ↦ r.3 l (omega arith) (omega arith)
        | inr h ↦ combined-above 0 r.0 us l m (omega arith) ∙ sym (above l h)
      ]

      zeros : Every (λ k. k ≡ 0) r.0
      zeros = zeros_from_combined rows r.0 (rows_of mul s n us) r.1 (r.2 ∙ sym (length-rows_of s n us)) i
          (λ j h. against-combined s n r.0 us j ∙ against-same s n (combined mul r.0 us) c (suc j) same ∙ z j h)
