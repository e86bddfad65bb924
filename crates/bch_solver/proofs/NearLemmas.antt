use Rattle.std.proofs.Common.{◌≡◌, ◌≢◌, ℕ, zero, suc, ◌+◌, ◌-◌, ◌^◌, ◌<◌, ◌≤◌, List, [], ◌∷◌, length, get_or, refl, sym, ap, ◌∙◌, subst, arith, inl, inr, true, false, Bool, cond, lit<}
use Rattle.std.specs.Prelude.{nat_eq}
use Rattle.std.proofs.lemmas.Bool.{cases_eq, cases_lt}
use Rattle.std.proofs.lemmas.Bool.Decides.{nat_tests}
use Rattle.std.proofs.lemmas.Grind.{same_number_lists}
use Rattle.code_model.specs.Binary.{times, power}
use Rattle.code_model.specs.Poly.{Every}
use Rattle.code_model.specs.Word.{AreBits, differences}
use Rattle.code_model.proofs.KeyEquation.{Has}
use Rattle.code_model.proofs.ValueLemmas.{places}
use Rattle.code_model.proofs.FieldLemmas.{powers_differ, power-lt}
use Rattle.code_model.specs.Bits.{bit_of, bits_from}
use Rattle.bch_solver.specs.Words.{TurnsAtZero}
use Rattle.bch_solver.proofs.RowLemmas.{one_below}
use Rattle.code_model.specs.Binary.{IsPrimitive}
use Rattle.code_model.proofs.Instances.{domain_from_primitive}

test_true : (x y : ℕ) → nat_eq x y ≡ true → x ≡ y
test_true x y q = grind (arith, nat_tests)

test_false : (x y : ℕ) → nat_eq x y ≡ false → x ≢ y
test_false x y q = grind (arith, nat_tests)

not_equal : (x y : ℕ) → x ≢ y → nat_eq x y ≡ false
not_equal x y q = search (arith, nat_tests)

-- the bits of bytes
pub length-bits_from : (bytes : List ℕ) (k n : ℕ) → length (bits_from bytes k n) ≡ n
unfolding bits_from
length-bits_from bytes k zero = refl
length-bits_from bytes k (suc n) = ap suc (length-bits_from bytes (suc k) n)

pub get_or-bits_from : (bytes : List ℕ) (k n i : ℕ) → i < n → get_or (bits_from bytes k n) i 0 ≡ bit_of bytes (k + i)
unfolding bits_from
get_or-bits_from bytes k zero i h = absurd (omega arith)
get_or-bits_from bytes k (suc n) zero h = let e : k ≡ k + 0 = omega arith in ap (bit_of bytes) e
get_or-bits_from bytes k (suc n) (suc i) h = let e : suc k + i ≡ k + suc i = omega arith in get_or-bits_from bytes (suc k) n i (omega arith) ∙ ap (bit_of bytes) e

bit_at_word : (c : List ℕ) (k : ℕ) → AreBits c → get_or c k 0 < 2
bit_at_word [] k s = lit< tt
bit_at_word (x ∷ c) zero s = s.0
bit_at_word (x ∷ c) (suc k) s = bit_at_word c k s.1

pub bits_from-bits : (bytes : List ℕ) (k n : ℕ) → AreBits (bits_from bytes k n)
unfolding bits_from
bits_from-bits bytes k zero = tt
bits_from-bits bytes k (suc n) = (omega arith, bits_from-bits bytes (suc k) n)

module _ (m f : ℕ) (p : IsPrimitive m f) where
  abbrev α : ℕ → ℕ
  α d = power m f 2 d

  abbrev InPlaces : ℕ → List ℕ → Type 0
  InPlaces y ks = Has (2 ^ m) (times m f) (domain_from_primitive m f p) (one_below m f p) y (places m f p ks)

  same_power : (i j : ℕ) → i < 2 ^ m - 1 → j < 2 ^ m - 1 → α i ≡ α j → i ≡ j
  same_power i j h k e = elim (cases_eq i j) [
    | inl q ↦ q
    | inr ne ↦ elim (cases_lt i j) [
      | inl l ↦ absurd (powers_differ m f p i j l k e)
      | inr g ↦ absurd (powers_differ m f p j i (omega arith) h (sym e))
    ]
  ]

  -- the polynomial is 0 at the degrees of differences, and so where two words differ
  abbrev pub ZeroAt : (ℕ → ℕ) → List ℕ → Type 0
  ZeroAt v ks = Every (λ x. v x ≡ 0) (places m f p ks)

  zero_tail : (v : ℕ → ℕ) (b : Bool) (k : ℕ) (ks : List ℕ) → ZeroAt v (cond b ks (k ∷ ks)) → ZeroAt v ks
  unfolding places
  zero_tail v true k ks z = z
  zero_tail v false k ks z = z.1

  zero_head : (v : ℕ → ℕ) (b : Bool) (k : ℕ) (ks : List ℕ) → b ≡ false → ZeroAt v (cond b ks (k ∷ ks)) → v (α k) ≡ 0
  unfolding places
  zero_head v true k ks q z = cc
  zero_head v false k ks q z = z.0

  pub zero_where_different : (v : ℕ → ℕ) (xs ys : List ℕ) (k : ℕ) → length xs ≡ length ys → ZeroAt v (differences xs ys) → k < length xs → get_or xs k 0 ≢ get_or ys k 0 → v (α (length xs - suc k)) ≡ 0
  unfolding differences
  zero_where_different v [] ys k e z h ne = absurd (omega arith)
  zero_where_different v (x ∷ xs) [] k e z h ne = absurd (omega arith)
  zero_where_different v (x ∷ xs) (y ∷ ys) zero e z h ne =
      let at : suc (length xs) - 1 ≡ length xs = omega arith in
      ap (λ d. v (α d)) at ∙ zero_head v (nat_eq x y) (length xs) (differences xs ys) (not_equal x y ne) z
  zero_where_different v (x ∷ xs) (y ∷ ys) (suc k) e z h ne =
      let at : suc (length xs) - suc (suc k) ≡ length xs - suc k = omega arith in
      ap (λ d. v (α d)) at ∙ zero_where_different v xs ys k (omega arith) (zero_tail v (nat_eq x y) (length xs) (differences xs ys) z) (omega arith) ne

  -- a degree among the differences is one where the words differ
  apart_tail : (d : ℕ) (xs ys : List ℕ) (x y : ℕ) → (d < length xs) × (get_or xs (length xs - suc d) 0 ≢ get_or ys (length xs - suc d) 0) → (d < suc (length xs)) × (get_or (x ∷ xs) (suc (length xs) - suc d) 0 ≢ get_or (y ∷ ys) (suc (length xs) - suc d) 0)
  apart_tail d xs ys x y q =
      let l = q.0 in
      let at : suc (length xs) - suc d ≡ suc (length xs - suc d) = omega arith in
      (omega arith, subst (λ (i : ℕ). get_or (x ∷ xs) i 0 ≢ get_or (y ∷ ys) i 0) (sym at) q.1)

  place_cases : (d : ℕ) (xs ys : List ℕ) (x y : ℕ) (b : Bool) → nat_eq x y ≡ b → d < 2 ^ m - 1 → length xs < 2 ^ m - 1
      → (InPlaces (α d) (differences xs ys) → (d < length xs) × (get_or xs (length xs - suc d) 0 ≢ get_or ys (length xs - suc d) 0))
      → InPlaces (α d) (cond b (differences xs ys) (length xs ∷ differences xs ys)) → (d < suc (length xs)) × (get_or (x ∷ xs) (suc (length xs) - suc d) 0 ≢ get_or (y ∷ ys) (suc (length xs) - suc d) 0)
  unfolding places
  place_cases d xs ys x y true q h g rest p = apart_tail d xs ys x y (rest p)
  place_cases d xs ys x y false q h g rest (inr p) = apart_tail d xs ys x y (rest p)
  place_cases d xs ys x y false q h g rest (inl p) =
      let e = same_power d (length xs) h g p in
      let at : suc (length xs) - suc d ≡ 0 = omega arith in
      (omega arith, subst (λ (i : ℕ). get_or (x ∷ xs) i 0 ≢ get_or (y ∷ ys) i 0) (sym at) (test_false x y q))

  pub different_from_place : (d : ℕ) (xs ys : List ℕ) → length xs ≡ length ys → d < 2 ^ m - 1 → length xs ≤ 2 ^ m - 1 → InPlaces (α d) (differences xs ys) → (d < length xs) × (get_or xs (length xs - suc d) 0 ≢ get_or ys (length xs - suc d) 0)
  unfolding differences places
  different_from_place d [] ys e h g p = elim p [ ]
  different_from_place d (x ∷ xs) [] e h g p = elim p [ ]
  different_from_place d (x ∷ xs) (y ∷ ys) e h g p =
      place_cases d xs ys x y (nat_eq x y) refl h (omega arith) (λ q. different_from_place d xs ys (omega arith) h (omega arith) q) p

  -- where v is 0 just where a word differs from c, turning over the bits at which v is 0 makes c of
  -- it
  pub corrected_is : (v : ℕ → ℕ) (xs ys c : List ℕ) (n : ℕ) → n ≤ 2 ^ m - 1 → length c ≡ n → AreBits c
      → ZeroAt v (differences (bits_from xs 0 n) c) → ((y : ℕ) → y < 2 ^ m → v y ≡ 0 → InPlaces y (differences (bits_from xs 0 n) c))
      → ((k : ℕ) → k < n → TurnsAtZero (v (α (n - suc k))) (bit_of xs k) (bit_of ys k)) → bits_from ys 0 n ≡ c
  corrected_is v xs ys c n room len bits zeros only turned =
      same_number_lists (bits_from ys 0 n) c (length-bits_from ys 0 n ∙ sym len) (λ k h. at k (subst (λ (i : ℕ). k < i) (length-bits_from ys 0 n) h))
    where
      w : List ℕ
      w = bits_from xs 0 n

      lw : length (bits_from xs 0 n) ≡ n
      lw = length-bits_from xs 0 n

      at : (k : ℕ) → k < n → get_or (bits_from ys 0 n) k 0 ≡ get_or c k 0
      at k h =
          let ex = get_or-bits_from xs 0 n k h in
          let ey = get_or-bits_from ys 0 n k h in
          let zero_add : 0 + k ≡ k = omega arith in
          let x = bit_of xs k in
          let wx : get_or (bits_from xs 0 n) k 0 ≡ x = ex ∙ ap (bit_of xs) zero_add in
          let wy : get_or (bits_from ys 0 n) k 0 ≡ bit_of ys k = ey ∙ ap (bit_of ys) zero_add in
          let b = bit_at_word c k bits in
          let b' : bit_of xs k < 2 = omega arith in
          elim (cases_eq (get_or (bits_from xs 0 n) k 0) (get_or c k 0)) [
            | inl e ↦ wy ∙ (turned k h).elsewhere (λ z.
                let d : ℕ = n - suc k in
                let q = different_from_place d (bits_from xs 0 n) c (lw ∙ sym len) (omega arith) (omega (arith, lw)) (only (α d) (power-lt m f p 2 d) z) in
                let back : length (bits_from xs 0 n) - suc d ≡ k = omega (arith, lw) in
                (subst (λ (i : ℕ). get_or (bits_from xs 0 n) i 0 ≢ get_or c i 0) back q.1) e) ∙ sym wx ∙ e
            | inr ne ↦
                (let at_n : length (bits_from xs 0 n) - suc k ≡ n - suc k = omega (arith, lw) in
                let z = zero_where_different v (bits_from xs 0 n) c k (lw ∙ sym len) zeros (omega (arith, lw)) ne in
                let t = (turned k h).at_zero (ap (λ d. v (α d)) (sym at_n) ∙ z) in
                omega arith)
          ]
