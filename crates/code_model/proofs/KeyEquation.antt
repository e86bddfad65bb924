use Rattle.std.proofs.Common.{◌≡◌, ◌≢◌, ℕ, zero, suc, ◌+◌, ◌<◌, ◌≤◌, ◌⊎◌, List, [], ◌∷◌, length, get_or, refl, sym, ap, ap₂, ◌∙◌, arith, inl, inr}
use Rattle.std.specs.Prelude.{bit_xor}
use Rattle.std.proofs.lemmas.Bool.{cases_eq, cases_lt}
use Rattle.code_model.specs.Poly.{IsDomain, Every, AllDiffer, value, moment, convolved, with_root, with_root_from, weighted, locator, against}
use Rattle.code_model.proofs.PolyLemmas.{zero_moments, zeros_from_roots, convolved-moments, locator-roots, length-locator, value-lt, Apart, moment-zeros}

-- a list of coefficients as a function of the degree
abbrev pub coefficient : List ℕ → ℕ → ℕ
coefficient cs l = get_or cs l 0

-- places of errors as terms with the factor 1
unfoldable pub errors : List ℕ → List (ℕ × ℕ)
errors [] = []
errors (x ∷ xs) = (1, x) ∷ errors xs

-- a list is a polynomial of degree e with the leading coefficient 1
pub record IsMonic (c : ℕ → ℕ) (e : ℕ) : Type 0 where
  pub lead : c e ≡ 1
  pub above : (l : ℕ) → e < l → c l ≡ 0

length-errors : (xs : List ℕ) → length (errors xs) ≡ length xs
unfolding errors
length-errors [] = refl
length-errors (x ∷ xs) = ap suc (length-errors xs)

apart_from : (x : ℕ) (xs : List ℕ) → Every (λ y. y ≢ x) xs → Every (λ u. u.1 ≢ x) (errors xs)
unfolding errors
apart_from x [] s = tt
apart_from x (y ∷ xs) s = (s.0, apart_from x xs s.1)

-- places are below size, not 0, and differ
pub record ArePlaces (size : ℕ) (xs : List ℕ) : Type 0 where
  pub small : Every (λ x. x < size) xs
  pub not_zero : Every (λ x. x ≢ 0) xs
  pub differ : AllDiffer xs

module _ (size : ℕ) (mul : ℕ → ℕ → ℕ) (d : IsDomain size mul) (big : 1 < size) where
  against-none : (s : ℕ → ℕ) (n j : ℕ) → against mul s n (coefficient []) j ≡ 0
  unfolding against
  against-none s zero j = refl
  against-none s (suc n) j = ap₂ bit_xor (d.mul_comm 0 (s j) ∙ d.mul_zero (s j)) (against-none s n (suc j))

  pub against-list : (s : ℕ → ℕ) (n : ℕ) (cs : List ℕ) (j : ℕ) → length cs ≤ n → against mul s n (coefficient cs) j ≡ convolved mul s cs j
  unfolding against convolved
  against-list s n [] j h = against-none s n j
  against-list s zero (c ∷ cs) j h = absurd (omega arith)
  against-list s (suc n) (c ∷ cs) j h = ap (bit_xor (mul c (s j))) (against-list s n cs (suc j) (omega arith))

  pub against-agree : (s r : ℕ → ℕ) (n : ℕ) (c : ℕ → ℕ) (j : ℕ) → ((i : ℕ) → j ≤ i → i < j + n → s i ≡ r i) → against mul s n c j ≡ against mul r n c j
  unfolding against
  against-agree s r zero c j h = refl
  against-agree s r (suc n) c j h =
      ap₂ bit_xor (ap (mul (c 0)) (h j (omega arith) (omega arith)))
      (against-agree s r n (λ i. c (suc i)) (suc j) (λ i a b. h i (omega arith) (omega arith)))

  weighted-small : (cs xs : List ℕ) → Every (λ x. x < size) xs → Every (λ t. (t.0 < size) × (t.1 < size)) (weighted mul cs (errors xs))
  unfolding errors weighted
  weighted-small cs [] s = tt
  weighted-small cs (x ∷ xs) s = ((d.mul_lt _ _, s.0), weighted-small cs xs s.1)

  weighted-apart_from : (x : ℕ) (cs xs : List ℕ) → Every (λ y. y ≢ x) xs → Every (λ u. u.1 ≢ x) (weighted mul cs (errors xs))
  unfolding errors weighted
  weighted-apart_from x cs [] s = tt
  weighted-apart_from x cs (y ∷ xs) s = (s.0, weighted-apart_from x cs xs s.1)

  weighted-apart : (cs xs : List ℕ) → AllDiffer xs → Apart size mul d (weighted mul cs (errors xs))
  unfolding errors weighted
  weighted-apart cs [] s = tt
  weighted-apart cs (x ∷ xs) s = (weighted-apart_from x cs xs s.0, weighted-apart cs xs s.1)

  length-weighted : (cs xs : List ℕ) → length (weighted mul cs (errors xs)) ≡ length xs
  unfolding errors weighted
  length-weighted cs [] = refl
  length-weighted cs (x ∷ xs) = ap suc (length-weighted cs xs)

  roots_from_weighted : (cs xs : List ℕ) → Every (λ c. c < size) cs → Every (λ u. u.0 ≡ 0) (weighted mul cs (errors xs)) → Every (λ x. value mul cs x ≡ 0) xs
  unfolding errors weighted
  roots_from_weighted cs [] s z = tt
  roots_from_weighted cs (x ∷ xs) s z =
      (sym (d.mul_one (value mul cs x) (value-lt size mul d cs x s (omega arith))) ∙ z.0, roots_from_weighted cs xs s z.1)

  weighted_from_roots : (cs xs : List ℕ) → Every (λ x. value mul cs x ≡ 0) xs → Every (λ u. u.0 ≡ 0) (weighted mul cs (errors xs))
  unfolding errors weighted
  weighted_from_roots cs [] z = tt
  weighted_from_roots cs (x ∷ xs) z = (ap (λ v. mul v 1) z.0 ∙ d.mul_comm 0 1 ∙ d.mul_zero 1, weighted_from_roots cs xs z.1)

  -- every solution of the key equation is 0 at the places of the errors
  pub roots_from_solution : (xs cs : List ℕ) (t : ℕ) → ArePlaces size xs → length xs ≤ t → Every (λ c. c < size) cs → ((j : ℕ) → j < t → convolved mul (moment mul (errors xs)) cs (suc j) ≡ 0) → Every (λ x. value mul cs x ≡ 0) xs
  roots_from_solution xs cs t p h s z =
      let len = length-weighted cs xs in
      roots_from_weighted cs xs s
      (zero_moments size mul d (weighted mul cs (errors xs)) 1 (weighted-small cs xs p.small) (weighted-apart_from 0 cs xs p.not_zero) (weighted-apart cs xs p.differ)
      (λ i l. let e : 1 + i ≡ suc i = omega arith in
      ap (moment mul (weighted mul cs (errors xs))) e ∙ sym (convolved-moments size mul d (errors xs) cs (suc i)) ∙ z i (omega arith)))

  -- the locator solves the key equation
  pub locator-solves : (xs : List ℕ) (j : ℕ) → convolved mul (moment mul (errors xs)) (locator mul xs) j ≡ 0
  locator-solves xs j =
      convolved-moments size mul d (errors xs) (locator mul xs) j
      ∙ moment-zeros size mul d (weighted mul (locator mul xs) (errors xs)) j (weighted_from_roots (locator mul xs) xs (locator-roots size mul d xs))

  -- a monic polynomial of degree e has at most e roots
  pub roots-le : (e : ℕ) (cs ys : List ℕ) → length cs ≡ suc e → coefficient cs e ≡ 1 → Every (λ c. c < size) cs → Every (λ x. x < size) ys → AllDiffer ys → Every (λ x. value mul cs x ≡ 0) ys → length ys ≤ e
  roots-le e cs ys len lead s k n r = elim (cases_lt e (length ys)) [
    | inl h ↦ absurd (one_not_zero (sym lead ∙ zero_at cs e (zeros_from_roots size mul d ys cs (omega arith) (omega arith) s k n r)))
    | inr h ↦ h
  ]
    where
      one_not_zero : suc zero ≢ zero
      one_not_zero q = omega arith

      zero_at : (cs : List ℕ) (l : ℕ) → Every (λ c. c ≡ 0) cs → coefficient cs l ≡ 0
      zero_at [] l z = refl
      zero_at (c ∷ cs) zero z = z.0
      zero_at (c ∷ cs) (suc l) z = zero_at cs l z.1

  -- ---- the solution of least degree
  abbrev pub Has : ℕ → List ℕ → Type 0
  Has y [] = ⊥
  Has y (x ∷ xs) = (y ≡ x) ⊎ Has y xs

  has_or_not : (y : ℕ) (xs : List ℕ) → Has y xs ⊎ Every (λ x. x ≢ y) xs
  has_or_not y [] = inr tt
  has_or_not y (x ∷ xs) = elim (cases_eq y x) [
    | inl e ↦ inl (inl e)
    | inr ne ↦ elim (has_or_not y xs) [ inl h ↦ inl (inr h) | inr n ↦ inr ((λ q. ne (sym q)), n) ]
  ]

  with_root_from-lead : (a low : ℕ) (cs : List ℕ) (n : ℕ) → length cs ≡ suc n → coefficient (with_root_from mul a low cs) (suc n) ≡ coefficient cs n
  unfolding with_root_from
  with_root_from-lead a low [] n h = cc
  with_root_from-lead a low (c ∷ []) zero h = refl
  with_root_from-lead a low (c ∷ []) (suc n) h = absurd (omega arith)
  with_root_from-lead a low (c ∷ e ∷ cs) zero h = absurd (omega arith)
  with_root_from-lead a low (c ∷ e ∷ cs) (suc n) h = with_root_from-lead a c (e ∷ cs) n (omega arith)

  pub locator-lead : (xs : List ℕ) → coefficient (locator mul xs) (length xs) ≡ 1
  unfolding locator with_root
  locator-lead [] = refl
  locator-lead (x ∷ xs) = with_root_from-lead x 0 (locator mul xs) (length xs) (length-locator size mul d xs) ∙ locator-lead xs

  with_root_from-small : (a low : ℕ) (cs : List ℕ) → low < size → Every (λ c. c < size) cs → Every (λ c. c < size) (with_root_from mul a low cs)
  unfolding with_root_from
  with_root_from-small a low [] h s = (h, tt)
  with_root_from-small a low (c ∷ cs) h s = (d.sum_lt low _ h (d.mul_lt a c), with_root_from-small a c cs s.0 s.1)

  pub locator-small : (xs : List ℕ) → Every (λ c. c < size) (locator mul xs)
  unfolding locator with_root
  locator-small [] = (big, tt)
  locator-small (x ∷ xs) = with_root_from-small x 0 (locator mul xs) (omega arith) (locator-small xs)

  -- cs is a monic solution of degree e of the key equation with t rows
  pub record Solves (s : ℕ → ℕ) (t e : ℕ) (cs : List ℕ) : Type 0 where
    pub len : length cs ≡ suc e
    pub lead : coefficient cs e ≡ 1
    pub small : Every (λ c. c < size) cs
    pub rows : (j : ℕ) → j < t → convolved mul s cs (suc j) ≡ 0

  -- the monic solution of least degree has just the places of the errors as roots
  pub least_solution : (xs cs : List ℕ) (t e : ℕ) → ArePlaces size xs → length xs ≤ t → Solves (moment mul (errors xs)) t e cs
      → ((e' : ℕ) (cs' : List ℕ) → e' < e → Solves (moment mul (errors xs)) t e' cs' → ⊥)
      → (e ≡ length xs) × Every (λ x. value mul cs x ≡ 0) xs × ((y : ℕ) → y < size → value mul cs y ≡ 0 → Has y xs)
  least_solution xs cs t e p h sol least =
      let roots = roots_from_solution xs cs t p h sol.small sol.rows in
      let at_most = roots-le e cs xs sol.len sol.lead sol.small p.small p.differ roots in
      let w = length xs in
      let at_least : e ≤ w = elim (cases_lt w e) [
        | inl l ↦ absurd (least w (locator mul xs) l (record {
          len = length-locator size mul d xs;
          lead = locator-lead xs;
          small = locator-small xs;
          rows = λ j _. locator-solves xs (suc j);
        }))
        | inr l ↦ l
      ] in (
        omega arith,
        roots,
        λ y y_lt r. elim (has_or_not y xs) [
          | inl here ↦ here
          | inr off ↦ absurd (let more = roots-le e cs (y ∷ xs) sol.len sol.lead sol.small (y_lt, p.small) (off, p.differ) (r, roots) in omega arith)
        ],
      )

  -- ---- the bound: w neighbouring moments of at most w places are 0 only where there is none
  errors-small : (xs : List ℕ) → Every (λ x. x < size) xs → Every (λ t. (t.0 < size) × (t.1 < size)) (errors xs)
  unfolding errors
  errors-small [] s = tt
  errors-small (x ∷ xs) s = ((big, s.0), errors-small xs s.1)

  errors-apart : (xs : List ℕ) → AllDiffer xs → Apart size mul d (errors xs)
  unfolding errors
  errors-apart [] s = tt
  errors-apart (x ∷ xs) s = (apart_from x xs s.0, errors-apart xs s.1)

  no_zeros : (xs : List ℕ) → Every (λ u. u.0 ≡ 0) (errors xs) → length xs ≡ 0
  unfolding errors
  no_zeros [] z = refl
  no_zeros (x ∷ xs) z = absurd (not_zero z.0)
    where
      not_zero : suc zero ≢ zero
      not_zero q = omega arith

  pub none_from_moments : (xs : List ℕ) (w : ℕ) → ArePlaces size xs → length xs ≤ w → ((j : ℕ) → 0 < j → j ≤ w → moment mul (errors xs) j ≡ 0) → length xs ≡ 0
  none_from_moments xs w p h z =
      let len = length-errors xs in
      no_zeros xs (zero_moments size mul d (errors xs) 1 (errors-small xs p.small) (apart_from 0 xs p.not_zero) (errors-apart xs p.differ)
      (λ i l. z (1 + i) (omega arith) (omega arith)))
