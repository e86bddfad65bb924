use Rattle.std.proofs.Common.{◌≡◌, ◌≢◌, ℕ, zero, suc, ◌+◌, ◌^◌, ◌<◌, ◌≤◌, List, [], ◌∷◌, length, get_or, set, refl, sym, ap, ap₂, ◌∙◌, subst, arith, inl, inr, get_or-set_same, get_or-set_other}
use Rattle.std.proofs.lemmas.Bool.{cases_eq}
use Rattle.code_model.specs.Binary.{times}
use Rattle.code_model.specs.Poly.{Every, rows_of}
use Rattle.code_model.proofs.BinaryLemmas.{times-zero}
use Rattle.code_model.proofs.Elimination.{AreMonicFrom, IsEchelon, zero_from_echelon}
use Rattle.bch_solver.specs.Rows.{AllBelow, Holds, HasMonic, IsTable, SolvesKey}
use Rattle.code_model.specs.Binary.{IsPrimitive}
use Rattle.code_model.proofs.Instances.{domain_from_primitive}

-- the coefficients in a row
abbrev pub row_polynomial : List ℕ → ℕ → ℕ
row_polynomial row l = get_or row (16 + l) 0

-- the polynomials of n rows, from the k-th on
polys : List (List ℕ) → ℕ → ℕ → List (ℕ → ℕ)
polys rows k zero = []
polys rows k (suc n) = row_polynomial (get_or rows k []) ∷ polys rows (suc k) n

length-polys : (rows : List (List ℕ)) (k n : ℕ) → length (polys rows k n) ≡ n
unfolding polys
length-polys rows k zero = refl
length-polys rows k (suc n) = ap suc (length-polys rows (suc k) n)

one_not_zero : suc zero ≢ zero
one_not_zero e = omega arith

module _ (m f : ℕ) (p : IsPrimitive m f) (s : ℕ → ℕ) (rows : List (List ℕ)) (pivots inverses : List ℕ) (e count : ℕ) (room : count < 17) (table : IsTable m f rows pivots inverses e)
    (in_range : (k : ℕ) → k < e → get_or pivots k 0 < count) (holds : (k : ℕ) → k < e → Holds m f s 16 (get_or rows k [])) where
  are_monic : (k n : ℕ) → k + n ≤ e → AreMonicFrom (2 ^ m) (times m f) (domain_from_primitive m f p) k (polys rows k n)
  unfolding polys
  are_monic k zero h = tt
  are_monic k (suc n) h = (table.monic k (omega arith), are_monic (suc k) n (omega arith))

  later_zero : (k l n : ℕ) → k < l → l + n ≤ e → Every (λ w. w (get_or pivots k 0) ≡ 0) (rows_of (times m f) s 17 (polys rows l n))
  unfolding polys rows_of
  later_zero k l zero h g = tt
  later_zero k l (suc n) h g =
      let place = in_range k (omega arith) in
      (sym (holds l (omega arith) (get_or pivots k 0) (omega arith)) ∙ table.echelon k l h (omega arith), later_zero k (suc l) n (omega arith) (omega arith))

  is_echelon : (k n : ℕ) → k + n ≤ e → IsEchelon (2 ^ m) (times m f) (domain_from_primitive m f p) count (rows_of (times m f) s 17 (polys rows k n))
  unfolding polys rows_of
  is_echelon k zero h = tt
  is_echelon k (suc n) h =
      let p = get_or pivots k 0 in
      let place = in_range k (omega arith) in
      let same = holds k (omega arith) p (omega arith) in
      let row = get_or rows k [] in (
        (
          p,
          place,
          (λ z. one_not_zero (sym (table.inverts k (omega arith)) ∙ ap (times m f (get_or inverses k 0)) (same ∙ z) ∙ times-zero m f (get_or inverses k 0))),
          subst (λ (x : ℕ). x < 2 ^ m) same (table.small k (omega arith) p),
          later_zero k (suc k) n (omega arith) (omega arith),
        ),
        is_echelon (suc k) n (omega arith),
      )

  -- a table of e rows leaves no solution of a degree below e
  pub no_solution : (d : ℕ) (c : ℕ → ℕ) → d < e → SolvesKey m f s count d c → ⊥
  no_solution d c h sol =
      let len = length-polys rows 0 e in
      one_not_zero (sym sol.lead
      ∙ zero_from_echelon (2 ^ m) (times m f) (domain_from_primitive m f p) s 17 count (polys rows 0 e) c (omega (arith, p.wide)) (are_monic 0 e (omega arith)) (is_echelon 0 e (omega arith))
      sol.small (λ l g. sol.above l (omega arith)) sol.rows d)

-- ---- one more row
pub after_set : {A : Type 0} (P : ℕ → A → Type 0) (xs : List A) (n : ℕ) (v d : A) → n < length xs → ((k : ℕ) → k < n → P k (get_or xs k d)) → P n v → (k : ℕ) → k < n + 1 → P k (get_or (set xs n v) k d)
after_set P xs n v d room before here k h = elim (cases_eq k n) [
  | inl e ↦ subst (λ j. P j (get_or (set xs n v) j d)) (sym e) (subst (P n) (sym (get_or-set_same xs n v d room)) here)
  | inr ne ↦ subst (P k) (sym (get_or-set_other xs n k v d ne)) (before k (omega arith))
]

pub table_more : (m f : ℕ) (rows : List (List ℕ)) (pivots inverses : List ℕ) (n : ℕ) (row : List ℕ) (p i : ℕ) → n < length rows → n < length pivots → n < length inverses
    → IsTable m f rows pivots inverses n → p < 16 → AllBelow (2 ^ m) row → i < 2 ^ m → times m f i (get_or row p 0) ≡ 1 → HasMonic n row
    → ((k : ℕ) → k < n → get_or row (get_or pivots k 0) 0 ≡ 0) → IsTable m f (set rows n row) (set pivots n p) (set inverses n i) (n + 1)
table_more m f rows pivots inverses n row p i lr lp li t p_lt small i_lt inverts monic gone = record {
  within = after_set (λ k x. x < 16) pivots n p 0 lp t.within p_lt;
  small = after_set (λ k x. AllBelow (2 ^ m) x) rows n row [] lr t.small small;
  small_inverse = after_set (λ k x. x < 2 ^ m) inverses n i 0 li t.small_inverse i_lt;
  inverts = λ k h. elim (cases_eq k n) [
    | inl e ↦ same_inverts k e
    | inr ne ↦
        ap₂ (times m f) (get_or-set_other inverses n k i 0 ne) (ap₂ (λ r x. get_or r x 0) (get_or-set_other rows n k row [] ne) (get_or-set_other pivots n k p 0 ne))
        ∙ t.inverts k (omega arith)
  ];
  monic = after_set (λ k x. HasMonic k x) rows n row [] lr t.monic monic;
  echelon = λ k l h g.
      let nk : k ≢ n = omega arith in
      let ek = get_or-set_other pivots n k p 0 nk in
      elim (cases_eq l n) [
        | inl e ↦ ap₂ (λ r x. get_or r x 0) (ap (λ j. get_or (set rows n row) j []) e ∙ get_or-set_same rows n row [] lr) ek ∙ gone k (omega arith)
        | inr ne ↦ ap₂ (λ r x. get_or r x 0) (get_or-set_other rows n l row [] ne) ek ∙ t.echelon k l h (omega arith)
      ];
}
  where
    same_inverts : (k : ℕ) → k ≡ n → times m f (get_or (set inverses n i) k 0) (get_or (get_or (set rows n row) k []) (get_or (set pivots n p) k 0) 0) ≡ 1
    same_inverts k e =
        ap₂ (times m f) (ap (λ j. get_or (set inverses n i) j 0) e ∙ get_or-set_same inverses n i 0 li)
        (ap₂ (λ r x. get_or r x 0) (ap (λ j. get_or (set rows n row) j []) e ∙ get_or-set_same rows n row [] lr) (ap (λ j. get_or (set pivots n p) j 0) e ∙ get_or-set_same pivots n p 0 lp))
        ∙ inverts
