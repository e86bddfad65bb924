-- Flags of places, and numbers that are different.
use Rattle.std.proofs.Common.{◌≡◌, ℕ, zero, suc, ◌<◌, Bool, true, false, not, ◌||◌, eqb, ltb, List, [], ◌∷◌, ◌++◌, length, get_or, sym, ap, ◌∙◌, subst, refl, arith, append_assoc, ⊎_elim}
use Rattle.std.specs.Prelude.{slice_set}
use Rattle.std.specs.List.{list_all}
use Rattle.std.proofs.lemmas.List.{length-set, get_or-set_same, get_or-set_other}
use Rattle.std.proofs.lemmas.Bool.{cases_eq, eq-eqb, ne_eqb, eqb-true, ltb-true, or_parts, or_from, or_left, or_right, and_from, and_left, and_right, and_parts, not-true, not-false, not_from_true, not_from_false}
use Rattle.plan_grammar.specs.Devices.{has_number, are_different}
use Rattle.plan_index.specs.Places.{Tells, flag_at}

-- a number is among numbers with one more
pub has_number_push : (xs : List ℕ) (y k : ℕ) → has_number (xs ++ y ∷ []) k ≡ (has_number xs k || eqb y k)
has_number_push [] y k = elim (eqb y k) as (λ b. (b || false) ≡ (false || b)) [ true ↦ refl | false ↦ refl ]
has_number_push (x ∷ xs) y k =
    ap (λ b. eqb x k || b) (has_number_push xs y k) ∙ or_assoc (eqb x k) (has_number xs k) (eqb y k)
  where
    or_assoc : (a b c : Bool) → (a || (b || c)) ≡ ((a || b) || c)
    or_assoc true b c = refl
    or_assoc false b c = refl

-- numbers with a new one are different
pub different_push : (xs : List ℕ) (y : ℕ) → are_different xs ≡ true → has_number xs y ≡ false →
    are_different (xs ++ y ∷ []) ≡ true
different_push [] y d new = refl
different_push (x ∷ xs) y d new =
    let parts = and_parts (not (has_number xs x)) (are_different xs) d in
    let apart = or_parts (eqb x y) (has_number xs y) new in
    let other : eqb y x ≡ false = flipped y x apart.0 in
    let not_there : has_number (xs ++ y ∷ []) x ≡ false =
    has_number_push xs y x ∙ or_from (has_number xs x) (eqb y x) (not-true (has_number xs x) parts.0) other in
    and_from (not (has_number (xs ++ y ∷ []) x)) (are_different (xs ++ y ∷ []))
    (not_from_false (has_number (xs ++ y ∷ []) x) not_there) (different_push xs y parts.1 apart.1)
  where
    flipped : (a b : ℕ) → eqb b a ≡ false → eqb a b ≡ false
    flipped a b e = ne_eqb a b (λ same. both (eqb b a) (eq-eqb b a (sym same)) e)
      where
        both : (t : Bool) → t ≡ true → t ≡ false → ⊥
        both t p q = let bad : true ≡ false = sym p ∙ q in cc bad

has_after : (zs : List ℕ) (y : ℕ) (ys : List ℕ) → has_number (zs ++ y ∷ ys) y ≡ true
has_after [] y ys = or_left (eqb y y) (has_number ys y) (eq-eqb y y refl)
has_after (z ∷ zs) y ys = or_right (eqb z y) (has_number (zs ++ y ∷ ys) y) (has_after zs y ys)

repeated_here : (x : ℕ) (xs : List ℕ) (y : ℕ) (ys : List ℕ) → (has_number xs y ≡ true → are_different (xs ++ y ∷ ys) ≡ false)
    → (b : Bool) → eqb x y ≡ b → has_number (x ∷ xs) y ≡ true → are_different ((x ∷ xs) ++ y ∷ ys) ≡ false
repeated_here x xs y ys further true e there =
    let same : y ≡ x = sym (eqb-true x y e) in
    and_left (not (has_number (xs ++ y ∷ ys) x)) (are_different (xs ++ y ∷ ys))
    (not_from_true (has_number (xs ++ y ∷ ys) x) (subst (λ k. has_number (xs ++ y ∷ ys) k ≡ true) same (has_after xs y ys)))
repeated_here x xs y ys further false e there =
    let later : has_number xs y ≡ true = subst (λ b. (b || has_number xs y) ≡ true) e there in
    and_right (not (has_number (xs ++ y ∷ ys) x)) (are_different (xs ++ y ∷ ys)) (further later)

-- numbers with one that was there before it are not different
pub repeated : (xs : List ℕ) (y : ℕ) (ys : List ℕ) → has_number xs y ≡ true → are_different (xs ++ y ∷ ys) ≡ false
repeated [] y ys there = absurd (cc there)
repeated (x ∷ xs) y ys there = repeated_here x xs y ys (repeated xs y ys) (eqb x y) refl there

-- an item of a list that passes a test below a number
pub below_at : (all : List ℕ) (count k x : ℕ) → list_all (λ n. ltb n count) all ≡ true → k < length all →
    x ≡ get_or all k x → x < count
below_at all count k x good here item =
    ltb-true x count (subst (λ y. ltb y count ≡ true) (sym item) (list_all-at (λ n. ltb n count) all k x here good))
  where
    list_all-at : (p : ℕ → Bool) (xs : List ℕ) (i d : ℕ) → i < length xs → list_all p xs ≡ true → p (get_or xs i d) ≡ true
    list_all-at p [] i d h all' = absurd (omega (arith, h))
    list_all-at p (y ∷ ys) zero d h all' = (and_parts (p y) (list_all p ys) all').0
    list_all-at p (y ∷ ys) (suc i) d h all' =
        list_all-at p ys i d (omega (arith, h)) (and_parts (p y) (list_all p ys) all').1

-- one more flag
pub tells_more : (flags : List Bool) (count : ℕ) (test more : ℕ → Bool) (n : ℕ) → Tells flags count test → n < count →
    ((k : ℕ) → more k ≡ (test k || eqb n k)) → Tells (slice_set flags n true) count more
tells_more flags count test more n tells here step = record {
  count_is = length-set flags n true ∙ tells.count_is;
  flag_is = λ k. at k;
}
  where
    within : n < length flags
    within = omega (arith, tells.count_is)

    at : (k : ℕ) → flag_at (slice_set flags n true) k ≡ more k
    at k = ⊎_elim (λ same. subst (λ m. flag_at (slice_set flags n true) m ≡ more m) same
        (get_or-set_same flags n true false within
        ∙ sym (step n ∙ or_right (test n) (eqb n n) (eq-eqb n n refl))))
        (λ apart. get_or-set_other flags n k true false (λ e. apart (sym e)) ∙ tells.flag_is k
        ∙ sym (step k ∙ ap (λ b. test k || b) (ne_eqb n k apart) ∙ or_false (test k)))
        (cases_eq n k)
      where
        or_false : (b : Bool) → (b || false) ≡ b
        or_false true = refl
        or_false false = refl

-- one more place of a list is taken
pub place_taken : (xs seen : List ℕ) (x : ℕ) (old new : List Bool) (count : ℕ) → Tells old count (has_number (xs ++ seen)) →
    are_different (xs ++ seen) ≡ true → not (flag_at old x) ≡ true → x < count → new ≡ slice_set old x true →
    Tells new count (has_number (xs ++ (seen ++ x ∷ []))) × (are_different (xs ++ (seen ++ x ∷ [])) ≡ true)
place_taken xs seen x old new count tells different free here e =
    let joined : (xs ++ seen) ++ x ∷ [] ≡ xs ++ (seen ++ x ∷ []) = append_assoc xs seen (x ∷ []) in
    let fresh : has_number (xs ++ seen) x ≡ false = sym (tells.flag_is x) ∙ not-true (flag_at old x) free in
    let more = tells_more old count (has_number (xs ++ seen)) (has_number ((xs ++ seen) ++ x ∷ [])) x tells here
    (λ k. has_number_push (xs ++ seen) x k) in
    subst (λ ys. Tells new count (has_number ys) × (are_different ys ≡ true)) joined (
      subst (λ fs. Tells fs count (has_number ((xs ++ seen) ++ x ∷ []))) (sym e) more,
      different_push (xs ++ seen) x different fresh,
    )

-- a place of a list has its flag already
pub place_refused : (xs seen all : List ℕ) (x : ℕ) (rest : List ℕ) (old : List Bool) (count : ℕ) →
    Tells old count (has_number (xs ++ seen)) → not (flag_at old x) ≡ false → all ≡ seen ++ x ∷ rest →
    are_different (xs ++ all) ≡ false
place_refused xs seen all x rest old count tells taken split =
    let there : has_number (xs ++ seen) x ≡ true = sym (tells.flag_is x) ∙ not-false (flag_at old x) taken in
    let joined : (xs ++ seen) ++ x ∷ rest ≡ xs ++ (seen ++ x ∷ rest) = append_assoc xs seen (x ∷ rest) in
    subst (λ ys. are_different ys ≡ false) (joined ∙ ap (λ ys. xs ++ ys) (sym split))
    (repeated (xs ++ seen) x rest there)
