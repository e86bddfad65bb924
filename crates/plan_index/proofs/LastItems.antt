-- Lists with another last item.
use Rattle.std.proofs.Common.{◌≡◌, ℕ, zero, suc, ◌+◌, ◌-◌, List, [], ◌∷◌, ◌++◌, Option, Some, None, length, get_or, refl, sym, ap, subst, arith}
use Rattle.std.specs.Prelude.{slice_set, slice_get}
use Rattle.std.specs.List.{sum_by}
use Rattle.std.proofs.lemmas.List.Sums.{sum_by-cons}
use Rattle.plan_grammar.specs.Rules.{with_last, last_of}

-- an item written to its place before the end
set_at_end : {A : Type 0} (change : A → A) (xs : List A) (n : ℕ) (x : A) → suc n ≡ length xs → x ≡ get_or xs n x →
    slice_set xs n (change x) ≡ with_last change xs
set_at_end change [] n x count e = absurd (omega (arith, count))
set_at_end change (y ∷ []) zero x count e = ap (λ z. change z ∷ []) e
set_at_end change (y ∷ []) (suc n) x count e = absurd (omega (arith, count))
set_at_end change (y ∷ z ∷ xs) zero x count e = absurd (omega (arith, count))
set_at_end change (y ∷ z ∷ xs) (suc n) x count e = ap (λ l. y ∷ l) (set_at_end change (z ∷ xs) n x (omega (arith, count)) e)

-- an item written to the last place
pub last_set : {A : Type 0} (change : A → A) (xs : List A) (x : A) → x ≡ get_or xs (length xs - 1) x →
    slice_set xs (length xs - 1) (change x) ≡ with_last change xs
last_set change [] x e = refl
last_set change (y ∷ xs) x e = set_at_end change (y ∷ xs) (length (y ∷ xs) - 1) x (omega arith) e

-- the item at the last place
pub last_of_at : {A : Type 0} (xs : List A) (n : ℕ) (x : A) → suc n ≡ length xs → slice_get xs n ≡ Some x → last_of xs ≡ Some x
last_of_at [] n x count e = absurd (omega (arith, count))
last_of_at (y ∷ []) zero x count e = e
last_of_at (y ∷ []) (suc n) x count e = absurd (omega (arith, count))
last_of_at (y ∷ z ∷ xs) zero x count e = absurd (omega (arith, count))
last_of_at (y ∷ z ∷ xs) (suc n) x count e = last_of_at (z ∷ xs) n x (omega (arith, count)) e

-- a list that is not empty has a last item
pub last_of_none : {A : Type 0} (xs : List A) → last_of xs ≡ None → xs ≡ []
last_of_none [] e = refl
last_of_none (x ∷ []) e = absurd (cc e)
last_of_none (x ∷ y ∷ xs) e = absurd (filled y xs e)
  where
    filled : {A : Type 0} (y : A) (xs : List A) → last_of (y ∷ xs) ≡ None → ⊥
    filled y [] e = cc e
    filled y (z ∷ xs) e = filled z xs e

-- the last item of a list with another one
pub last_of-with_last : {A : Type 0} (change : A → A) (xs : List A) (x : A) → last_of xs ≡ Some x →
    last_of (with_last change xs) ≡ Some (change x)
last_of-with_last change [] x e = absurd (cc e)
last_of-with_last change (y ∷ []) x e = ap (λ (o : Option _). some_of change o) e
  where
    some_of : {A : Type 0} (change : A → A) → Option A → Option A
    some_of change None = None
    some_of change (Some x) = Some (change x)
last_of-with_last change (y ∷ z ∷ xs) x e = further change y z xs x (last_of-with_last change (z ∷ xs) x e)
  where
    further : {A : Type 0} (change : A → A) (y z : A) (xs : List A) (x : A) → last_of (with_last change (z ∷ xs)) ≡ Some (change x)
        → last_of (with_last change (y ∷ z ∷ xs)) ≡ Some (change x)
    further change y z [] x e = e
    further change y z (w ∷ ws) x e = e

-- a sum with another last item
pub sum-with_last : {A : Type 0} (f : A → ℕ) (g : A → A) (n : ℕ) (xs : List A) (x : A) → last_of xs ≡ Some x →
    f (g x) ≡ f x + n → sum_by f (with_last g xs) ≡ sum_by f xs + n
sum-with_last f g n [] x e more = absurd (cc e)
sum-with_last f g n (y ∷ []) x e more =
    let same : y ≡ x = cc e in
    let here : f (g y) ≡ f y + n = subst (λ z. f (g z) ≡ f z + n) (sym same) more in
    omega (arith, sum_by-cons f (g y) [], sum_by-cons f y [], here)
sum-with_last f g n (y ∷ z ∷ xs) x e more =
    omega (arith, sum_by-cons f y (with_last g (z ∷ xs)), sum_by-cons f y (z ∷ xs), sum-with_last f g n (z ∷ xs) x e more)

-- a sum with another last item of the same value
pub sum_kept : {A : Type 0} (f : A → ℕ) (g : A → A) → ((x : A) → f (g x) ≡ f x) → (xs : List A) →
    sum_by f (with_last g xs) ≡ sum_by f xs
sum_kept f g same [] = refl
sum_kept f g same (x ∷ []) = omega (arith, sum_by-cons f (g x) [], sum_by-cons f x [], same x)
sum_kept f g same (x ∷ y ∷ xs) =
    omega (arith, sum_by-cons f x (with_last g (y ∷ xs)), sum_by-cons f x (y ∷ xs), sum_kept f g same (y ∷ xs))

-- the last item of a list with one more
pub last_of_push : {A : Type 0} (xs : List A) (x : A) → last_of (xs ++ x ∷ []) ≡ Some x
last_of_push [] x = refl
last_of_push (y ∷ []) x = refl
last_of_push (y ∷ z ∷ xs) x = last_of_push (z ∷ xs) x

-- a list with another last item is as long
pub length-with_last : {A : Type 0} (g : A → A) (xs : List A) → length (with_last g xs) ≡ length xs
length-with_last g [] = refl
length-with_last g (x ∷ []) = refl
length-with_last g (x ∷ y ∷ xs) = ap suc (length-with_last g (y ∷ xs))
