-- Lists with one item more, and with another last item.
use Rattle.std.proofs.Common.{◌≡◌, ◌∙◌, ℕ, zero, suc, ◌+◌, ◌≤◌, ◌<◌, List, [], ◌∷◌, ◌++◌, length, Option, Some, sym, ap, refl, subst, arith}
use Rattle.std.specs.Prelude.{All, slice_get, sum_by}
use Rattle.std.proofs.lemmas.List.Elements.{All-head, All-tail}
use Rattle.std.proofs.lemmas.List.Sums.{sum_by-cons}
use Rattle.plan_grammar.specs.Rules.{last_of, with_last}

-- a sum with another last item
pub sum_with_last : {A : Type 0} (f : A → ℕ) (g : A → A) (xs : List A) (x : A) (n : ℕ) → last_of xs ≡ Some x → f (g x) ≡ f x + n →
    sum_by f (with_last g xs) ≡ sum_by f xs + n
sum_with_last f g [] x n e more = absurd (cc e)
sum_with_last f g (y ∷ []) x n e more =
    let same : y ≡ x = cc e in
    let here : f (g y) ≡ f y + n = subst (λ z. f (g z) ≡ f z + n) (sym same) more in
    omega (arith, sum_by-cons f (g y) [], sum_by-cons f y [], here)
sum_with_last f g (y ∷ z ∷ xs) x n e more =
    omega (arith, sum_by-cons f y (with_last g (z ∷ xs)), sum_by-cons f y (z ∷ xs), sum_with_last f g (z ∷ xs) x n e more)

-- a sum of greater items
pub sum_le : {A : Type 0} (f g : A → ℕ) (xs : List A) → ((x : A) → f x ≤ g x) → sum_by f xs ≤ sum_by g xs
sum_le f g [] h = omega arith
sum_le f g (x ∷ xs) h = omega (arith, sum_by-cons f x xs, sum_by-cons g x xs, sum_le f g xs h, h x)

-- the items that all pass
pub sum_le_all : {A : Type 0} (P : A → Type 0) (f g : A → ℕ) (xs : List A) → All P xs → ((x : A) → P x → f x ≤ g x) →
    sum_by f xs ≤ sum_by g xs
sum_le_all P f g [] h k = omega arith
sum_le_all P f g (x ∷ xs) h k =
    let here = k x (All-head P x xs h) in
    omega (arith, sum_by-cons f x xs, sum_by-cons g x xs, sum_le_all P f g xs (All-tail P x xs h) k, here)

-- an item of a sum
pub item_le_sum : {A : Type 0} (f : A → ℕ) (xs : List A) (i : ℕ) (x : A) → slice_get xs i ≡ Some x → f x ≤ sum_by f xs
item_le_sum f [] i x e = absurd (cc e)
item_le_sum f (y ∷ xs) zero x e = let same : y ≡ x = cc e in let here = ap f same in omega (arith, sum_by-cons f y xs, here)
item_le_sum f (y ∷ xs) (suc i) x e = omega (arith, sum_by-cons f y xs, item_le_sum f xs i x e)

pub length_with_last : {A : Type 0} (g : A → A) (xs : List A) → length (with_last g xs) ≡ length xs
length_with_last g [] = refl
length_with_last g (x ∷ []) = refl
length_with_last g (x ∷ y ∷ xs) = ap suc (length_with_last g (y ∷ xs))

-- an item that is there
pub all_at : {A : Type 0} (P : A → Type 0) (xs : List A) (i : ℕ) (x : A) → slice_get xs i ≡ Some x → All P xs → P x
all_at P [] i x e h = absurd (cc e)
all_at P (y ∷ xs) zero x e h = let same : y ≡ x = cc e in subst P same (All-head P y xs h)
all_at P (y ∷ xs) (suc i) x e h = all_at P xs i x e (All-tail P y xs h)

pub got_below : {A : Type 0} (xs : List A) (i : ℕ) (x : A) → slice_get xs i ≡ Some x → i < length xs
got_below [] i x e = absurd (cc e)
got_below (y ∷ xs) zero x e = omega arith
got_below (y ∷ xs) (suc i) x e = omega (arith, got_below xs i x e)

pub below_got : {A : Type 0} (xs : List A) (i : ℕ) → i < length xs → (x : A) × (slice_get xs i ≡ Some x)
below_got [] i h = absurd (omega (arith, h))
below_got (y ∷ xs) zero h = (y, refl)
below_got (y ∷ xs) (suc i) h = below_got xs i (omega (arith, h))

-- an item of two lists, one behind the other
pub got_front : {A : Type 0} (xs ys : List A) (i : ℕ) (x : A) → slice_get xs i ≡ Some x → slice_get (xs ++ ys) i ≡ Some x
got_front [] ys i x e = absurd (cc e)
got_front (y ∷ xs) ys zero x e = e
got_front (y ∷ xs) ys (suc i) x e = got_front xs ys i x e

pub got_behind : {A : Type 0} (xs ys : List A) (i : ℕ) (o : Option A) → slice_get ys i ≡ o → slice_get (xs ++ ys) (length xs + i) ≡ o
got_behind [] ys i o e = ap (slice_get ys) (let same : 0 + i ≡ i = omega arith in same) ∙ e
got_behind (y ∷ xs) ys i o e =
    ap (slice_get (y ∷ xs ++ ys)) (let same : suc (length xs) + i ≡ suc (length xs + i) = omega arith in same) ∙ got_behind xs ys i o e

-- which of the two it is in
pub data InEither {A : Type 0} (xs ys : List A) (x : A) : ℕ → Type 0 where
  Front : (i : ℕ) → slice_get xs i ≡ Some x → InEither xs ys x i
  Behind : (j : ℕ) → slice_get ys j ≡ Some x → InEither xs ys x (length xs + j)

pub in_either : {A : Type 0} (xs ys : List A) (i : ℕ) (x : A) → slice_get (xs ++ ys) i ≡ Some x → InEither xs ys x i
in_either [] ys i x e = subst (λ n. InEither [] ys x n) (let same : 0 + i ≡ i = omega arith in same) (Behind i e)
in_either (y ∷ xs) ys zero x e = Front 0 e
in_either (y ∷ xs) ys (suc i) x e = elim (in_either xs ys i x e) as (λ n k. InEither (y ∷ xs) ys x (suc n)) [
  | Front n f ↦ Front (suc n) f
  | Behind j f ↦ subst (λ n. InEither (y ∷ xs) ys x n) (let same : suc (length xs) + j ≡ suc (length xs + j) = omega arith in same) (Behind j f)
]
