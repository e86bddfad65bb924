-- The place that a search finds, in a list and in the list of what is kept of its items.
use Rattle.std.proofs.Common.{◌≡◌, ltb, not, arith, ℕ, zero, suc, ◌+◌, Bool, false, List, [], ◌∷◌, length, Some, None, refl, ap, sym, ◌∙◌, subst, cond, one-add}
use Rattle.std.proofs.lemmas.Bool.{le-ltb, cond-false}
use Rattle.std.specs.Prelude.{slice_get, position, map}
use Rattle.std.specs.List.{position_or_len}
use Rattle.command_model.specs.Boot.{change_at}

same_or_len : {A B : Type 0} (p : A → Bool) (q : B → Bool) (f : A → B) (xs : List A) → ((k : ℕ) (x : A) → slice_get xs k ≡ Some x → p x ≡ q (f x))
    → position_or_len p xs ≡ position_or_len q (map f xs)
same_or_len p q f [] h = refl
same_or_len p q f (x ∷ xs) h =
    ap (λ b. cond (not b) (1 + position_or_len p xs) 0) (h zero x refl) ∙ ap (λ n. cond (not (q (f x))) (1 + n) 0)
    (same_or_len p q f xs (λ k y e. h (suc k) y e))

pub mapped_length : {A B : Type 0} (f : A → B) (xs : List A) → length (map f xs) ≡ length xs
mapped_length f [] = refl
mapped_length f (x ∷ xs) = ap suc (mapped_length f xs)

-- a test of the items that is one of what is kept of them
pub position_kept : {A B : Type 0} (p : A → Bool) (q : B → Bool) (f : A → B) (xs : List A) → ((k : ℕ) (x : A) → slice_get xs k ≡ Some x → p x ≡ q (f x))
    → position p xs ≡ position q (map f xs)
position_kept p q f xs h =
    ap (λ n. cond (ltb n (length xs)) (Some n) None) (same_or_len p q f xs h)
    ∙ ap (λ n. cond (ltb (position_or_len q (map f xs)) n) (Some (position_or_len q (map f xs))) None) (sym (mapped_length f xs))

pub mapped_change : {A B : Type 0} (f : A → B) (change : A → A) (then_change : B → B) (xs : List A) (k : ℕ) (x : A) → slice_get xs k ≡ Some x → f (change x)
    ≡ then_change (f x)
    → map f (change_at xs k change) ≡ change_at (map f xs) k then_change
mapped_change f change then_change [] k x h e = refl
mapped_change f change then_change (y ∷ ys) zero x h e =
    let same : y ≡ x = cc in ap (λ z. z ∷ map f ys) (subst (λ z. f (change z) ≡ then_change (f z)) (sym same) e)
mapped_change f change then_change (y ∷ ys) (suc k) x h e = ap (λ zs. f y ∷ zs) (mapped_change f change then_change ys k x h e)

-- an item of a mapped list
pub mapped_at : {A B : Type 0} (f : A → B) (xs : List A) (k : ℕ) (y : B) → slice_get (map f xs) k ≡ Some y → (x : A) × (slice_get xs k ≡ Some x) × (f x ≡ y)
mapped_at f [] k y h = cc
mapped_at f (x ∷ xs) zero y h = (x, refl, cc)
mapped_at f (x ∷ xs) (suc k) y h = mapped_at f xs k y h

pub at_mapped : {A B : Type 0} (f : A → B) (xs : List A) (k : ℕ) (x : A) → slice_get xs k ≡ Some x → slice_get (map f xs) k ≡ Some (f x)
at_mapped f [] k x h = cc
at_mapped f (y ∷ xs) zero x h = let same : y ≡ x = cc in ap (λ z. Some (f z)) same
at_mapped f (y ∷ xs) (suc k) x h = at_mapped f xs k x h

length_where_none : {A : Type 0} (p : A → Bool) (xs : List A) → ((k : ℕ) (x : A) → slice_get xs k ≡ Some x → p x ≡ false) → position_or_len p xs ≡ length xs
length_where_none p [] h = refl
length_where_none p (x ∷ xs) h =
    ap (λ b. cond (not b) (1 + position_or_len p xs) 0) (h zero x refl) ∙ ap (λ n. 1 + n) (length_where_none p xs (λ k y e. h (suc k) y e)) ∙ one-add _

-- nothing is found where no item passes the test
pub nowhere : {A : Type 0} (p : A → Bool) (xs : List A) → ((k : ℕ) (x : A) → slice_get xs k ≡ Some x → p x ≡ false) → position p xs ≡ None
nowhere p xs h = ap (λ n. cond (ltb n (length xs)) (Some n) None) (length_where_none p xs h) ∙ cond-false _ _ _ (le-ltb (length xs) (length xs) (omega arith))
