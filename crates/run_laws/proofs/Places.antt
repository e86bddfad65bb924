-- Lists with the item at a place changed, and the place that a search finds.
use Rattle.std.proofs.Common.{◌≡◌, ◌<◌, ◌≤◌, ◌⊎◌, inl, inr, ltb, get_or, not, arith, ℕ, zero, suc, ◌+◌, Bool, true, false, List, [], ◌∷◌, length, Option, Some, None, refl, ap, sym, ◌∙◌, subst, cond}
use Rattle.std.specs.Prelude.{slice_get, position, option_map, is_some}
use Rattle.std.proofs.lemmas.Bool.{ltb-true, lt-ltb, cond-true, false_from_ne_true, false≢true}
use Rattle.std.proofs.lemmas.Option.{cond_some, slice_get_cases, none-some, same_Some}
use Rattle.std.proofs.lemmas.List.Quantifiers.{position-Some}
use Rattle.std.specs.List.{position_or_len}
use Rattle.command_model.specs.Boot.{change_at}

pub change_here : {A : Type 0} (xs : List A) (k : ℕ) (f : A → A) → slice_get (change_at xs k f) k ≡ option_map f (slice_get xs k)
change_here [] k f = refl
change_here (x ∷ xs) zero f = refl
change_here (x ∷ xs) (suc k) f = change_here xs k f

pub change_elsewhere : {A : Type 0} (xs : List A) (k j : ℕ) (f : A → A) → (k ≡ j → ⊥) → slice_get (change_at xs k f) j ≡ slice_get xs j
change_elsewhere [] k j f n = refl
change_elsewhere (x ∷ xs) zero zero f n = absurd (n refl)
change_elsewhere (x ∷ xs) zero (suc j) f n = refl
change_elsewhere (x ∷ xs) (suc k) zero f n = refl
change_elsewhere (x ∷ xs) (suc k) (suc j) f n = change_elsewhere xs k j f (λ e. n (ap suc e))

pub position_is : {A : Type 0} (p : A → Bool) (xs : List A) (k : ℕ) → position p xs ≡ Some k → (x : A) × (slice_get xs k ≡ Some x) × (p x ≡ true)
position_is {A} p xs k h = go (slice_get_cases xs k).1
  where
    inside : k < length xs
    inside = let c = cond_some (ltb (position_or_len p xs) (length xs)) (position_or_len p xs) k h in omega (arith, ltb-true _ _ c.0, c.1)

    go : ((x : A) × (k < length xs) × (slice_get xs k ≡ Some x) × (get_or xs k x ≡ x)) ⊎ ((length xs ≤ k) × (slice_get xs k ≡ None)) → (x : A) × (slice_get xs k ≡ Some x) × (p x ≡ true)
    go (inl c) = (c.0, c.2, subst (λ y. p y ≡ true) c.3 (position-Some p xs k c.0 h).1)
    go (inr c) = absurd (omega (arith, inside))

small : (b : Bool) (r n : ℕ) → r < n → cond b (1 + r) 0 < suc n
small true r n h = omega arith
small false r n h = omega arith

first_below : {A : Type 0} (p : A → Bool) (xs : List A) (k : ℕ) (x : A) → slice_get xs k ≡ Some x → p x ≡ true → position_or_len p xs < length xs
first_below p [] k x g t = absurd (none-some x g)
first_below p (y ∷ ys) zero x g t =
    let e : p y ≡ true = ap p (same_Some y x g) ∙ t in
    subst (λ b. cond (not b) (1 + position_or_len p ys) 0 < suc (length ys)) (sym e) (omega arith)
first_below p (y ∷ ys) (suc k) x g t = small (not (p y)) (position_or_len p ys) (length ys) (first_below p ys k x g t)

pub position_none : {A : Type 0} (p : A → Bool) (xs : List A) → position p xs ≡ None → (k : ℕ) (x : A) → slice_get xs k ≡ Some x → p x ≡ false
position_none p xs h k x g = false_from_ne_true (p x) (λ t. none-some _ (sym h ∙ cond-true _ _ _ (lt-ltb _ _ (first_below p xs k x g t))))

pub length-change : {A : Type 0} (xs : List A) (k : ℕ) (f : A → A) → length (change_at xs k f) ≡ length xs
length-change [] k f = refl
length-change (x ∷ xs) zero f = refl
length-change (x ∷ xs) (suc k) f = ap suc (length-change xs k f)

pub none_there : {A : Type 0} (o : Option A) → is_some o ≡ false → o ≡ None
none_there None h = refl
none_there (Some x) h = absurd (false≢true (sym h))
