-- Lists with one item changed, and the only item that a search can find.
use Rattle.std.proofs.Common.{◌≡◌, ◌<◌, ◌⊎◌, inl, inr, arith, ℕ, zero, suc, Bool, true, false, List, [], ◌∷◌, length, Option, Some, None, refl, ap, sym, ◌∙◌, subst}
use Rattle.std.specs.Prelude.{slice_get, find, map}
use Rattle.std.proofs.Math.ListN.{set, length-set}
use Rattle.std.proofs.lemmas.Bool.{cond-true, cond-false, cases_eq}
use Rattle.command_model.specs.Boot.{change_at}
use Rattle.run_laws.proofs.Places.{change_here, change_elsewhere}

-- a list with one item changed
pub record OneChanged {A : Type 0} (old : List A) (i : ℕ) (x : A) (new : List A) : Type 0 where
  pub many : length new ≡ length old
  pub here : slice_get new i ≡ Some x
  pub elsewhere : (j : ℕ) → (i ≡ j → ⊥) → slice_get new j ≡ slice_get old j

set_here : {A : Type 0} (xs : List A) (i : ℕ) (x : A) → i < length xs → slice_get (set xs i x) i ≡ Some x
set_here [] i x h = absurd (omega arith)
set_here (y ∷ ys) zero x h = refl
set_here (y ∷ ys) (suc i) x h = set_here ys i x (omega arith)

set_elsewhere : {A : Type 0} (xs : List A) (i j : ℕ) (x : A) → (i ≡ j → ⊥) → slice_get (set xs i x) j ≡ slice_get xs j
set_elsewhere [] i j x n = refl
set_elsewhere (y ∷ ys) zero zero x n = absurd (n refl)
set_elsewhere (y ∷ ys) zero (suc j) x n = refl
set_elsewhere (y ∷ ys) (suc i) zero x n = refl
set_elsewhere (y ∷ ys) (suc i) (suc j) x n = set_elsewhere ys i j x (λ e. n (ap suc e))

pub set_changes : {A : Type 0} (xs : List A) (i : ℕ) (x : A) → i < length xs → OneChanged xs i x (set xs i x)
set_changes xs i x h = record { many = length-set xs i x; here = set_here xs i x h; elsewhere = λ j n. set_elsewhere xs i j x n }

-- what is kept of a list with one item changed
pub mapped_set : {A B : Type 0} (f : A → B) (then_change : B → B) (xs : List A) (k : ℕ) (x new : A) → slice_get xs k ≡ Some x → f new ≡ then_change (f x)
    → map f (set xs k new) ≡ change_at (map f xs) k then_change
mapped_set f then_change [] k x new h e = refl
mapped_set f then_change (y ∷ ys) zero x new h e = let same : y ≡ x = cc in ap (λ z. z ∷ map f ys) (e ∙ ap (λ z. then_change (f z)) (sym same))
mapped_set f then_change (y ∷ ys) (suc k) x new h e = ap (λ zs. f y ∷ zs) (mapped_set f then_change ys k x new h e)

-- an item that alone passes a test is found
pub found_only : {A : Type 0} (test : A → Bool) (xs : List A) (i : ℕ) (x : A) → slice_get xs i ≡ Some x → test x ≡ true
    → ((j : ℕ) (y : A) → slice_get xs j ≡ Some y → test y ≡ true → j ≡ i) → find test xs ≡ Some x
found_only test [] i x h t only = cc
found_only test (y ∷ ys) zero x h t only = let same : y ≡ x = cc in cond-true _ _ _ (ap test same ∙ t) ∙ ap Some same
found_only {A} test (y ∷ ys) (suc i) x h t only = by_test (test y) refl (found_only test ys i x h t
    (λ j z e s. let k : suc j ≡ suc i = only (suc j) z e s in omega arith))
  where
    by_test : (b : Bool) → test y ≡ b → find test ys ≡ Some x → find test (y ∷ ys) ≡ Some x
    by_test true e later = absurd (let k : zero ≡ suc i = only zero y refl e in omega arith)
    by_test false e later = cond-false _ _ _ e ∙ later

-- an item of a changed list
pub changed_at : {A : Type 0} (xs : List A) (k j : ℕ) (f : A → A) (y : A) → slice_get (change_at xs k f) j ≡ Some y
    → ((x : A) × (k ≡ j) × (slice_get xs k ≡ Some x) × (y ≡ f x)) ⊎ ((k ≡ j → ⊥) × (slice_get xs j ≡ Some y))
changed_at {A} xs k j f y h = by_case (cases_eq k j)
  where
    here : (o : Option A) → slice_get xs k ≡ o → slice_get (change_at xs k f) k ≡ Some y → (x : A) × (slice_get xs k ≡ Some x) × (y ≡ f x)
    here None e g = let none : slice_get (change_at xs k f) k ≡ None = rw change_here (rw e refl) in cc
    here (Some x) e g = let some : slice_get (change_at xs k f) k ≡ Some (f x) = rw change_here (rw e refl) in (x, e, cc)

    by_case : (k ≡ j) ⊎ (k ≡ j → ⊥) → ((x : A) × (k ≡ j) × (slice_get xs k ≡ Some x) × (y ≡ f x)) ⊎ ((k ≡ j → ⊥) × (slice_get xs j ≡ Some y))
    by_case (inl e) = let found = here (slice_get xs k) refl (subst (λ n. slice_get (change_at xs k f) n ≡ Some y) (sym e) h) in inl
        (found.0, e, found.1, found.2)
    by_case (inr n) = inr (n, sym (change_elsewhere xs k j f n) ∙ h)

-- a place within a list
pub item_at : {A : Type 0} (xs : List A) (k : ℕ) → k < length xs → (x : A) × (slice_get xs k ≡ Some x)
item_at [] k h = absurd (omega arith)
item_at (x ∷ xs) zero h = (x, refl)
item_at (x ∷ xs) (suc k) h = item_at xs k (omega arith)
