-- Sums over lists of which one item changes.
use Rattle.std.proofs.Common.{◌≡◌, ℕ, zero, suc, ◌+◌, ◌*◌, ◌≤◌, List, [], ◌∷◌, length, Some, None, refl, ap, sym, subst, arith}
use Rattle.std.specs.Prelude.{slice_get, sum_by}
use Rattle.std.proofs.lemmas.List.Sums.{sum_by-cons}
use Rattle.command_model.specs.Boot.{change_at}

some_is : {A : Type 0} (x y : A) → Some x ≡ Some y → x ≡ y
some_is x y e = cc

none_is_not : {A : Type 0} (x : A) → None ≡ Some x → ⊥
none_is_not x e = cc

-- what the changed item adds and takes away
pub sum-change : {A : Type 0} (f : A → ℕ) (xs : List A) (k : ℕ) (x : A) (g : A → A) → slice_get xs k ≡ Some x
    → sum_by f (change_at xs k g) + f x ≡ sum_by f xs + f (g x)
sum-change f [] k x g e = absurd (none_is_not x e)
sum-change f (y ∷ ys) zero x g e =
    let same : y ≡ x = some_is y x e in
    let here : f y ≡ f x = ap f same in
    let there : f (g y) ≡ f (g x) = ap (λ z. f (g z)) same in
    omega (arith, sum_by-cons f (g y) ys, sum_by-cons f y ys)
sum-change f (y ∷ ys) (suc k) x g e =
    let later : sum_by f (change_at ys k g) + f x ≡ sum_by f ys + f (g x) = sum-change f ys k x g e in
    omega (arith, sum_by-cons f y (change_at ys k g), sum_by-cons f y ys)

-- items that count the same leave the sum
pub sum-change_same : {A : Type 0} (f : A → ℕ) (xs : List A) (k : ℕ) (g : A → A) → ((x : A) → f (g x) ≡ f x) → sum_by f (change_at xs k g) ≡ sum_by f xs
sum-change_same f [] k g h = refl
sum-change_same f (y ∷ ys) zero g h = omega (arith, sum_by-cons f (g y) ys, sum_by-cons f y ys, h y)
sum-change_same f (y ∷ ys) (suc k) g h =
    let later : sum_by f (change_at ys k g) ≡ sum_by f ys = sum-change_same f ys k g h in
    omega (arith, sum_by-cons f y (change_at ys k g), sum_by-cons f y ys)

-- where no item counts more than this
pub sum-bound : {A : Type 0} (f : A → ℕ) (n : ℕ) (xs : List A) → ((k : ℕ) (x : A) → slice_get xs k ≡ Some x → f x ≤ n) → sum_by f xs ≤ n * length xs
sum-bound f n [] h = omega arith
sum-bound f n (y ∷ ys) h =
    let later : sum_by f ys ≤ n * length ys = sum-bound f n ys (λ k x e. h (suc k) x e) in
    let here : f y ≤ n = h 0 y refl in
    omega (arith, sum_by-cons f y ys)

-- and one item counts less
pub sum-below : {A : Type 0} (f : A → ℕ) (n : ℕ) (xs : List A) (k : ℕ) (x : A) → ((j : ℕ) (y : A) → slice_get xs j ≡ Some y → f y ≤ n)
    → slice_get xs k ≡ Some x → f x + 1 ≤ n
    → sum_by f xs + 1 ≤ n * length xs
sum-below f n [] k x h e less = absurd (none_is_not x e)
sum-below f n (y ∷ ys) zero x h e less =
    let here : f y + 1 ≤ n = subst (λ z. f z + 1 ≤ n) (sym (some_is y x e)) less in
    let later : sum_by f ys ≤ n * length ys = sum-bound f n ys (λ k z at. h (suc k) z at) in
    omega (arith, sum_by-cons f y ys)
sum-below f n (y ∷ ys) (suc k) x h e less =
    let here : f y ≤ n = h 0 y refl in
    let later : sum_by f ys + 1 ≤ n * length ys = sum-below f n ys k x (λ j z at. h (suc j) z at) e less in
    omega (arith, sum_by-cons f y ys)

-- where no item counts more by one count than by another
pub sum-under : {A : Type 0} (f g : A → ℕ) (xs : List A) → ((k : ℕ) (x : A) → slice_get xs k ≡ Some x → f x ≤ g x) → sum_by f xs ≤ sum_by g xs
sum-under f g [] h = omega arith
sum-under f g (y ∷ ys) h =
    let later : sum_by f ys ≤ sum_by g ys = sum-under f g ys (λ k x e. h (suc k) x e) in
    let here : f y ≤ g y = h 0 y refl in
    omega (arith, sum_by-cons f y ys, sum_by-cons g y ys)

-- and one counts less
pub sum-less : {A : Type 0} (f g : A → ℕ) (xs : List A) (k : ℕ) (x : A) → ((j : ℕ) (y : A) → slice_get xs j ≡ Some y → f y ≤ g y) → slice_get xs k ≡ Some x
    → f x + 1 ≤ g x
    → sum_by f xs + 1 ≤ sum_by g xs
sum-less f g [] k x h e less = absurd (none_is_not x e)
sum-less f g (y ∷ ys) zero x h e less =
    let here : f y + 1 ≤ g y = subst (λ z. f z + 1 ≤ g z) (sym (some_is y x e)) less in
    let later : sum_by f ys ≤ sum_by g ys = sum-under f g ys (λ k z at. h (suc k) z at) in
    omega (arith, sum_by-cons f y ys, sum_by-cons g y ys)
sum-less f g (y ∷ ys) (suc k) x h e less =
    let here : f y ≤ g y = h 0 y refl in
    let later : sum_by f ys + 1 ≤ sum_by g ys = sum-less f g ys k x (λ j z at. h (suc j) z at) e less in
    omega (arith, sum_by-cons f y ys, sum_by-cons g y ys)
