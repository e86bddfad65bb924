-- Numbers one after the other, and lists made from them.
use Rattle.std.proofs.Common.{◌≡◌, ℕ, zero, suc, ◌+◌, ◌<◌, List, [], ◌∷◌, ◌++◌, map, refl, ap, ap₂, ◌∙◌, arith, add-one}
use Rattle.std.specs.List.{flat_map, fold}
use Rattle.std.proofs.lemmas.List.{map_push, append-nil}
use Rattle.std.proofs.lemmas.List.Concat.{flat_map-append}
use Rattle.std.proofs.lemmas.List.Sums.{fold_push}
use Rattle.nand_model.specs.Sizes.{numbers_from}

numbers_from-suc : (first count : ℕ) → numbers_from first (suc count) ≡ numbers_from first count ++ (first + count) ∷ []
numbers_from-suc first zero = let e : first ≡ first + 0 = omega arith in ap (λ n. n ∷ []) e
numbers_from-suc first (suc count) =
    let e : (first + 1) + count ≡ first + suc count = omega arith in
    ap (λ ns. first ∷ ns) (numbers_from-suc (first + 1) count ∙ ap (λ n. numbers_from (first + 1) count ++ n ∷ []) e)

-- one more number
pub numbers_more : (n : ℕ) → numbers_from 0 (n + 1) ≡ numbers_from 0 n ++ n ∷ []
numbers_more n =
    let e : 0 + n ≡ n = omega arith in
    ap (numbers_from 0) (add-one n) ∙ numbers_from-suc 0 n ∙ ap (λ k. numbers_from 0 n ++ k ∷ []) e

-- what is made of one more number
pub map-numbers_more : {A : Type 0} (f : ℕ → A) (n : ℕ) → map f (numbers_from 0 (n + 1)) ≡ map f (numbers_from 0 n) ++ f n ∷ []
map-numbers_more f n = ap (map f) (numbers_more n) ∙ map_push f (numbers_from 0 n) n

pub flat_map-numbers_more : {A : Type 0} (f : ℕ → List A) (n : ℕ) → flat_map f (numbers_from 0 (n + 1)) ≡ flat_map f (numbers_from 0 n) ++ f n
flat_map-numbers_more f n =
    ap (flat_map f) (numbers_more n) ∙ flat_map-append f (numbers_from 0 n) (n ∷ []) ∙ ap (λ ys. flat_map f (numbers_from 0 n) ++ ys) (append-nil (f n))

-- functions that agree on the numbers make the same of them
pub map-numbers : {A : Type 0} (f h : ℕ → A) (first n : ℕ) → ((s : ℕ) → s < first + n → f s ≡ h s) → map f (numbers_from first n) ≡ map h (numbers_from first n)
map-numbers f h first zero same = refl
map-numbers f h first (suc n) same =
    ap₂ (λ x xs. x ∷ xs) (same first (omega arith)) (map-numbers f h (first + 1) n (λ s below. same s (omega arith)))

-- what is picked of one more
pub flat_map-more : {A : Type 0} (pick : A → List ℕ) (f : ℕ → A) (n : ℕ)
    → flat_map pick (map f (numbers_from 0 (n + 1))) ≡ flat_map pick (map f (numbers_from 0 n)) ++ pick (f n)
flat_map-more pick f n =
    ap (flat_map pick) (map-numbers_more f n) ∙ flat_map-append pick (map f (numbers_from 0 n)) (f n ∷ [])
    ∙ ap (λ ys. flat_map pick (map f (numbers_from 0 n)) ++ ys) (append-nil (pick (f n)))

pub fold-more : {A : Type 0} (step : ℕ → A → ℕ) (f : ℕ → A) (n : ℕ)
    → fold step 0 (map f (numbers_from 0 (n + 1))) ≡ step (fold step 0 (map f (numbers_from 0 n))) (f n)
fold-more step f n = ap (fold step 0) (map-numbers_more f n) ∙ fold_push step 0 (map f (numbers_from 0 n)) (f n)
