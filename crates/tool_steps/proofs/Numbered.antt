-- Lists of what a function gives for each number, and how bytes are compared with them.
use Rattle.std.proofs.Common.{◌≡◌, ℕ, zero, suc, ◌+◌, ◌<◌, ◌≤◌, Bool, true, false, List, [], ◌∷◌, ◌++◌, length, take, map, bytes_eq, refl, sym, ap, ◌∙◌, subst, arith}
use Rattle.std.specs.Prelude.{slice_index_or}
use Rattle.std.proofs.lemmas.Slice.Eq.{bytes_eq-Decides}
use Rattle.nand_model.specs.Sizes.{numbers_from}

pub numbered-suc : (f : ℕ → ℕ) (first n : ℕ) → map f (numbers_from first (suc n)) ≡ map f (numbers_from first n) ++ f (first + n) ∷ []
numbered-suc f first zero = let e : first ≡ first + 0 = omega arith in ap (λ k. f k ∷ []) e
numbered-suc f first (suc n) =
    let e : first + 1 + n ≡ first + suc n = omega arith in
    ap (λ xs. f first ∷ xs) (numbered-suc f (first + 1) n ∙ ap (λ k. map f (numbers_from (first + 1) n) ++ f k ∷ []) e)

pub numbered-length : (f : ℕ → ℕ) (first n : ℕ) → length (map f (numbers_from first n)) ≡ n
numbered-length f first zero = refl
numbered-length f first (suc n) = ap suc (numbered-length f (first + 1) n)

pub numbered-at : (f : ℕ → ℕ) (first n k d : ℕ) → k < n → slice_index_or (map f (numbers_from first n)) k d ≡ f (first + k)
numbered-at f first zero k d below = absurd (omega arith)
numbered-at f first (suc n) zero d below = let e : first ≡ first + 0 = omega arith in ap f e
numbered-at f first (suc n) (suc k) d below =
    let e : first + 1 + k ≡ first + suc k = omega arith in
    numbered-at f (first + 1) n k d (omega arith) ∙ ap f e

-- one more item of a list
prefix-suc : (xs : List ℕ) (n : ℕ) → n < length xs → take (suc n) xs ≡ take n xs ++ slice_index_or xs n 0 ∷ []
prefix-suc [] n h = absurd (omega arith)
prefix-suc (x ∷ xs) zero h = refl
prefix-suc (x ∷ xs) (suc n) h = ap (λ ys. x ∷ ys) (prefix-suc xs n (omega arith))

whole : (xs : List ℕ) (n : ℕ) → length xs ≡ n → take n xs ≡ xs
whole [] zero h = refl
whole [] (suc n) h = absurd (omega (arith, h))
whole (x ∷ xs) zero h = absurd (omega (arith, h))
whole (x ∷ xs) (suc n) h = ap (λ ys. x ∷ ys) (whole xs n (omega (arith, h)))

-- one more number
pub numbered-next : (f : ℕ → ℕ) (n : ℕ) → map f (numbers_from 0 n) ++ f n ∷ [] ≡ map f (numbers_from 0 (n + 1))
numbered-next f n =
    let zeros : n ≡ 0 + n = omega arith in
    let one : suc n ≡ n + 1 = omega arith in
    ap (λ k. map f (numbers_from 0 n) ++ f k ∷ []) zeros ∙ sym (numbered-suc f 0 n) ∙ ap (λ k. map f (numbers_from 0 k)) one

-- one more byte of a body that is the numbers' so far
pub same_so_far : (f : ℕ → ℕ) (xs : List ℕ) (n : ℕ) → n < length xs → take n xs ≡ map f (numbers_from 0 n) → slice_index_or xs n 0 ≡ f n
    → take (n + 1) xs ≡ map f (numbers_from 0 (n + 1))
same_so_far f xs n h so_far here =
    let e : n + 1 ≡ suc n = omega arith in
    ap (λ k. take k xs) e ∙ prefix-suc xs n h ∙ ap (λ ys. ys ++ slice_index_or xs n 0 ∷ []) so_far ∙ ap (λ y. map f (numbers_from 0 n) ++ y ∷ []) here
    ∙ numbered-next f n

-- a body that is the numbers' to its end
pub same_whole : (f : ℕ → ℕ) (xs : List ℕ) (n place : ℕ) → length xs ≡ n → n ≤ place → place ≤ n → take place xs ≡ map f (numbers_from 0 place)
    → true ≡ bytes_eq (map f (numbers_from 0 n)) xs
same_whole f xs n place long low high so_far =
    let e : place ≡ n = omega arith in
    sym ((bytes_eq-Decides _ xs).1 (sym (subst (λ k. take k xs ≡ map f (numbers_from 0 k)) e so_far) ∙ whole xs n long))

not_same : (xs ys : List ℕ) → (xs ≡ ys → ⊥) → false ≡ bytes_eq xs ys
not_same xs ys differ = by_answer (bytes_eq xs ys) (bytes_eq-Decides xs ys).0
  where
    by_answer : (b : Bool) → (b ≡ true → xs ≡ ys) → false ≡ b
    by_answer true h = absurd (differ (h refl))
    by_answer false h = refl

-- bytes of another length
pub other_length : (f : ℕ → ℕ) (xs : List ℕ) (n : ℕ) → (length xs ≡ n → ⊥) → false ≡ bytes_eq (map f (numbers_from 0 n)) xs
other_length f xs n differ = not_same _ xs (λ e. differ (sym (ap length e) ∙ numbered-length f 0 n))

-- bytes of which one differs
pub other_byte : (f : ℕ → ℕ) (xs : List ℕ) (n k : ℕ) → k < n → (slice_index_or xs k 0 ≡ f k → ⊥) → false ≡ bytes_eq (map f (numbers_from 0 n)) xs
other_byte f xs n k below differ =
    let zeros : 0 + k ≡ k = omega arith in
    not_same _ xs (λ e. differ (sym (ap (λ ys. slice_index_or ys k 0) e) ∙ numbered-at f 0 n k 0 below ∙ ap f zeros))
