-- Tests of the numbers from a first one on, and how many pass.
use Rattle.std.proofs.Common.{◌≡◌, ◌≢◌, ℕ, zero, suc, ◌+◌, ◌<◌, ◌≤◌, Bool, true, false, List, [], ◌∷◌, ◌++◌, length, refl, ap, sym, ◌∙◌, add-one, add-zero, inl, inr, arith}
use Rattle.std.specs.Prelude.{count_by, if◌then◌else◌, not, ◌==◌}
use Rattle.std.specs.List.{list_all}
use Rattle.std.proofs.lemmas.Bool.{and_from, and_parts, both_ways, cases_eq, false_from_ne_true}
use Rattle.std.proofs.lemmas.List.Folds.{sum_by-zero}
use Rattle.std.proofs.lemmas.List.Sums.{sum_by-append, sum_by-cons}
use Rattle.nand_model.specs.Sizes.{numbers_from}
use Rattle.chip_paths.specs.Writing.{count_if}

pub same_truth : (a b : Bool) → (a ≡ true → b ≡ true) → (b ≡ true → a ≡ true) → a ≡ b
same_truth true b there back = sym (there refl)
same_truth false b there back = sym (false_from_ne_true b (λ is. both_ways false refl (back is)))

pub length-numbers : (first count : ℕ) → length (numbers_from first count) ≡ count
length-numbers first zero = refl
length-numbers first (suc count) = let more = length-numbers (first + 1) count in omega arith

-- one more number
pub numbers_from-suc : (first count : ℕ) → numbers_from first (suc count) ≡ numbers_from first count ++ (first + count) ∷ []
numbers_from-suc first zero = ap (λ n. n ∷ []) (sym (add-zero first))
numbers_from-suc first (suc count) =
    let e : first + 1 + count ≡ first + suc count = omega arith in
    ap (λ ns. first ∷ ns) (numbers_from-suc (first + 1) count ∙ ap (λ n. numbers_from (first + 1) count ++ n ∷ []) e)

-- how many pass from one on, by the first one and the rest
count_first : (p : ℕ → Bool) (first count : ℕ)
    → count_by p (numbers_from first (suc count)) ≡ (if p first then 1 else 0) + count_by p (numbers_from (first + 1) count)
count_first p first count = sum_by-cons (λ n. if p n then 1 else 0) first (numbers_from (first + 1) count)

-- and how many pass with one more
pub count_next : (p : ℕ → Bool) (n : ℕ) → count_by p (numbers_from 0 (n + 1)) ≡ count_by p (numbers_from 0 n) + count_if (p n)
count_next p n =
    let place : 0 + n ≡ n = omega arith in
    let more : numbers_from 0 (n + 1) ≡ numbers_from 0 n ++ n ∷ [] =
    ap (numbers_from 0) (add-one n) ∙ numbers_from-suc 0 n ∙ ap (λ k. numbers_from 0 n ++ k ∷ []) place in
    let both = sum_by-append (λ m. if p m then 1 else 0) (numbers_from 0 n) (n ∷ []) in
    ap (count_by p) more ∙ omega (arith, both, one (p n))
  where
    one : (b : Bool) → (if b then 1 else 0) ≡ count_if b
    one true = refl
    one false = refl

-- a test holds of all numbers from one on, or not
module _ (p : ℕ → Bool) where
  pub all_from : (first count : ℕ) → ((n : ℕ) → first ≤ n → n < first + count → p n ≡ true) → list_all p (numbers_from first count) ≡ true
  all_from first zero each = refl
  all_from first (suc count) each =
      and_from (p first) (list_all p (numbers_from (first + 1) count)) (each first (omega arith) (omega arith))
      (all_from (first + 1) count (λ n low high. each n (omega arith) (omega arith)))

  pub all_at : (first count n : ℕ) → list_all p (numbers_from first count) ≡ true → first ≤ n → n < first + count → p n ≡ true
  all_at first zero n all low high = absurd (omega arith)
  all_at first (suc count) n all low high =
      let parts = and_parts (p first) (list_all p (numbers_from (first + 1) count)) all in
      elim (cases_eq first n) [
        | inl same ↦ ap p (sym same) ∙ parts.0
        | inr other ↦ all_at (first + 1) count n parts.1 (omega arith) (omega arith)
      ]

  -- one that passes is counted
  pub counted_at : (first count n : ℕ) → first ≤ n → n < first + count → count_if (p n) ≤ count_by p (numbers_from first count)
  counted_at first zero n low high = absurd (omega arith)
  counted_at first (suc count) n low high =
      let all = count_first p first count in
      elim (cases_eq first n) [
        | inl same ↦ let here : count_if (p n) ≡ count_if (p first) = ap (λ m. count_if (p m)) (sym same) in omega (arith, count_of-is (p first))
        | inr other ↦ let later = counted_at (first + 1) count n (omega arith) (omega arith) in omega arith
      ]
    where
      count_of-is : (b : Bool) → count_if b ≤ (if b then 1 else 0)
      count_of-is true = omega arith
      count_of-is false = omega arith

-- none fails exactly where all pass
pub none_fails : (p : ℕ → Bool) (xs : List ℕ) → (count_by (λ n. not (p n)) xs == 0) ≡ list_all p xs
none_fails p xs = sum_by-zero (λ n. if not (p n) then 1 else 0) xs ∙ (λ i. list_all (λ n. each (p n) i) xs)
  where
    each : (b : Bool) → ((if not b then 1 else 0) == 0) ≡ b
    each true = refl
    each false = refl

-- two tests that differ at one number alone
module _ (p q : ℕ → Bool) where
  count_if-is : (b : Bool) → count_if b ≡ (if b then 1 else 0)
  count_if-is true = refl
  count_if-is false = refl

  same_count : (first count : ℕ) → ((n : ℕ) → first ≤ n → p n ≡ q n) → count_by p (numbers_from first count) ≡ count_by q (numbers_from first count)
  same_count first zero same = refl
  same_count first (suc count) same =
      let all_p = count_first p first count in
      let all_q = count_first q first count in
      let here : count_if (p first) ≡ count_if (q first) = ap count_if (same first (omega arith)) in
      let later = same_count (first + 1) count (λ n low. same n (omega arith)) in
      omega (arith, count_if-is (p first), count_if-is (q first))

  pub count_but_one : (block first count : ℕ) → first ≤ block → block < first + count → ((n : ℕ) → n ≢ block → p n ≡ q n)
      → count_by p (numbers_from first count) + count_if (q block) ≡ count_by q (numbers_from first count) + count_if (p block)
  count_but_one block first zero low high same = absurd (omega arith)
  count_but_one block first (suc count) low high same =
      let all_p = count_first p first count in
      let all_q = count_first q first count in
      elim (cases_eq first block) [
        | inl is ↦
            let rest = same_count (first + 1) count (λ n above. same n (λ e. let not_above : first + 1 ≤ first = omega arith in absurd (omega arith))) in
            let here_p : count_if (p block) ≡ count_if (p first) = ap (λ m. count_if (p m)) (sym is) in
            let here_q : count_if (q block) ≡ count_if (q first) = ap (λ m. count_if (q m)) (sym is) in
            omega (arith, count_if-is (p first), count_if-is (q first))
        | inr other ↦
            let rest = count_but_one block (first + 1) count (omega arith) (omega arith) same in
            let here : count_if (p first) ≡ count_if (q first) = ap count_if (same first other) in
            omega (arith, count_if-is (p first), count_if-is (q first))
      ]
