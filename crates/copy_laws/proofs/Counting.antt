-- How many numbers of a list pass a test.
use Rattle.std.proofs.Common.{◌≡◌, ◌≢◌, inl, inr, ◌≤◌, ◌+◌, ℕ, Bool, true, false, List, [], ◌∷◌, length, refl, ap, sym, ◌∙◌, arith}
use Rattle.std.proofs.lemmas.Bool.{false≢true}
use Rattle.chip_paths.specs.Writing.{count_if}
use Rattle.page_laws.specs.Keeping.{IsIn}

abbrev pub count : (ℕ → Bool) → List ℕ → ℕ
count test [] = 0
count test (x ∷ xs) = count_if (test x) + count test xs

count_one : (t : Bool) → count_if t ≤ 1
count_one true = omega arith
count_one false = omega arith

count_fewer : (t u : Bool) → (t ≡ true → u ≡ true) → count_if t ≤ count_if u
count_fewer true true h = omega arith
count_fewer true false h = absurd (false≢true (h refl))
count_fewer false u h = omega arith

pub count_all : (test : ℕ → Bool) (xs : List ℕ) → count test xs ≤ length xs
count_all test [] = omega arith
count_all test (x ∷ xs) = omega (arith, count_one (test x), count_all test xs)

count_without : (test : ℕ → Bool) (xs : List ℕ) (p : ℕ) → IsIn xs p → test p ≡ false → count test xs + 1 ≤ length xs
count_without test [] p i h = absurd i
count_without test (x ∷ xs) p (inl e) h =
    let none : count_if (test x) ≡ 0 = ap count_if (sym (ap test e) ∙ h) in
    omega (arith, none, count_all test xs)
count_without test (x ∷ xs) p (inr i) h = omega (arith, count_one (test x), count_without test xs p i h)

-- two numbers of the list do not pass
pub count_without_two : (test : ℕ → Bool) (xs : List ℕ) (p m : ℕ) → IsIn xs p → IsIn xs m → p ≢ m → test p ≡ false → test m ≡ false → count test xs + 2 ≤ length xs
count_without_two test [] p m i j apart h k = absurd i
count_without_two test (x ∷ xs) p m (inl e) (inl f) apart h k = absurd (apart (e ∙ sym f))
count_without_two test (x ∷ xs) p m (inl e) (inr j) apart h k =
    let none : count_if (test x) ≡ 0 = ap count_if (sym (ap test e) ∙ h) in
    omega (arith, none, count_without test xs m j k)
count_without_two test (x ∷ xs) p m (inr i) (inl f) apart h k =
    let none : count_if (test x) ≡ 0 = ap count_if (sym (ap test f) ∙ k) in
    omega (arith, none, count_without test xs p i h)
count_without_two test (x ∷ xs) p m (inr i) (inr j) apart h k =
    omega (arith, count_one (test x), count_without_two test xs p m i j apart h k)

count_some : (test : ℕ → Bool) (xs : List ℕ) (b : ℕ) → IsIn xs b → test b ≡ true → 1 ≤ count test xs
count_some test [] b i h = absurd i
count_some test (x ∷ xs) b (inl e) h =
    let one : count_if (test x) ≡ 1 = ap count_if (sym (ap test e) ∙ h) in
    omega (arith, one)
count_some test (x ∷ xs) b (inr i) h = omega (arith, count_some test xs b i h)

-- one that passes is there
pub count_none : (test : ℕ → Bool) (xs : List ℕ) (b : ℕ) → count test xs ≤ 0 → IsIn xs b → test b ≡ true → ⊥
count_none test xs b few i h = absurd (omega (arith, few, count_some test xs b i h))

pub count_no_more : (test now : ℕ → Bool) (xs : List ℕ) → ((x : ℕ) → now x ≡ true → test x ≡ true) → count now xs ≤ count test xs
count_no_more test now [] h = omega arith
count_no_more test now (x ∷ xs) h = omega (arith, count_fewer (now x) (test x) (h x), count_no_more test now xs h)

-- one that passed before does not pass any more, and no other one comes
pub count_less : (test now : ℕ → Bool) (xs : List ℕ) (b : ℕ) → ((x : ℕ) → now x ≡ true → test x ≡ true) → IsIn xs b → test b ≡ true → now b ≡ false → count now xs + 1 ≤ count test xs
count_less test now [] b h i t n = absurd i
count_less test now (x ∷ xs) b h (inl e) t n =
    let one : count_if (test x) ≡ 1 = ap count_if (sym (ap test e) ∙ t) in
    let none : count_if (now x) ≡ 0 = ap count_if (sym (ap now e) ∙ n) in
    omega (arith, one, none, count_no_more test now xs h)
count_less test now (x ∷ xs) b h (inr i) t n = omega (arith, count_fewer (now x) (test x) (h x), count_less test now xs b h i t n)
