-- Counts, in place of cases: "at most one", "different" and "each once" are totals over a list.
use Rattle.std.specs.Prelude.{ℕ, ◌+◌, ◌==◌, cond, List, [], ◌∷◌, Option, Some, None}

-- f of each item, added up
abbrev pub total : {A : Type 0} → (A → ℕ) → List A → ℕ
total f [] = 0
total f (v ∷ vs) = f v + total f vs

-- 1 where there is a value
abbrev pub one_if_some : {A : Type 0} → Option A → ℕ
one_if_some None = 0
one_if_some (Some x) = 1

-- 1 where the numbers are equal
abbrev pub one_if_same : ℕ → ℕ → ℕ
one_if_same m n = cond (m == n) 1 0

-- 1 where there is a number and it is this one
abbrev pub one_if_at : ℕ → Option ℕ → ℕ
one_if_at t None = 0
one_if_at t (Some u) = one_if_same u t
