-- What a change of one view makes of a total.
use Rattle.std.proofs.Common.{◌≡◌, ◌≢◌, ℕ, zero, suc, ◌+◌, ◌<◌, ◌≤◌, List, [], ◌∷◌, ◌++◌, Bool, cond, eq-eqb, ne_eqb, set, sym, ap, refl, arith}
use mathlib.Core.Option.{some, some-injective, some-ne-none}
use lib.ListN.{get_elem?}
use Rattle.turnstile.specs.Totals.{total, one_if_same}

pub hit : (m n : ℕ) → m ≡ n → one_if_same m n ≡ 1
hit m n e = ap (λ (b : Bool). cond {A = ℕ} b 1 0) (eq-eqb m n e)

pub miss : (m n : ℕ) → m ≢ n → one_if_same m n ≡ 0
miss m n ne = ap (λ (b : Bool). cond {A = ℕ} b 1 0) (ne_eqb m n ne)

module _ {A : Type 0} (f : A → ℕ) where
  pub total_set : (l : List A) (i : ℕ) (v w : A) → get_elem? l i ≡ some v → total f (set l i w) + f v ≡ total f l + f w
  total_set [] i v w e = absurd (some-ne-none v (sym e))
  total_set (x ∷ xs) zero v w e = let same : f x ≡ f v = ap f (some-injective x v e) in omega arith
  total_set (x ∷ xs) (suc i) v w e = let h = total_set xs i v w e in omega arith

  pub total_ge : (l : List A) (i : ℕ) (v : A) → get_elem? l i ≡ some v → f v ≤ total f l
  total_ge [] i v e = absurd (some-ne-none v (sym e))
  total_ge (x ∷ xs) zero v e = let same : f x ≡ f v = ap f (some-injective x v e) in omega arith
  total_ge (x ∷ xs) (suc i) v e = let h = total_ge xs i v e in omega arith

  pub total_snoc : (l : List A) (v : A) → total f (l ++ v ∷ []) ≡ total f l + f v
  total_snoc [] v = omega arith
  total_snoc (x ∷ xs) v = let h = total_snoc xs v in omega arith

  pub total_two : (l : List A) (i j : ℕ) (v w : A) → get_elem? l i ≡ some v → get_elem? l j ≡ some w → j ≢ i
      → f v + f w ≤ total f l
  total_two [] i j v w a b n = absurd (some-ne-none v (sym a))
  total_two (x ∷ xs) zero zero v w a b n = absurd (n (omega arith))
  total_two (x ∷ xs) zero (suc j) v w a b n = let same : f x ≡ f v = ap f (some-injective x v a) in
      let h = total_ge xs j w b in omega arith
  total_two (x ∷ xs) (suc i) zero v w a b n = let same : f x ≡ f w = ap f (some-injective x w b) in
      let h = total_ge xs i v a in omega arith
  total_two (x ∷ xs) (suc i) (suc j) v w a b n = let h = total_two xs i j v w a b (λ (e : j ≡ i). n (ap suc e)) in
      omega arith

module _ {A : Type 0} (f g : A → ℕ) where
  pub total_le : (l : List A) → ((j : ℕ) (u : A) → get_elem? l j ≡ some u → f u ≤ g u) → total f l ≤ total g l
  total_le [] each = omega arith
  total_le (x ∷ xs) each = let a = each zero x (λ k. some x) in let h = total_le xs (λ j u e. each (suc j) u e) in
      omega arith

  pub total_lt : (l : List A) (i : ℕ) (v : A) → ((j : ℕ) (u : A) → get_elem? l j ≡ some u → f u ≤ g u)
      → get_elem? l i ≡ some v → f v < g v → total f l < total g l
  total_lt [] i v each e less = absurd (some-ne-none v (sym e))
  total_lt (x ∷ xs) zero v each e less =
      let same : f x ≡ f v = ap f (some-injective x v e) in let same' : g x ≡ g v = ap g (some-injective x v e) in
      let h = total_le xs (λ j u e. each (suc j) u e) in omega arith
  total_lt (x ∷ xs) (suc i) v each e less = let a = each zero x (λ k. some x) in
      let h = total_lt xs i v (λ j u e. each (suc j) u e) e less in omega arith

pub total_zero : {A : Type 0} (f : A → ℕ) (l : List A) → ((j : ℕ) (u : A) → get_elem? l j ≡ some u → f u ≡ 0)
    → total f l ≡ 0
total_zero f [] each = refl
total_zero f (x ∷ xs) each = let a = each zero x (λ k. some x) in
    let h = total_zero f xs (λ j u e. each (suc j) u e) in omega arith
