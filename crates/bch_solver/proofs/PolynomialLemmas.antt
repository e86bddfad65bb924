use Rattle.std.proofs.Common.{◌≡◌, ℕ, zero, suc, ◌+◌, ◌∷◌, refl, ap, ap₂, ◌∙◌, arith}
use Rattle.std.specs.Prelude.{bit_xor}
use Rattle.code_model.specs.Poly.{value}
use Rattle.bch_solver.specs.Rows.{listed}

listed-same : (c e : ℕ → ℕ) (n : ℕ) → ((i : ℕ) → c i ≡ e i) → listed c n ≡ listed e n
unfolding listed
listed-same c e zero h = refl
listed-same c e (suc n) h = ap₂ (λ x xs. x ∷ xs) (h 0) (listed-same (λ i. c (suc i)) (λ i. e (suc i)) n (λ i. h (suc i)))

pub value_none : (mul : ℕ → ℕ → ℕ) (c : ℕ → ℕ) (x : ℕ) → value mul (listed c 0) x ≡ 0
unfolding listed value
value_none mul c x = refl

-- one more coefficient in front
pub value_more : (mul : ℕ → ℕ → ℕ) (c : ℕ → ℕ) (x i k l s : ℕ) → k ≡ suc l → s ≡ value mul (listed (λ j. c (j + k)) i) x → bit_xor (c l) (mul x s) ≡ value mul (listed (λ j. c (j + l)) (suc i)) x
unfolding listed value
value_more mul c x i k l s ek es =
    let e0 : l ≡ 0 + l = omega arith in
    ap₂ bit_xor (ap c e0)
    (ap (mul x) (es ∙ ap (λ cs. value mul cs x) (listed-same (λ j. c (j + k)) (λ j. c (suc j + l)) i (λ j. let e : j + k ≡ suc j + l = omega arith in ap c e))))

pub value_whole : (mul : ℕ → ℕ → ℕ) (c : ℕ → ℕ) (x n m z : ℕ) → n ≡ m → z ≡ 0 → value mul (listed (λ j. c (j + z)) n) x ≡ value mul (listed c m) x
value_whole mul c x n m z e ez =
    ap (λ cs. value mul cs x) (listed-same (λ j. c (j + z)) c n (λ j. let q : j + z ≡ j = omega arith in ap c q) ∙ ap (listed c) e)
