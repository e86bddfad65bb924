-- Bytes summed in place.
use Rattle.std.proofs.Common.{◌≡◌, ℕ, zero, suc, ◌+◌, ◌<◌, ◌≤◌, List, [], ◌∷◌, ◌++◌, length, take, drop, get_or, refl, ap, ap₂, ◌∙◌, arith}
use Rattle.std.specs.Prelude.{bit_xor}
use Rattle.std.proofs.Math.ListN.{set}
use Rattle.std.proofs.lemmas.List.{take_all, drop_all, append-nil}
use Rattle.code_model.specs.Bits.{xor_bytes}

-- one more sum written over
pub xor-set : (xs ms : List ℕ) (i : ℕ) → i < length xs → length ms ≡ length xs
    → set (xor_bytes (take i xs) (take i ms) ++ drop i xs) i (bit_xor (get_or xs i 0) (get_or ms i 0))
    ≡ xor_bytes (take (suc i) xs) (take (suc i) ms) ++ drop (suc i) xs
unfolding xor_bytes
xor-set [] ms i inside long = absurd (omega arith)
xor-set (x ∷ xs) [] i inside long = absurd (omega arith)
xor-set (x ∷ xs) (m ∷ ms) zero inside long = refl
xor-set (x ∷ xs) (m ∷ ms) (suc i) inside long = ap (λ ys. bit_xor x m ∷ ys) (xor-set xs ms i (omega arith) (omega arith))

-- what is not yet written over
pub xor-get : (xs ms : List ℕ) (i : ℕ) → i < length xs → length ms ≡ length xs
    → get_or (xor_bytes (take i xs) (take i ms) ++ drop i xs) i 0 ≡ get_or xs i 0
unfolding xor_bytes
xor-get [] ms i inside long = absurd (omega arith)
xor-get (x ∷ xs) [] i inside long = absurd (omega arith)
xor-get (x ∷ xs) (m ∷ ms) zero inside long = refl
xor-get (x ∷ xs) (m ∷ ms) (suc i) inside long = xor-get xs ms i (omega arith) (omega arith)

pub xor-none : (xs ms : List ℕ) → xs ≡ xor_bytes (take 0 xs) (take 0 ms) ++ drop 0 xs
unfolding xor_bytes
xor-none xs ms = refl

-- a step of a loop that sums in place
pub xor_more : (xs ms ys : List ℕ) (i : ℕ) → i < length xs → length ms ≡ length xs → ys ≡ xor_bytes (take i xs) (take i ms) ++ drop i xs
    → set ys i (bit_xor (get_or ys i 0) (get_or ms i 0)) ≡ xor_bytes (take (i + 1) xs) (take (i + 1) ms) ++ drop (i + 1) xs
xor_more xs ms ys i inside long e =
    let zs = xor_bytes (take i xs) (take i ms) ++ drop i xs in
    let m = get_or ms i 0 in
    let one : suc i ≡ i + 1 = omega arith in
    ap (λ ws. set ws i (bit_xor (get_or ws i 0) m)) e ∙ ap (λ v. set zs i (bit_xor v m)) (xor-get xs ms i inside long) ∙ xor-set xs ms i inside long
    ∙ ap (λ k. xor_bytes (take k xs) (take k ms) ++ drop k xs) one

pub xor_all : (xs ms ys : List ℕ) (n : ℕ) → n ≡ length xs → length ms ≡ length xs → ys ≡ xor_bytes (take n xs) (take n ms) ++ drop n xs → ys ≡ xor_bytes xs ms
xor_all xs ms ys n e long is =
    let a : length xs ≤ n = omega arith in
    let b : length ms ≤ n = omega arith in
    is ∙ ap₂ (λ us vs. us ++ vs) (ap₂ xor_bytes (take_all n xs a) (take_all n ms b)) (drop_all n xs a) ∙ append-nil (xor_bytes xs ms)
