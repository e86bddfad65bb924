-- Bytes that agree up to their last bits.
use Rattle.std.proofs.Common.{◌≡◌, ℕ, zero, suc, ◌+◌, ◌-◌, ◌*◌, ◌/◌, ◌%◌, ◌^◌, ◌<◌, ◌≤◌, List, ◌∷◌, length, get_or, take, refl, sym, ap, ap₂, ◌∙◌, arith, inl, inr}
use Rattle.std.specs.Prelude.{nat_eq, IsTrue}
use Rattle.std.proofs.lemmas.Bool.{cases_lt}
use Rattle.std.proofs.lemmas.Bool.Decides.{nat_tests}
use Rattle.std.proofs.lemmas.Nat.{shr-shr}
use Rattle.code_model.specs.Bits.{bit_of, bits_of, bits_from}
use Rattle.bch_solver.proofs.BitsLemmas.{take-bits_of}

-- a bit of the last byte, out of its high bits
high_bit : (a b p e : ℕ) → p ≤ e → a / 2 ^ p ≡ b / 2 ^ p → a / 2 ^ e % 2 ≡ b / 2 ^ e % 2
high_bit a b p e h q =
    let s : p + (e - p) ≡ e = omega arith in
    ap (λ i. a / 2 ^ i % 2) (sym s) ∙ ap (λ n. n % 2) (sym (shr-shr a p (e - p)) ∙ ap (λ n. n / 2 ^ (e - p)) q ∙ shr-shr b p (e - p)) ∙ ap (λ i. b / 2 ^ i % 2) s

pub same_bits : (xs ys : List ℕ) (last p : ℕ) → p < 8 → length ys ≡ suc last → ((k : ℕ) → k < last → get_or xs k 0 ≡ get_or ys k 0) → get_or xs last 0 / 2 ^ p ≡ get_or ys last 0 / 2 ^ p
    → (k : ℕ) → k + p < 8 * length ys → bit_of xs k ≡ bit_of ys k
same_bits xs ys last p few len before end k h = elim (cases_lt (k / 8) last) [
  | inl l ↦ ap (λ b. b / 2 ^ (7 - k % 8) % 2) (before (k / 8) l)
  | inr g ↦
      (let e : k / 8 ≡ last = omega arith in
      ap (λ i. get_or xs i 0 / 2 ^ (7 - k % 8) % 2) e
      ∙ high_bit (get_or xs last 0) (get_or ys last 0) p (7 - k % 8) (omega arith) end
      ∙ ap (λ i. get_or ys i 0 / 2 ^ (7 - k % 8) % 2) (sym e))
]

bits_from-equal : (xs ys : List ℕ) (k n : ℕ) → ((i : ℕ) → i < k + n → bit_of xs i ≡ bit_of ys i) → bits_from xs k n ≡ bits_from ys k n
unfolding bits_from
bits_from-equal xs ys k zero h = refl
bits_from-equal xs ys k (suc n) h = ap₂ (λ b bs. b ∷ bs) (h k (omega arith)) (bits_from-equal xs ys (suc k) n (λ i g. h i (omega arith)))

-- the first n bits
pub same_take : (xs ys : List ℕ) (n : ℕ) → n ≤ 8 * length xs → n ≤ 8 * length ys → ((k : ℕ) → k < n → bit_of xs k ≡ bit_of ys k) → take n (bits_of xs) ≡ take n (bits_of ys)
same_take xs ys n hx hy same = take-bits_of xs n hx ∙ bits_from-equal xs ys 0 n (λ i g. same i (omega arith)) ∙ sym (take-bits_of ys n hy)

pub same_from_test : (x y : ℕ) → IsTrue (nat_eq x y) → x ≡ y
same_from_test x y e = grind (arith, nat_tests)
