-- What the mask does to bits.
use Rattle.std.proofs.Common.{◌≡◌, ℕ, zero, suc, ◌+◌, ◌%◌, ◌<◌, ◌≤◌, List, [], ◌∷◌, ◌++◌, length, take, drop, get_or, refl, sym, ap, ap₂, ◌∙◌, arith}
use Rattle.std.specs.Prelude.{bit_xor}
use Rattle.std.proofs.Math.ListN.{set}
use Rattle.std.proofs.lemmas.List.{take_all, drop_all, append-nil}
use Rattle.std.proofs.Common.{inl, inr}
use Rattle.std.proofs.lemmas.Bool.{cases_eq}
use Rattle.std.proofs.lemmas.Nat.{xor_of_8}
use Rattle.std.proofs.lemmas.Nat.Bits.{bit_at_xor, bit_at_lowest}
use Rattle.code_model.specs.Bits.{bits_of, xor_bytes}
use Rattle.code_model.specs.Word.{AreBits, distance}
use Rattle.code_model.proofs.DistanceLemmas.{distance-cons_same, distance-cons_off, distance-same}

-- bytes summed are bytes
pub xor-small : (xs ms : List ℕ) → ((k : ℕ) → get_or xs k 0 < 256) → ((k : ℕ) → get_or ms k 0 < 256) → (k : ℕ) → get_or (xor_bytes xs ms) k 0 < 256
unfolding xor_bytes
xor-small [] ms hx hm k = hx k
xor-small (x ∷ xs) [] hx hm k = hm k
xor-small (x ∷ xs) (m ∷ ms) hx hm zero = xor_of_8 x m (hx 0) (hm 0)
xor-small (x ∷ xs) (m ∷ ms) hx hm (suc k) = xor-small xs ms (λ j. hx (suc j)) (λ j. hm (suc j)) k

pub length-xor : (xs ms : List ℕ) → length ms ≡ length xs → length (xor_bytes xs ms) ≡ length xs
unfolding xor_bytes
length-xor [] ms e = refl
length-xor (x ∷ xs) [] e = absurd (omega arith)
length-xor (x ∷ xs) (m ∷ ms) e = ap suc (length-xor xs ms (omega arith))

-- two lists of bits summed bit by bit
unfoldable pub sum_bits : List ℕ → List ℕ → List ℕ
sum_bits [] ys = []
sum_bits (x ∷ xs) [] = []
sum_bits (x ∷ xs) (y ∷ ys) = (x + y) % 2 ∷ sum_bits xs ys

cons : {x y : ℕ} {xs ys : List ℕ} → x ≡ y → xs ≡ ys → x ∷ xs ≡ y ∷ ys
cons e e' = ap₂ (λ v vs. v ∷ vs) e e'

-- the bits of a sum are the sums of the bits
pub bits_of-xor : (xs ms : List ℕ) → length ms ≡ length xs → bits_of (xor_bytes xs ms) ≡ sum_bits (bits_of xs) (bits_of ms)
unfolding xor_bytes bits_of sum_bits
bits_of-xor [] ms e = refl
bits_of-xor (x ∷ xs) [] e = absurd (omega arith)
bits_of-xor (x ∷ xs) (m ∷ ms) e =
    let last : bit_xor x m % 2 ≡ (x % 2 + m % 2) % 2 = sym (bit_at_lowest (bit_xor x m)) ∙ bit_at_xor x m 0
    ∙ ap₂ (λ a b. (a + b) % 2) (bit_at_lowest x) (bit_at_lowest m) in
    cons (bit_at_xor x m 7) (cons (bit_at_xor x m 6) (cons (bit_at_xor x m 5) (cons (bit_at_xor x m 4)
    (cons (bit_at_xor x m 3) (cons (bit_at_xor x m 2) (cons (bit_at_xor x m 1) (cons last (bits_of-xor xs ms (omega arith)))))))))

pub take-sum : (n : ℕ) (xs ms : List ℕ) → take n (sum_bits xs ms) ≡ sum_bits (take n xs) (take n ms)
unfolding sum_bits
take-sum zero xs ms = refl
take-sum (suc n) [] ms = refl
take-sum (suc n) (x ∷ xs) [] = refl
take-sum (suc n) (x ∷ xs) (m ∷ ms) = cons refl (take-sum n xs ms)

pub drop-sum : (n : ℕ) (xs ms : List ℕ) → length ms ≡ length xs → drop n (sum_bits xs ms) ≡ sum_bits (drop n xs) (drop n ms)
unfolding sum_bits
drop-sum zero xs ms e = refl
drop-sum (suc n) [] ms e = refl
drop-sum (suc n) (x ∷ xs) [] e = absurd (omega arith)
drop-sum (suc n) (x ∷ xs) (m ∷ ms) e = drop-sum n xs ms (omega arith)

same_bit : (x y m : ℕ) → x < 2 → y < 2 → (x + m) % 2 ≡ (y + m) % 2 → x ≡ y
same_bit x y m lx ly q = omega arith

-- the same bits summed to two words leave their distance
pub distance-sum : (xs ys ms : List ℕ) → AreBits xs → AreBits ys → length ys ≡ length xs → length ms ≡ length xs
    → distance (sum_bits xs ms) (sum_bits ys ms) ≡ distance xs ys
unfolding sum_bits
distance-sum [] [] ms bx by e e' = refl
distance-sum [] (y ∷ ys) ms bx by e e' = absurd (omega arith)
distance-sum (x ∷ xs) [] ms bx by e e' = absurd (omega arith)
distance-sum (x ∷ xs) (y ∷ ys) [] bx by e e' = absurd (omega arith)
distance-sum (x ∷ xs) (y ∷ ys) (m ∷ ms) bx by e e' =
    let lx : x < 2 = bx.0 in
    let ly : y < 2 = by.0 in
    let rest = distance-sum xs ys ms bx.1 by.1 (omega arith) (omega arith) in
    elim (cases_eq x y) [
      | inl same ↦ distance-cons_same ((x + m) % 2) ((y + m) % 2) (sum_bits xs ms) (sum_bits ys ms) (ap (λ v. (v + m) % 2) same) ∙ rest
          ∙ sym (distance-cons_same x y xs ys same)
      | inr off ↦ distance-cons_off ((x + m) % 2) ((y + m) % 2) (sum_bits xs ms) (sum_bits ys ms) (λ q. off (same_bit x y m lx ly q)) ∙ ap suc rest
          ∙ sym (distance-cons_off x y xs ys off)
    ]

-- the distance of words in two parts
pub distance-append : (xs ys us vs : List ℕ) → length ys ≡ length xs → distance (xs ++ us) (ys ++ vs) ≡ distance xs ys + distance us vs
distance-append [] [] us vs e = let none = distance-same [] in omega arith
distance-append [] (y ∷ ys) us vs e = absurd (omega arith)
distance-append (x ∷ xs) [] us vs e = absurd (omega arith)
distance-append (x ∷ xs) (y ∷ ys) us vs e =
    let rest = distance-append xs ys us vs (omega arith) in
    elim (cases_eq x y) [
      | inl same ↦ distance-cons_same x y (xs ++ us) (ys ++ vs) same ∙ rest ∙ ap (λ n. n + distance us vs) (sym (distance-cons_same x y xs ys same))
      | inr off ↦ (let p = distance-cons_off x y (xs ++ us) (ys ++ vs) off in let q = distance-cons_off x y xs ys off in omega arith)
    ]
