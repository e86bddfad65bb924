-- Single bits of pages: those of erased bytes, of programmed ones, and of a page in which a bit was
-- turned.
use Rattle.std.proofs.Common.{◌≡◌, ◌≢◌, ℕ, zero, suc, ◌+◌, ◌-◌, ◌*◌, ◌/◌, ◌%◌, ◌^◌, ◌<◌, inl, inr, List, [], ◌∷◌, length, ap, ap₂, sym, min, ◌∙◌, arith}
use Rattle.std.specs.Prelude.{replicate, slice_index, slice_range, bit_and, bit_xor}
use Rattle.std.proofs.lemmas.Bool.{cases_eq, cases_lt}
use Rattle.std.proofs.lemmas.List.{get_or_past, set_past, get_or-replicate, get_or-set_same, get_or-set_other}
use Rattle.std.proofs.lemmas.List.Edits.{get_or-between}
use Rattle.std.proofs.lemmas.Nat.Bits.{bit_at-lt, bit_at-zero, bit_at_and, bit_at_xor, bit_at_ones, bit_at-pow_other}
use Rattle.code_model.specs.Bits.{bit_of}
use Rattle.nand_model.specs.Flips.{with_bit_turned}
use Rattle.nand_model.specs.Chip.{map_from, programmed}

-- bits of one place in bytes that are equal there
pub bit_of-byte : (xs ys : List ℕ) (k : ℕ) → slice_index xs (k / 8) ≡ slice_index ys (k / 8) → bit_of xs k ≡ bit_of ys k
bit_of-byte xs ys k e = ap (λ (byte : ℕ). byte / 2 ^ (7 - k % 8) % 2) e

-- a part of the bytes, bit by bit
pub bit_of-between : (bytes : List ℕ) (a b k : ℕ) → 8 * a + k < 8 * b → bit_of (slice_range bytes a b) k ≡ bit_of bytes (8 * a + k)
bit_of-between bytes a b k inside =
    let place : (8 * a + k) / 8 ≡ a + k / 8 = omega arith in
    let bit : (8 * a + k) % 8 ≡ k % 8 = omega arith in
    ap (λ (byte : ℕ). byte / 2 ^ (7 - k % 8) % 2) (get_or-between bytes a b (k / 8) 0 (omega arith))
    ∙ sym (ap₂ (λ (i j : ℕ). slice_index bytes i / 2 ^ (7 - j) % 2) place bit)

-- an erased byte has ones alone
pub bit_of-erased : (n k : ℕ) → k < 8 * n → bit_of (replicate n 0xff) k ≡ 1
bit_of-erased n k inside =
    ap (λ (byte : ℕ). byte / 2 ^ (7 - k % 8) % 2) (get_or-replicate n (k / 8) 0xff 0 (omega arith)) ∙ bit_at_ones 8 (7 - k % 8) (omega arith)

-- a bit that is 1 is within the bytes
set_bit-inside : (bytes : List ℕ) (k : ℕ) → bit_of bytes k ≡ 1 → k / 8 < length bytes
set_bit-inside bytes k one = elim (cases_lt (k / 8) (length bytes)) [
  | inl inside ↦ inside
  | inr past ↦ absurd (
      let none : bit_of bytes k ≡ 0 = ap (λ (byte : ℕ). byte / 2 ^ (7 - k % 8) % 2) (get_or_past bytes (k / 8) 0 past) ∙ bit_at-zero (7 - k % 8) in
      omega arith)
]

-- a byte that was made from its place and itself
map_from-byte : (f : ℕ → ℕ → ℕ) (xs : List ℕ) (i k : ℕ) → k < length xs → slice_index (map_from i f xs) k ≡ f (i + k) (slice_index xs k)
map_from-byte f [] i k inside = absurd (omega arith)
map_from-byte f (x ∷ xs) i zero inside = let e : i ≡ i + 0 = omega arith in ap (λ (j : ℕ). f j x) e
map_from-byte f (x ∷ xs) i (suc k) inside =
    let e : (i + 1) + k ≡ i + suc k = omega arith in
    map_from-byte f xs (i + 1) k (omega arith) ∙ ap (λ (j : ℕ). f j (slice_index xs k)) e

and-bit : (a b : ℕ) → a ≡ 1 → b < 2 → min a b ≡ b
and-bit a b one small = omega arith

-- a program makes a bit that is 1 that of the image
pub bit_of-programmed : (cells image : List ℕ) (k : ℕ) → bit_of cells k ≡ 1 → bit_of (programmed cells image) k ≡ bit_of image k
bit_of-programmed cells image k one =
    let place : 0 + k / 8 ≡ k / 8 = omega arith in
    let bit = 7 - k % 8 in
    ap (λ (byte : ℕ). byte / 2 ^ bit % 2)
    (map_from-byte (λ i byte. bit_and byte (slice_index image i)) cells 0 (k / 8) (set_bit-inside cells k one)
    ∙ ap (λ (i : ℕ). bit_and (slice_index cells (k / 8)) (slice_index image i)) place)
    ∙ bit_at_and (slice_index cells (k / 8)) (slice_index image (k / 8)) bit
    ∙ and-bit (bit_of cells k) (bit_of image k) one (bit_at-lt (slice_index image (k / 8)) bit)

no-bit : (a b : ℕ) → a < 2 → b ≡ 0 → (a + b) % 2 ≡ a
no-bit a b small none = omega arith

-- another bit of the byte in which a bit is turned
xor-other : (byte i j : ℕ) → i ≢ j → bit_xor byte (2 ^ j) / 2 ^ i % 2 ≡ byte / 2 ^ i % 2
xor-other byte i j other =
    bit_at_xor byte (2 ^ j) i ∙ no-bit (byte / 2 ^ i % 2) (2 ^ j / 2 ^ i % 2) (bit_at-lt byte i) (bit_at-pow_other j i other)

-- no other bit is turned with one
pub bit_of-turned : (cells : List ℕ) (bit k : ℕ) → k ≢ bit → bit_of (with_bit_turned cells bit) k ≡ bit_of cells k
bit_of-turned cells bit k other =
    elim (cases_eq (k / 8) (bit / 8)) [
      | inr apart ↦ bit_of-byte (with_bit_turned cells bit) cells k (get_or-set_other cells (bit / 8) (k / 8) _ 0 apart)
      | inl same ↦ elim (cases_lt (bit / 8) (length cells)) [
        | inr past ↦ ap (λ (xs : List ℕ). bit_of xs k) (set_past cells (bit / 8) _ past)
        | inl inside ↦
            (let apart : 7 - k % 8 ≢ 7 - bit % 8 = omega arith in
            ap (λ (i : ℕ). slice_index (with_bit_turned cells bit) i / 2 ^ (7 - k % 8) % 2) same
            ∙ ap (λ (byte : ℕ). byte / 2 ^ (7 - k % 8) % 2) (get_or-set_same cells (bit / 8) _ 0 inside)
            ∙ xor-other (slice_index cells (bit / 8)) (7 - k % 8) (7 - bit % 8) apart
            ∙ ap (λ (i : ℕ). slice_index cells i / 2 ^ (7 - k % 8) % 2) (sym same))
      ]
    ]
