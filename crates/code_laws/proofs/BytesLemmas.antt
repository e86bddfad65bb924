-- Bytes and their bits, there and back.
use Rattle.std.proofs.Common.{◌≡◌, ℕ, zero, suc, ◌+◌, ◌-◌, ◌*◌, ◌/◌, ◌%◌, ◌^◌, ◌<◌, ◌≤◌, List, [], ◌∷◌, ◌++◌, length, take, drop, refl, sym, ap, ap₂, ◌∙◌, arith, drop-cons}
use Rattle.std.specs.Prelude.{slice_index}
use Rattle.code_model.specs.Word.{number_from, AreBits}
use Rattle.code_model.specs.Bits.{byte_bits, bits_of, bit_of, bits_from, bytes_of_bits}
use Rattle.code_model.proofs.ByteLemmas.{number_from-byte, length-bits_of}

pub bits_of-append : (xs ys : List ℕ) → bits_of (xs ++ ys) ≡ bits_of xs ++ bits_of ys
unfolding bits_of
bits_of-append [] ys = refl
bits_of-append (x ∷ xs) ys = ap (λ bs. byte_bits x ++ bs) (bits_of-append xs ys)

pub bytes_of_bits-bits_of : (bytes : List ℕ) → ((k : ℕ) → k < length bytes → slice_index bytes k < 256) → bytes_of_bits (bits_of bytes) ≡ bytes
unfolding bytes_of_bits bits_of
bytes_of_bits-bits_of [] small = refl
bytes_of_bits-bits_of (b ∷ bytes) small =
    let first : b < 256 = small 0 (omega arith) in
    ap₂ (λ x xs. x ∷ xs) (number_from-byte 0 b ∙ omega arith) (bytes_of_bits-bits_of bytes (λ k h. small (suc k) (omega arith)))

cons : {x y : ℕ} {xs ys : List ℕ} → x ≡ y → xs ≡ ys → x ∷ xs ≡ y ∷ ys
cons e e' = ap₂ (λ v vs. v ∷ vs) e e'

-- the bits of the byte that eight bits write
byte : (a b c d p q r t : ℕ) → a < 2 → b < 2 → c < 2 → d < 2 → p < 2 → q < 2 → r < 2 → t < 2 → (rest : List ℕ)
    → byte_bits (number_from 0 (a ∷ b ∷ c ∷ d ∷ p ∷ q ∷ r ∷ t ∷ [])) ++ rest ≡ a ∷ b ∷ c ∷ d ∷ p ∷ q ∷ r ∷ t ∷ rest
unfolding number_from
byte a b c d p q r t h0 h1 h2 h3 h4 h5 h6 h7 rest =
    let n = 2 * (2 * (2 * (2 * (2 * (2 * (2 * (0 + a) + b) + c) + d) + p) + q) + r) + t in
    let e0 : n / 128 % 2 ≡ a = omega arith in
    let e1 : n / 64 % 2 ≡ b = omega arith in
    let e2 : n / 32 % 2 ≡ c = omega arith in
    let e3 : n / 16 % 2 ≡ d = omega arith in
    let e4 : n / 8 % 2 ≡ p = omega arith in
    let e5 : n / 4 % 2 ≡ q = omega arith in
    let e6 : n / 2 % 2 ≡ r = omega arith in
    let e7 : n % 2 ≡ t = omega arith in
    cons e0 (cons e1 (cons e2 (cons e3 (cons e4 (cons e5 (cons e6 (cons e7 refl)))))))

pub bits_of-bytes_of_bits : (n : ℕ) (bits : List ℕ) → AreBits bits → length bits ≡ 8 * n → bits_of (bytes_of_bits bits) ≡ bits
unfolding bytes_of_bits bits_of number_from
bits_of-bytes_of_bits zero [] s e = refl
bits_of-bytes_of_bits zero (a ∷ bits) s e = absurd (omega arith)
bits_of-bytes_of_bits (suc n) (a ∷ b ∷ c ∷ d ∷ p ∷ q ∷ r ∷ t ∷ bits) s e =
    byte a b c d p q r t s.0 s.1.0 s.1.1.0 s.1.1.1.0 s.1.1.1.1.0 s.1.1.1.1.1.0 s.1.1.1.1.1.1.0 s.1.1.1.1.1.1.1.0 (bits_of (bytes_of_bits bits))
    ∙ ap (λ xs. a ∷ b ∷ c ∷ d ∷ p ∷ q ∷ r ∷ t ∷ xs) (bits_of-bytes_of_bits n bits s.1.1.1.1.1.1.1.1 (omega arith))
bits_of-bytes_of_bits (suc n) _ s e = absurd (omega arith)

pub bit-bits_of : (bytes : List ℕ) (k : ℕ) → k < 8 * length bytes → slice_index (bits_of bytes) k ≡ bit_of bytes k
unfolding bits_of
bit-bits_of [] k h = absurd (omega arith)
bit-bits_of (b ∷ bytes) (suc (suc (suc (suc (suc (suc (suc (suc k)))))))) h =
    let j = suc (suc (suc (suc (suc (suc (suc (suc k))))))) in
    let e : j / 8 ≡ suc (k / 8) = omega arith in
    let e' : j % 8 ≡ k % 8 = omega arith in
    bit-bits_of bytes k (omega arith) ∙ sym (ap₂ (λ x y. slice_index (b ∷ bytes) x / 2 ^ (7 - y) % 2) e e')
bit-bits_of (b ∷ bytes) zero h = refl
bit-bits_of (b ∷ bytes) (suc zero) h = refl
bit-bits_of (b ∷ bytes) (suc (suc zero)) h = refl
bit-bits_of (b ∷ bytes) (suc (suc (suc zero))) h = refl
bit-bits_of (b ∷ bytes) (suc (suc (suc (suc zero)))) h = refl
bit-bits_of (b ∷ bytes) (suc (suc (suc (suc (suc zero))))) h = refl
bit-bits_of (b ∷ bytes) (suc (suc (suc (suc (suc (suc zero)))))) h = refl
bit-bits_of (b ∷ bytes) (suc (suc (suc (suc (suc (suc (suc zero))))))) h = omega arith

-- a run of bits is a part of all bits
pub bits_from-part : (bytes : List ℕ) (n k : ℕ) → k + n ≤ 8 * length bytes → bits_from bytes k n ≡ take n (drop k (bits_of bytes))
unfolding bits_from
bits_from-part bytes zero k h = refl
bits_from-part bytes (suc n) k h =
    let long = length-bits_of bytes in
    let inside : k < length (bits_of bytes) = omega arith in
    cons (sym (bit-bits_of bytes k (omega arith))) (bits_from-part bytes n (suc k) (omega arith)) ∙ sym (ap (take (suc n)) (drop-cons (bits_of bytes) k 0 inside))
