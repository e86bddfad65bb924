-- Words of bits as numbers, as far as bytes were taken in or written.
use Rattle.std.proofs.Common.{◌≡◌, ℕ, zero, suc, ◌+◌, ◌-◌, ◌*◌, ◌/◌, ◌%◌, ◌^◌, ◌<◌, ◌≤◌, List, [], ◌∷◌, ◌++◌, length, get_or, take, drop, refl, sym, ap, ap₂, ◌∙◌, subst, arith, append_assoc, length-drop, lit<}
use Rattle.std.proofs.lemmas.List.{take_more, take-append-drop, same_lists, length-take-le, get_or_default}
use Rattle.std.proofs.lemmas.Nat.{div-mul-add}
use Rattle.std.proofs.Math.Nat.{pow-le-pow_right}
use Rattle.code_model.specs.Bits.{byte_bits, bits_of, bytes_of}
use Rattle.code_model.specs.Word.{number_from, AreBits}
use Rattle.code_model.proofs.ByteLemmas.{number_from-append, number_from-shift, number_from-lt, number_from-byte, length-bits_of, AreBits-bits_of, AreBits-take, AreBits-drop, length-bytes_of, pow_256}

-- ---- bytes taken in
bits_of-append : (xs ys : List ℕ) → bits_of (xs ++ ys) ≡ bits_of xs ++ bits_of ys
unfolding bits_of
bits_of-append [] ys = refl
bits_of-append (x ∷ xs) ys = ap (λ bs. byte_bits x ++ bs) (bits_of-append xs ys) ∙ sym (append_assoc (byte_bits x) (bits_of xs) (bits_of ys))

-- one more byte
pub number_of-more : (bytes : List ℕ) (k : ℕ) → k < length bytes → get_or bytes k 0 < 2 ^ 8
    → number_from 0 (bits_of (take (k + 1) bytes)) ≡ number_from 0 (bits_of (take k bytes)) * 256 + get_or bytes k 0
unfolding bits_of
number_of-more bytes k h s =
    let b = get_or bytes k 0 in
    let n = number_from 0 (bits_of (take k bytes)) in
    let whole : b % 256 ≡ b = omega arith in
    ap (λ bs. number_from 0 (bits_of bs)) (take_more bytes k 0 h)
    ∙ ap (number_from 0) (bits_of-append (take k bytes) (b ∷ []))
    ∙ number_from-append 0 (bits_of (take k bytes)) (byte_bits b)
    ∙ number_from-byte n b ∙ ap (λ x. n * 256 + x) whole

-- the number of fewer than 32 bytes has room for one more
pub number_of-room : (bytes : List ℕ) (k : ℕ) → k < length bytes → length bytes ≤ 32 → number_from 0 (bits_of (take k bytes)) < 2 ^ 248
number_of-room bytes k h w =
    let first = take k bytes in
    let long : length (bits_of first) ≤ 248 = (let a = length-bits_of first in let b = length-take-le k bytes (omega arith) in omega arith) in
    let small = number_from-lt (bits_of first) (AreBits-bits_of first) in
    let wide : 2 ^ length (bits_of first) ≤ 2 ^ 248 = pow-le-pow_right (lit< tt) long in
    omega arith

-- ---- the first bits of a word
number_from-take : (d : ℕ) (bs : List ℕ) → AreBits bs → d ≤ length bs → number_from 0 (take d bs) ≡ number_from 0 bs / 2 ^ (length bs - d)
number_from-take d bs s h =
    let rest = drop d bs in
    let n = number_from 0 (take d bs) in
    let long : length rest ≡ length bs - d = length-drop d bs in
    let small = number_from-lt rest (AreBits-drop d bs s) in
    let whole : number_from 0 bs ≡ n * 2 ^ length rest + number_from 0 rest =
    (ap (number_from 0) (sym (take-append-drop d bs)) ∙ number_from-append 0 (take d bs) rest ∙ number_from-shift n rest) in
    sym (ap₂ (λ x k. x / 2 ^ k) whole (sym long) ∙ div-mul-add n (2 ^ length rest) (number_from 0 rest) small)

pub number_from-word : (d : ℕ) (bs ps : List ℕ) → AreBits ps → d ≤ length ps → number_from 0 (bs ++ take d ps) ≡ number_from 0 bs * 2 ^ d + number_from 0 ps / 2 ^ (length ps - d)
number_from-word d bs ps s h =
    let n = number_from 0 bs in
    number_from-append 0 bs (take d ps) ∙ number_from-shift n (take d ps)
    ∙ ap₂ (λ k p. n * 2 ^ k + p) (length-take-le d ps h) (number_from-take d ps s h)

pub number_from_take-lt : (d : ℕ) (ps : List ℕ) → AreBits ps → d ≤ length ps → number_from 0 ps / 2 ^ (length ps - d) < 2 ^ d
number_from_take-lt d ps s h =
    subst (λ (x : ℕ). x < 2 ^ d) (number_from-take d ps s h)
    (subst (λ (k : ℕ). number_from 0 (take d ps) < 2 ^ k) (length-take-le d ps h) (number_from-lt (take d ps) (AreBits-take d ps s)))

-- ---- the bytes of a number
get_or-bytes_of : (n number k d : ℕ) → k < n → get_or (bytes_of n number) k d ≡ number / 2 ^ (8 * (n - 1 - k)) % 256
unfolding bytes_of
get_or-bytes_of zero number k d h = absurd (omega arith)
get_or-bytes_of (suc n) number zero d h = let e : n ≡ suc n - 1 - 0 = omega arith in ap (λ x. number / x % 256) (pow_256 n) ∙ ap (λ i. number / 2 ^ (8 * i) % 256) e
get_or-bytes_of (suc n) number (suc k) d h = let e : n - 1 - k ≡ suc n - 1 - suc k = omega arith in get_or-bytes_of n number k d (omega arith) ∙ ap (λ i. number / 2 ^ (8 * i) % 256) e

-- a list of these bytes
pub same_bytes : (n number : ℕ) (out : List ℕ) → length out ≡ n → ((k : ℕ) → k < n → get_or out k 0 ≡ number / 2 ^ (8 * (n - 1 - k)) % 256) → out ≡ bytes_of n number
same_bytes n number out e bytes =
    same_lists out (bytes_of n number) (e ∙ sym (length-bytes_of n number))
    (λ k d h. get_or_default out k d 0 h ∙ bytes k (omega arith) ∙ sym (get_or-bytes_of n number k d (omega arith)))
