-- Bits of bytes: how many, what they are, and which number they write.
use Rattle.std.proofs.Common.{◌≡◌, ℕ, zero, suc, ◌+◌, ◌-◌, ◌*◌, ◌/◌, ◌%◌, ◌^◌, ◌<◌, ◌≤◌, List, [], ◌∷◌, ◌++◌, length, take, drop, refl, sym, ap, ap₂, ◌∙◌, subst, arith, lit<, length-append, replicate}
use Rattle.std.proofs.lemmas.Nat.{pow_pos, pow-add, mod-pow-add, div-mul-add}
use Rattle.std.proofs.lemmas.List.{take-append-drop, length-drop}
use Rattle.std.proofs.Math.Nat.{pow-suc}
use Rattle.code_model.specs.Word.{number_from, AreBits}
use Rattle.code_model.specs.Bits.{byte_bits, bits_of, bytes_of}

-- ---- the number that bits write
pub number_from-append : (a : ℕ) (xs ys : List ℕ) → number_from a (xs ++ ys) ≡ number_from (number_from a xs) ys
unfolding number_from
number_from-append a [] ys = refl
number_from-append a (x ∷ xs) ys = number_from-append (2 * a + x) xs ys

-- what stands before the bits is moved up by as many places
pub number_from-shift : (a : ℕ) (bs : List ℕ) → number_from a bs ≡ a * 2 ^ length bs + number_from 0 bs
unfolding number_from
number_from-shift a [] = omega arith
number_from-shift a (b ∷ bs) =
    let e = number_from-shift (2 * a + b) bs in
    let e' = number_from-shift (0 + b) bs in
    let q = ap (λ x. a * x) (pow-suc 2 (length bs)) in
    omega arith

pub number_from-lt : (bs : List ℕ) → AreBits bs → number_from 0 bs < 2 ^ length bs
unfolding number_from
number_from-lt [] s = lit< tt
number_from-lt (b ∷ bs) s =
    let ih = number_from-lt bs s.1 in
    let e = number_from-shift (0 + b) bs in
    let q = pow-suc 2 (length bs) in
    let l = digit_le b s.0 in
    omega arith
  where
    digit_le : (b : ℕ) → b < 2 → (0 + b) * 2 ^ length bs ≤ 2 ^ length bs
    digit_le zero h = omega arith
    digit_le (suc zero) h = omega arith
    digit_le (suc (suc b)) h = absurd (omega arith)

pub number_from-same : (xs ys : List ℕ) → AreBits xs → AreBits ys → length xs ≡ length ys → number_from 0 xs ≡ number_from 0 ys → xs ≡ ys
unfolding number_from
number_from-same [] [] s r e q = refl
number_from-same [] (y ∷ ys) s r e q = absurd (omega arith)
number_from-same (x ∷ xs) [] s r e q = absurd (omega arith)
number_from-same (x ∷ xs) (y ∷ ys) s r e q =
    let size : 2 ^ length xs ≡ 2 ^ length ys = ap (λ n. 2 ^ n) (omega arith) in
    let parts = digits x y s.0 r.0 (2 ^ length xs) (number_from 0 xs) (number_from 0 ys) (number_from-lt xs s.1) (let h = number_from-lt ys r.1 in omega arith)
    (let e' = number_from-shift (0 + x) xs in let e'' = number_from-shift (0 + y) ys in let same = ap (λ p. (0 + y) * p) size in omega arith) in
    ap₂ (λ v vs. v ∷ vs) parts.0 (number_from-same xs ys s.1 r.1 (omega arith) parts.1)
  where
    digits : (x y : ℕ) → x < 2 → y < 2 → (p n k : ℕ) → n < p → k < p → (0 + x) * p + n ≡ (0 + y) * p + k → (x ≡ y) × (n ≡ k)
    digits zero zero h l p n k a b e = (refl, omega arith)
    digits zero (suc zero) h l p n k a b e = absurd (omega arith)
    digits (suc zero) zero h l p n k a b e = absurd (omega arith)
    digits (suc zero) (suc zero) h l p n k a b e = (refl, omega arith)
    digits zero (suc (suc y)) h l p n k a b e = absurd (omega arith)
    digits (suc zero) (suc (suc y)) h l p n k a b e = absurd (omega arith)
    digits (suc (suc x)) y h l p n k a b e = absurd (omega arith)

-- ---- bits of bytes
pub length-bits_of : (bytes : List ℕ) → length (bits_of bytes) ≡ 8 * length bytes
unfolding bits_of
length-bits_of [] = refl
length-bits_of (b ∷ bytes) = let ih = length-bits_of bytes in omega (arith, length-append (byte_bits b) (bits_of bytes))

pub AreBits-append : (xs ys : List ℕ) → AreBits xs → AreBits ys → AreBits (xs ++ ys)
AreBits-append [] ys s r = r
AreBits-append (x ∷ xs) ys s r = (s.0, AreBits-append xs ys s.1 r)

AreBits-byte_bits : (b : ℕ) → AreBits (byte_bits b)
AreBits-byte_bits b = (omega arith, (omega arith, (omega arith, (omega arith, (omega arith, (omega arith, (omega arith, (omega arith, tt))))))))

pub AreBits-take : (n : ℕ) (bs : List ℕ) → AreBits bs → AreBits (take n bs)
AreBits-take zero bs s = tt
AreBits-take (suc n) [] s = tt
AreBits-take (suc n) (b ∷ bs) s = (s.0, AreBits-take n bs s.1)

pub AreBits-drop : (n : ℕ) (bs : List ℕ) → AreBits bs → AreBits (drop n bs)
AreBits-drop zero bs s = s
AreBits-drop (suc n) [] s = tt
AreBits-drop (suc n) (b ∷ bs) s = AreBits-drop n bs s.1

pub AreBits-bits_of : (bytes : List ℕ) → AreBits (bits_of bytes)
unfolding bits_of
AreBits-bits_of [] = tt
AreBits-bits_of (b ∷ bytes) = AreBits-append (byte_bits b) (bits_of bytes) (AreBits-byte_bits b) (AreBits-bits_of bytes)

pub length-bytes_of : (n number : ℕ) → length (bytes_of n number) ≡ n
unfolding bytes_of
length-bytes_of zero number = refl
length-bytes_of (suc n) number = ap suc (length-bytes_of n number)

pub number_from-byte : (a b : ℕ) → number_from a (byte_bits b) ≡ a * 256 + b % 256
unfolding number_from
number_from-byte a b = omega arith

pub pow_256 : (n : ℕ) → 256 ^ n ≡ 2 ^ (8 * n)
pow_256 zero = refl
pow_256 (suc n) =
    let e : 8 * suc n ≡ 8 * n + 8 = omega arith in
    pow-suc 256 n ∙ ap (λ x. x * 256) (pow_256 n) ∙ sym (pow-add 2 (8 * n) 8) ∙ ap (λ k. 2 ^ k) (sym e)

-- the bytes of a number write it, as far as they go
pub number_from-bytes_of : (n number : ℕ) → number_from 0 (bits_of (bytes_of n number)) ≡ number % 2 ^ (8 * n)
unfolding bits_of bytes_of number_from
number_from-bytes_of zero number = omega arith
number_from-bytes_of (suc n) number =
    let byte = number / 256 ^ n % 256 in
    let rest = bits_of (bytes_of n number) in
    let p = 2 ^ (8 * n) in
    let long : length rest ≡ 8 * n = length-bits_of (bytes_of n number) ∙ ap (λ k. 8 * k) (length-bytes_of n number) in
    let e : 8 * suc n ≡ 8 + 8 * n = omega arith in
    let first : number_from 0 (byte_bits byte) ≡ byte = number_from-byte 0 byte ∙ omega arith in
    number_from-append 0 (byte_bits byte) rest ∙ ap (λ a. number_from a rest) first ∙ number_from-shift byte rest
    ∙ ap₂ (λ a b. a + b) (ap (λ k. byte * 2 ^ k) long ∙ ap (λ q. number / q % 256 * p) (pow_256 n)) (number_from-bytes_of n number)
    ∙ sym (mod-pow-add number 8 (8 * n)) ∙ ap (λ k. number % 2 ^ k) (sym e)

-- ---- bits cut in two
-- where a number ends in zeros, its first bits write it without them, and the last bits are 0
pub number_from-cut : (k r : ℕ) (bs : List ℕ) → AreBits bs → k ≤ length bs → number_from 0 bs ≡ r * 2 ^ (length bs - k)
    → (number_from 0 (take k bs) ≡ r) × (number_from 0 (drop k bs) ≡ 0)
number_from-cut k r bs s h e =
    let p = 2 ^ (length bs - k) in
    let long : length (drop k bs) ≡ length bs - k = length-drop k bs in
    let low : number_from 0 (drop k bs) < p = subst (λ (n : ℕ). number_from 0 (drop k bs) < 2 ^ n) long (number_from-lt (drop k bs) (AreBits-drop k bs s)) in
    let whole : r * p ≡ number_from 0 (take k bs) * p + number_from 0 (drop k bs) =
    sym e ∙ ap (number_from 0) (sym (take-append-drop k bs)) ∙ number_from-append 0 (take k bs) (drop k bs)
    ∙ number_from-shift (number_from 0 (take k bs)) (drop k bs) ∙ ap (λ n. number_from 0 (take k bs) * 2 ^ n + number_from 0 (drop k bs)) long in
    quotients (number_from 0 (take k bs)) r p (number_from 0 (drop k bs)) low whole
  where
    quotients : (x r p y : ℕ) → y < p → r * p ≡ x * p + y → (x ≡ r) × (y ≡ 0)
    quotients x r p y h e =
        let plain : r * p + 0 ≡ r * p = omega arith in
        let same : x ≡ r = sym (div-mul-add x p y h) ∙ ap (λ n. n / p) (sym e ∙ sym plain) ∙ div-mul-add r p 0 (omega arith) in
        let same' = ap (λ q. q * p) same in
        (same, omega arith)

-- bits that write 0 are zeros
pub zeros_from_number : (bs : List ℕ) → AreBits bs → number_from 0 bs ≡ 0 → bs ≡ replicate (length bs) 0
unfolding number_from
zeros_from_number [] s e = refl
zeros_from_number (zero ∷ bs) s e = ap (λ xs. zero ∷ xs) (zeros_from_number bs s.1 e)
zeros_from_number (suc zero ∷ bs) s e = absurd (let q = number_from-shift 1 bs in let p = pow_pos (length bs) in omega arith)
zeros_from_number (suc (suc b) ∷ bs) s e = absurd (let h = s.0 in omega arith)
