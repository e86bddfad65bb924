-- The parity completes a body to a code word, and nothing else does; the mask undoes itself.
use Rattle.std.proofs.Common.{◌≡◌, ℕ, ◌+◌, ◌-◌, ◌*◌, ◌%◌, ◌^◌, ◌<◌, List, [], ◌∷◌, ◌++◌, length, take, drop, map, replicate, refl, sym, ap, ap₂, ◌∙◌, subst, arith, length-append}
use Rattle.std.specs.Prelude.{bit_xor}
use Rattle.std.proofs.lemmas.Nat.{xor_block, pow_pos, shl_below, mod-mul-add}
use Rattle.std.proofs.lemmas.List.{length-take-le, length-drop, length-map}
use lib.Bits.{xor_zero_r, xor_assoc, xor_self}
use Rattle.code_model.specs.Binary.{product, remainder}
use Rattle.code_model.specs.Word.{number_from, AreBits}
use Rattle.code_model.specs.Bits.{bits_of, xor_bytes}
use Rattle.code_model.specs.Code.{Code, parity_bits, parity_len, generator, IsBchCode, IsCodeWord, parity_number, parity_of, mask_of, masked}
use Rattle.code_model.proofs.BinaryLemmas.{remainder-lt, remainder-small, remainder-xor, remainder-multiple, quotient}
use Rattle.code_model.proofs.PolyLemmas.{xor_cancel}
use Rattle.code_model.proofs.RootLemmas.{generator-degree}
use Rattle.code_model.proofs.ByteLemmas.{number_from-append, number_from-shift, number_from-lt, number_from-same, number_from-cut, zeros_from_number, length-bits_of, AreBits-bits_of, AreBits-append, AreBits-take, AreBits-drop, number_from-bytes_of, length-bytes_of}

-- numbers whose bits do not meet
xor_apart : (a b k : ℕ) → b < 2 ^ k → bit_xor (a * 2 ^ k) b ≡ a * 2 ^ k + b
xor_apart a b k h =
    let e : a * 2 ^ k + 0 ≡ a * 2 ^ k = omega arith in
    let e' : 0 * 2 ^ k + b ≡ b = omega arith in
    ap₂ bit_xor (sym e) (sym e') ∙ xor_block k a 0 0 b (pow_pos k) h ∙ ap (λ x. x * 2 ^ k + b) (xor_zero_r a)

remains : (n p : ℕ) → n < p → n % p ≡ n
remains n p h = let e : 0 * p + n ≡ n = omega arith in ap (λ x. x % p) (sym e) ∙ mod-mul-add 0 p n h

pub length-parity_of : (code : Code) (body : List ℕ) → length (parity_of code body) ≡ parity_len code
unfolding parity_of
length-parity_of code body = length-bytes_of (parity_len code) _

module _ (code : Code) (bch : IsBchCode code) where
  parity_number-lt : (body : List ℕ) → parity_number code body < 2 ^ parity_bits code
  unfolding parity_number
  parity_number-lt body =
      let degree = generator-degree code.degree code.modulus bch.primitive code.strength in
      remainder-lt (parity_bits code) (generator code) _ degree.0 degree.1

  -- the number that parity bytes write
  parity-number : (body : List ℕ) → number_from 0 (bits_of (parity_of code body)) ≡ parity_number code body * 2 ^ (8 * parity_len code - parity_bits code)
  unfolding parity_of
  parity-number body =
      let len = parity_len code in
      let bits = parity_bits code in
      let r = parity_number code body in
      let whole : bits + (8 * len - bits) ≡ 8 * len = omega arith in
      let small : r * 2 ^ (8 * len - bits) < 2 ^ (8 * len) = subst (λ (n : ℕ). r * 2 ^ (8 * len - bits) < 2 ^ n) whole (shl_below r bits (8 * len - bits) (parity_number-lt body)) in
      number_from-bytes_of len (r * 2 ^ (8 * len - bits)) ∙ remains (r * 2 ^ (8 * len - bits)) (2 ^ (8 * len)) small

  parity_cut : (body : List ℕ) → (number_from 0 (take (parity_bits code) (bits_of (parity_of code body))) ≡ parity_number code body) × (number_from 0 (drop (parity_bits code) (bits_of (parity_of code body))) ≡ 0)
  parity_cut body =
      let bits = parity_bits code in
      let bytes = parity_of code body in
      let len : length (bits_of bytes) ≡ 8 * parity_len code = length-bits_of bytes ∙ ap (λ n. 8 * n) (length-parity_of code body) in
      number_from-cut bits (parity_number code body) (bits_of bytes) (AreBits-bits_of bytes) (omega arith)
      (parity-number body ∙ ap (λ n. parity_number code body * 2 ^ (n - bits)) (sym len))

  parity_long : (body : List ℕ) → length (take (parity_bits code) (bits_of (parity_of code body))) ≡ parity_bits code
  parity_long body =
      let bytes = parity_of code body in
      let len : length (bits_of bytes) ≡ 8 * parity_len code = length-bits_of bytes ∙ ap (λ n. 8 * n) (length-parity_of code body) in
      length-take-le (parity_bits code) (bits_of bytes) (omega arith)

  -- the number of a body followed by parity bits
  word_number : (body parity : List ℕ) → length parity ≡ parity_bits code → AreBits parity
      → number_from 0 (bits_of body ++ parity) ≡ bit_xor (number_from 0 (bits_of body) * 2 ^ parity_bits code) (number_from 0 parity)
  word_number body parity e s =
      let n = number_from 0 (bits_of body) in
      let low : number_from 0 parity < 2 ^ parity_bits code = subst (λ (k : ℕ). number_from 0 parity < 2 ^ k) e (number_from-lt parity s) in
      number_from-append 0 (bits_of body) parity ∙ number_from-shift n parity ∙ ap (λ k. n * 2 ^ k + number_from 0 parity) e
      ∙ sym (xor_apart n (number_from 0 parity) (parity_bits code) low)

  pub parity-completes : (body : List ℕ) → length body ≡ code.step_bytes → IsCodeWord code (bits_of body ++ take (parity_bits code) (bits_of (parity_of code body)))
  unfolding parity_number
  parity-completes body e =
      let bits = parity_bits code in
      let g = generator code in
      let parity = take bits (bits_of (parity_of code body)) in
      let n = number_from 0 (bits_of body) * 2 ^ bits in
      let degree = generator-degree code.degree code.modulus bch.primitive code.strength in
      let q = quotient bits g n degree.0 degree.1 in
      let r = remainder bits g n in
      let are = AreBits-take bits (bits_of (parity_of code body)) (AreBits-bits_of (parity_of code body)) in
      let long = parity_long body in
      let first = length-bits_of body in
      record {
        long = length-append (bits_of body) parity ∙ omega arith;
        bits = AreBits-append (bits_of body) parity (AreBits-bits_of body) are;
        multiple = (
          q.0,
          word_number body parity long are ∙ ap₂ bit_xor q.1 (parity_cut body).0
              ∙ xor_assoc (product q.0 g) r r ∙ ap (bit_xor (product q.0 g)) (xor_self r) ∙ xor_zero_r (product q.0 g),
        );
      }

  pub parity-only : (body parity : List ℕ) → length parity ≡ parity_bits code → AreBits parity → IsCodeWord code (bits_of body ++ parity)
      → parity ≡ take (parity_bits code) (bits_of (parity_of code body))
  unfolding parity_number
  parity-only body parity e s word =
      let bits = parity_bits code in
      let g = generator code in
      let n = number_from 0 (bits_of body) * 2 ^ bits in
      let bytes = parity_of code body in
      let degree = generator-degree code.degree code.modulus bch.primitive code.strength in
      let low : number_from 0 parity < 2 ^ bits = subst (λ (k : ℕ). number_from 0 parity < 2 ^ k) e (number_from-lt parity s) in
      let q = word.multiple in
      let none : bit_xor (remainder bits g n) (number_from 0 parity) ≡ 0 =
      (ap (bit_xor (remainder bits g n)) (sym (remainder-small bits g (number_from 0 parity) low))
      ∙ sym (remainder-xor bits g n (number_from 0 parity) degree.0 degree.1)
      ∙ ap (remainder bits g) (sym (word_number body parity e s) ∙ q.1) ∙ remainder-multiple bits g q.0 degree.0 degree.1) in
      number_from-same parity (take bits (bits_of bytes)) s (AreBits-take bits (bits_of bytes) (AreBits-bits_of bytes)) (e ∙ sym (parity_long body))
      (sym (xor_cancel (remainder bits g n) (number_from 0 parity) none) ∙ sym (parity_cut body).0)

  pub parity-padding : (body : List ℕ) → drop (parity_bits code) (bits_of (parity_of code body)) ≡ replicate (8 * parity_len code - parity_bits code) 0
  parity-padding body =
      let bits = parity_bits code in
      let bytes = parity_of code body in
      let len : length (drop bits (bits_of bytes)) ≡ 8 * parity_len code - bits =
      length-drop bits (bits_of bytes) ∙ ap (λ n. n - bits) (length-bits_of bytes ∙ ap (λ n. 8 * n) (length-parity_of code body)) in
      zeros_from_number (drop bits (bits_of bytes)) (AreBits-drop bits (bits_of bytes) (AreBits-bits_of bytes)) (parity_cut body).1
      ∙ ap (λ n. replicate n 0) len

-- ---- the mask
xor_back : (a b : ℕ) → bit_xor (bit_xor a b) b ≡ a
xor_back a b = xor_assoc a b b ∙ ap (bit_xor a) (xor_self b) ∙ xor_zero_r a

xor_bytes-back : (xs ys : List ℕ) → length xs ≡ length ys → xor_bytes (xor_bytes xs ys) ys ≡ xs
unfolding xor_bytes
xor_bytes-back [] ys e = refl
xor_bytes-back (x ∷ xs) [] e = absurd (omega arith)
xor_bytes-back (x ∷ xs) (y ∷ ys) e = ap₂ (λ v vs. v ∷ vs) (xor_back x y) (xor_bytes-back xs ys (omega arith))

xor_bytes-complement : (xs : List ℕ) → xor_bytes xs (map (λ byte. bit_xor byte 0xff) xs) ≡ replicate (length xs) 0xff
unfolding xor_bytes
xor_bytes-complement [] = refl
xor_bytes-complement (x ∷ xs) =
    ap₂ (λ v vs. v ∷ vs) (sym (xor_assoc x x 0xff) ∙ ap (λ v. bit_xor v 0xff) (xor_self x)) (xor_bytes-complement xs)

pub length-mask_of : (code : Code) → length (mask_of code) ≡ parity_len code
unfolding mask_of parity_of
length-mask_of code = length-map _ _ ∙ length-bytes_of (parity_len code) _

-- the mask taken off gives back what it was put on
pub masked-masked : (code : Code) (parity : List ℕ) → length parity ≡ parity_len code → masked code (masked code parity) ≡ parity
unfolding masked
masked-masked code parity e = xor_bytes-back parity (mask_of code) (e ∙ sym (length-mask_of code))

-- the stored parity of an erased body is erased
pub masked-erased : (code : Code) → masked code (parity_of code (replicate code.step_bytes 0xff)) ≡ replicate (parity_len code) 0xff
unfolding masked mask_of parity_of
masked-erased code = xor_bytes-complement (parity_of code (replicate code.step_bytes 0xff)) ∙ ap (λ n. replicate n 0xff) (length-bytes_of (parity_len code) _)
