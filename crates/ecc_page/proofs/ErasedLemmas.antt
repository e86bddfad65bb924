-- Zero bits of bytes, and the read of an erased step.
use Rattle.std.proofs.Common.{◌≡◌, ℕ, zero, suc, ◌+◌, ◌-◌, ◌*◌, ◌/◌, ◌%◌, ◌^◌, ◌<◌, ◌≤◌, List, [], ◌∷◌, ◌++◌, length, take, get_or, cond, Some, refl, sym, ap, ap₂, ◌∙◌, arith}
use Rattle.std.specs.Prelude.{count_by, replicate, slice_index, count_ones}
use Rattle.std.proofs.lemmas.List.{length-replicate, get_or-replicate, replicate-append-replicate, take-replicate, take-append-drop, length-take-le, length-append}
use Rattle.std.proofs.lemmas.List.Sums.{sum_by-cons, sum_by-append}
use Rattle.std.proofs.Common.{w8}
use Rattle.std.proofs.lemmas.Nat.Bits.{bit_at-lt, bit_at_not}
use lib.Count.{ones_step}
use Rattle.std.proofs.lemmas.Nat.{ones_le_self}
use Rattle.std.proofs.lemmas.List.{take_all, take_more}
use Rattle.std.proofs.lemmas.List.Sums.{count_by-le-length}
use Rattle.std.proofs.Math.Seq.{take-append-add}
use Rattle.code_laws.proofs.BytesLemmas.{bits_of-append}
use Rattle.code_model.specs.Bits.{byte_bits, bits_of}
use Rattle.code_model.specs.Word.{AreBits, distance}
use Rattle.code_model.specs.Code.{code_512, parity_len}
use Rattle.code_model.proofs.ByteLemmas.{length-bits_of, AreBits-append, AreBits-take, AreBits-bits_of}
use Rattle.code_model.proofs.DistanceLemmas.{distance-cons_same, distance-cons_off, distance-same}
use Rattle.code_model.proofs.ParityLemmas.{masked-erased}
use Rattle.ecc_page.specs.Erased.{is_zero, zero_bits, IsErasedRead}
use Rattle.ecc_page.specs.Steps.{parity_stored, read_of}
use Rattle.ecc_page.proofs.StepLemmas.{AreBytes}
use Rattle.ecc_page.proofs.NearLemmas.{reads_back}

-- the distance to a word of ones
distance-ones : (w : List ℕ) → AreBits w → distance w (replicate (length w) 1) ≡ count_by is_zero w
distance-ones [] bits = distance-same []
distance-ones (zero ∷ w) bits =
    distance-cons_off 0 1 w (replicate (length w) 1) (λ e. absurd (omega arith)) ∙ ap suc (distance-ones w bits.1)
    ∙ sym (sum_by-cons (λ x. cond (is_zero x) 1 0) 0 w ∙ omega arith)
distance-ones (suc zero ∷ w) bits =
    distance-cons_same 1 1 w (replicate (length w) 1) refl ∙ distance-ones w bits.1
    ∙ sym (sum_by-cons (λ x. cond (is_zero x) 1 0) 1 w ∙ omega arith)
distance-ones (suc (suc x) ∷ w) bits = let h : suc (suc x) < 2 = bits.0 in absurd (omega arith)

bits_of-ones : (n : ℕ) → bits_of (replicate n 0xff) ≡ replicate (8 * n) 1
unfolding bits_of
bits_of-ones zero = refl
bits_of-ones (suc n) =
    ap (λ bs. 1 ∷ 1 ∷ 1 ∷ 1 ∷ 1 ∷ 1 ∷ 1 ∷ 1 ∷ bs) (bits_of-ones n)
    ∙ (let e : 8 * suc n ≡ suc (suc (suc (suc (suc (suc (suc (suc (8 * n)))))))) = omega arith in ap (λ k. replicate k 1) (sym e))

ones-bytes : (n : ℕ) → AreBytes (replicate n 0xff)
ones-bytes n k inside =
    let byte : ℕ = 0xff in
    let long : length (replicate n byte) ≡ n = length-replicate n byte in
    let e : slice_index (replicate n byte) k ≡ 0xff = get_or-replicate n k byte 0 (omega arith) in
    omega arith

-- the word of an erased step
erased_word : (t : ℕ) → bits_of (replicate 512 0xff) ++ take (13 * t) (bits_of (parity_stored t (replicate 512 0xff))) ≡ replicate (4096 + 13 * t) 1
erased_word t =
    let e = parity_len (code_512 t) in
    let front : take (13 * t) (bits_of (parity_stored t (replicate 512 0xff))) ≡ replicate (13 * t) 1 =
    ap (λ xs. take (13 * t) (bits_of xs)) (masked-erased (code_512 t)) ∙ ap (take (13 * t)) (bits_of-ones e)
    ∙ take-replicate (13 * t) (8 * e) 1 (omega arith) in
    ap₂ (λ xs ys. xs ++ ys) (bits_of-ones 512) front ∙ replicate-append-replicate 4096 (13 * t) 1

-- a step with few zero bits is read as an erased one
pub erased_reads : (t : ℕ) (body stored : List ℕ) → t ≤ 16 → length body ≡ 512 → length stored ≡ parity_len (code_512 t) → zero_bits t body stored ≤ t
    → IsErasedRead t stored (zero_bits t body stored) (read_of t body stored)
erased_reads t body stored small lb ls few =
    let ones = replicate 512 0xff in
    let word = bits_of body ++ take (13 * t) (bits_of stored) in
    let lbody : length (bits_of body) ≡ 4096 = length-bits_of body ∙ ap (λ n. 8 * n) lb in
    let lstored : length (bits_of stored) ≡ 8 * parity_len (code_512 t) = length-bits_of stored ∙ ap (λ n. 8 * n) ls in
    let lfront : length (take (13 * t) (bits_of stored)) ≡ 13 * t = length-take-le (13 * t) (bits_of stored) (omega arith) in
    let long : length word ≡ 4096 + 13 * t = length-append (bits_of body) (take (13 * t) (bits_of stored)) ∙ ap₂ (λ a b. a + b) lbody lfront in
    let bits : AreBits word = AreBits-append _ _ (AreBits-bits_of body) (AreBits-take (13 * t) _ (AreBits-bits_of stored)) in
    let off : distance word (bits_of ones ++ take (13 * t) (bits_of (parity_stored t ones))) ≡ zero_bits t body stored =
    ap (distance word) (erased_word t ∙ ap (λ n. replicate n 1) (sym long)) ∙ distance-ones word bits in
    let near : distance word (bits_of ones ++ take (13 * t) (bits_of (parity_stored t ones))) ≤ t = omega arith in
    let back = reads_back t body stored ones small lb ls (length-replicate {A = ℕ} 512 0xff) (ones-bytes 512) near in
    let front : take (13 * t) (bits_of (parity_stored t ones)) ≡ replicate (13 * t) 1 =
    ap (λ xs. take (13 * t) (bits_of xs)) (masked-erased (code_512 t)) ∙ ap (take (13 * t)) (bits_of-ones (parity_len (code_512 t)))
    ∙ take-replicate (13 * t) (8 * parity_len (code_512 t)) 1 (omega arith) in
    record {
      body = back.body;
      parity = sym (take-append-drop (13 * t) (bits_of (read_of t body stored).parity)) ∙ ap₂ (λ xs ys. xs ++ ys) (back.front ∙ front) back.back;
      corrected = back.corrected ∙ ap (λ n. Some n) off;
    }

-- ---- zero bits of bytes
one_off : (x y : ℕ) → x < 2 → y ≡ 1 - x → cond (is_zero x) 1 0 ≡ y
one_off zero y h e = sym e
one_off (suc zero) y h e = sym e
one_off (suc (suc x)) y h e = absurd (omega arith)

-- the bit of a byte is 0 where that of its complement is 1
off_at : (b k : ℕ) → b < 256 → k < 8 → cond (is_zero (b / 2 ^ k % 2)) 1 0 ≡ (255 - b) / 2 ^ k % 2
off_at b k small inside = one_off (b / 2 ^ k % 2) ((255 - b) / 2 ^ k % 2) (bit_at-lt b k) (bit_at_not w8 b k small inside)

ones-half : (n k m : ℕ) → n / k / 2 ≡ n / m → count_ones (n / k) ≡ n / k % 2 + count_ones (n / m)
ones-half n k m e = ones_step (n / k) ∙ ap (λ x. n / k % 2 + count_ones x) e

ones-none : count_ones 0 ≡ 0
ones-none = let most = ones_le_self 0 in omega arith

add_more : (a m bit y p : ℕ) → a ≡ y + m → bit ≡ y → m ≡ p → a ≡ p + bit
add_more a m bit y p e e' e'' = omega arith

-- the zero bits of a byte from the highest on, one more in each part
zeros_down : (b : ℕ) → b < 256
    → (count_by is_zero (take 1 (byte_bits b)) ≡ count_ones ((255 - b) / 128)) × (count_by is_zero (take 2 (byte_bits b)) ≡ count_ones ((255 - b) / 64))
    × (count_by is_zero (take 3 (byte_bits b)) ≡ count_ones ((255 - b) / 32)) × (count_by is_zero (take 4 (byte_bits b)) ≡ count_ones ((255 - b) / 16))
    × (count_by is_zero (take 5 (byte_bits b)) ≡ count_ones ((255 - b) / 8)) × (count_by is_zero (take 6 (byte_bits b)) ≡ count_ones ((255 - b) / 4))
    × (count_by is_zero (take 7 (byte_bits b)) ≡ count_ones ((255 - b) / 2)) × (count_by is_zero (take 8 (byte_bits b)) ≡ count_ones (255 - b))
zeros_down b small =
    let n = 255 - b in
    let none : count_ones (n / 256) ≡ 0 = (let z : n / 256 ≡ 0 = omega arith in ap count_ones z ∙ ones-none) in
    let e7 = add_more _ _ _ _ _ (ones-half n 128 256 (omega arith)) (off_at b 7 small (omega arith)) none in
    let e6 = add_more _ _ _ _ _ (ones-half n 64 128 (omega arith)) (off_at b 6 small (omega arith)) e7 in
    let e5 = add_more _ _ _ _ _ (ones-half n 32 64 (omega arith)) (off_at b 5 small (omega arith)) e6 in
    let e4 = add_more _ _ _ _ _ (ones-half n 16 32 (omega arith)) (off_at b 4 small (omega arith)) e5 in
    let e3 = add_more _ _ _ _ _ (ones-half n 8 16 (omega arith)) (off_at b 3 small (omega arith)) e4 in
    let e2 = add_more _ _ _ _ _ (ones-half n 4 8 (omega arith)) (off_at b 2 small (omega arith)) e3 in
    let e1 = add_more _ _ _ _ _ (ones-half n 2 4 (omega arith)) (off_at b 1 small (omega arith)) e2 in
    let low : cond (is_zero (b % 2)) 1 0 ≡ n % 2 = one_off (b % 2) (n % 2) (omega arith) (omega arith) in
    let e0 = add_more _ _ _ _ _ (ones_step n) low e1 in
    (sym e7, sym e6, sym e5, sym e4, sym e3, sym e2, sym e1, sym e0)

-- how many of the first bits of a byte are 0
front-zeros : (b r : ℕ) → b < 256 → 0 < r → r ≤ 8 → count_by is_zero (take r (byte_bits b)) ≡ count_ones ((255 - b) / 2 ^ (8 - r))
front-zeros b zero small low high = absurd (omega arith)
front-zeros b (suc zero) small low high = (zeros_down b small).0
front-zeros b (suc (suc zero)) small low high = (zeros_down b small).1
front-zeros b (suc (suc (suc zero))) small low high = (zeros_down b small).2
front-zeros b (suc (suc (suc (suc zero)))) small low high = (zeros_down b small).3
front-zeros b (suc (suc (suc (suc (suc zero))))) small low high = (zeros_down b small).4
front-zeros b (suc (suc (suc (suc (suc (suc zero)))))) small low high = (zeros_down b small).5
front-zeros b (suc (suc (suc (suc (suc (suc (suc zero))))))) small low high = (zeros_down b small).6
front-zeros b (suc (suc (suc (suc (suc (suc (suc (suc zero)))))))) small low high =
    let one : 255 - b ≡ (255 - b) / 1 = omega arith in (zeros_down b small).7 ∙ ap count_ones one
front-zeros b (suc (suc (suc (suc (suc (suc (suc (suc (suc r))))))))) small low high = absurd (omega arith)

bits_of-push : (bytes : List ℕ) (b : ℕ) → bits_of (bytes ++ b ∷ []) ≡ bits_of bytes ++ byte_bits b
unfolding bits_of
bits_of-push bytes b = bits_of-append bytes (b ∷ [])

-- one more byte
pub zeros_more : (bytes : List ℕ) (k : ℕ) → k < length bytes → get_or bytes k 0 < 256
    → count_by is_zero (bits_of (take (k + 1) bytes)) ≡ count_by is_zero (bits_of (take k bytes)) + count_ones (255 - get_or bytes k 0)
zeros_more bytes k inside small =
    let b = get_or bytes k 0 in
    ap (λ xs. count_by is_zero (bits_of xs)) (take_more bytes k 0 inside) ∙ ap (count_by is_zero) (bits_of-push (take k bytes) b)
    ∙ sum_by-append (λ x. cond (is_zero x) 1 0) (bits_of (take k bytes)) (byte_bits b)
    ∙ ap (λ n. count_by is_zero (bits_of (take k bytes)) + n) (zeros_down b small).7

pub zeros_none : count_by is_zero (bits_of []) ≡ 0
unfolding bits_of
zeros_none = refl

pub zeros_most : (bytes : List ℕ) (k : ℕ) → k ≤ length bytes → count_by is_zero (bits_of (take k bytes)) ≤ 8 * k
zeros_most bytes k inside =
    let most = count_by-le-length is_zero (bits_of (take k bytes)) in
    let long = length-bits_of (take k bytes) in
    let len = length-take-le k bytes inside in
    omega arith

-- the zero bits of a step's word: those of the body, of all bytes of its parity but the last, and
-- of the last without its padding
pub zero_bits_parts : (t : ℕ) (body stored : List ℕ) → 0 < t → length stored ≡ parity_len (code_512 t) → get_or stored (length stored - 1) 0 < 256
    → count_by is_zero (bits_of body) + count_by is_zero (bits_of (take (length stored - 1) stored))
    + count_ones ((255 - get_or stored (length stored - 1) 0) / 2 ^ (8 * length stored - 13 * t))
    ≡ zero_bits t body stored
zero_bits_parts t body stored low long small =
    let last = length stored - 1 in
    let b = get_or stored last 0 in
    let front = bits_of (take last stored) in
    let r = 13 * t - 8 * last in
    let f = λ (x : ℕ). cond (is_zero x) 1 0 in
    let one : last + 1 ≡ length stored = omega arith in
    let inside : last < length stored = omega arith in
    let all : length stored ≤ last + 1 = omega arith in
    let split : stored ≡ take last stored ++ b ∷ [] = sym (take_all (last + 1) stored all) ∙ take_more stored last 0 inside in
    let lfront : length front ≡ 8 * last = length-bits_of (take last stored) ∙ ap (λ n. 8 * n) (length-take-le last stored (omega arith)) in
    let place : 13 * t ≡ length front + r = omega arith in
    let cut : take (13 * t) (bits_of stored) ≡ front ++ take r (byte_bits b) =
    ap₂ take place (ap bits_of split ∙ bits_of-push (take last stored) b) ∙ take-append-add front (byte_bits b) r in
    let shift : 8 - r ≡ 8 * length stored - 13 * t = omega arith in
    let rlow : 0 < r = omega arith in
    let rhigh : r ≤ 8 = omega arith in
    let end : count_by is_zero (take r (byte_bits b)) ≡ count_ones ((255 - b) / 2 ^ (8 * length stored - 13 * t)) =
    front-zeros b r small rlow rhigh ∙ ap (λ n. count_ones ((255 - b) / 2 ^ n)) shift in
    let whole : zero_bits t body stored ≡ count_by is_zero (bits_of body) + (count_by is_zero front + count_by is_zero (take r (byte_bits b))) =
    sum_by-append f (bits_of body) (take (13 * t) (bits_of stored))
    ∙ ap (λ n. count_by is_zero (bits_of body) + n) (ap (count_by is_zero) cut ∙ sum_by-append f front (take r (byte_bits b))) in
    omega arith
