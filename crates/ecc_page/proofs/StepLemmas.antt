-- What the decoder leaves of a step, as a read of the step.
use Rattle.std.proofs.Common.{◌≡◌, ℕ, zero, suc, ◌+◌, ◌-◌, ◌*◌, ◌<◌, ◌≤◌, List, ◌∷◌, ◌++◌, length, take, drop, get_or, subst, Some, None, refl, sym, ap, ap₂, ◌∙◌, arith}
use Rattle.std.specs.Prelude.{slice_index}
use Rattle.std.proofs.lemmas.List.{length-append, length-take-le, length-drop, take_at, drop_at, take_all, take-append-drop}
use Rattle.code_model.specs.Bits.{bits_of, bit_of, bits_from, bytes_of_bits, xor_bytes}
use Rattle.code_model.specs.Word.{AreBits}
use Rattle.code_model.specs.Code.{code_512, Decodes, nearest, masked, mask_of, parity_len, parity_of}
use Rattle.code_model.proofs.ByteLemmas.{length-bits_of, AreBits-append, AreBits-take, AreBits-bits_of}
use Rattle.code_model.proofs.NearestLemmas.{decodes-nearest, code_512-bch}
use Rattle.code_model.proofs.ParityLemmas.{masked-masked, length-mask_of, length-parity_of}
use Rattle.code_laws.proofs.BytesLemmas.{bytes_of_bits-bits_of, bits_from-part}
use Rattle.nand_model.specs.Page.{read_as, received_word}
use Rattle.ecc_page.specs.Steps.{parity_stored, read_of}
use Rattle.ecc_page.proofs.MaskLemmas.{length-xor, xor-small}

-- bytes, each below 256
abbrev pub AreBytes : List ℕ → Type 0
AreBytes bytes = (k : ℕ) → k < length bytes → slice_index bytes k < 256

pub length-masked : (t : ℕ) (stored : List ℕ) → length stored ≡ parity_len (code_512 t) → length (masked (code_512 t) stored) ≡ parity_len (code_512 t)
unfolding masked
length-masked t stored e = length-xor stored _ (length-mask_of (code_512 t) ∙ sym e) ∙ e

-- the bits of a word with its parity
pub received_word-bits : (t : ℕ) (body stored : List ℕ) → AreBits (received_word (code_512 t) body stored)
received_word-bits t body stored =
    AreBits-append _ _ (AreBits-bits_of body) (AreBits-take (13 * t) _ (AreBits-bits_of (masked (code_512 t) stored)))

pub received_word-long : (t : ℕ) (body stored : List ℕ) → length body ≡ 512 → length stored ≡ parity_len (code_512 t)
    → length (received_word (code_512 t) body stored) ≡ 4096 + 13 * t
received_word-long t body stored lb ls =
    let m = masked (code_512 t) stored in
    let lm : length (bits_of m) ≡ 8 * parity_len (code_512 t) = length-bits_of m ∙ ap (λ n. 8 * n) (length-masked t stored ls) in
    let room : 13 * t ≤ length (bits_of m) = omega arith in
    length-append (bits_of body) (take (13 * t) (bits_of m))
    ∙ ap₂ (λ a b. a + b) (length-bits_of body ∙ ap (λ n. 8 * n) lb) (length-take-le (13 * t) (bits_of m) room)

-- a run of bits that agree
bits_from-same : (xs ys : List ℕ) (k n : ℕ) → ((i : ℕ) → k ≤ i → bit_of xs i ≡ bit_of ys i) → bits_from xs k n ≡ bits_from ys k n
unfolding bits_from
bits_from-same xs ys k zero same = refl
bits_from-same xs ys k (suc n) same = ap₂ (λ b bs. b ∷ bs) (same k (omega arith)) (bits_from-same xs ys (suc k) n (λ i h. same i (omega arith)))

rest_of : (bytes : List ℕ) (k : ℕ) → k ≤ 8 * length bytes → drop k (bits_of bytes) ≡ bits_from bytes k (8 * length bytes - k)
rest_of bytes k h =
    let long = length-bits_of bytes in
    let len : length (drop k (bits_of bytes)) ≤ 8 * length bytes - k = omega (arith, length-drop k (bits_of bytes)) in
    sym (take_all (8 * length bytes - k) (drop k (bits_of bytes)) len) ∙ sym (bits_from-part bytes (8 * length bytes - k) k (omega arith))

-- the padding that is kept
pub same_padding : (xs ys : List ℕ) (k : ℕ) → length xs ≡ length ys → k ≤ 8 * length xs → ((i : ℕ) → k ≤ i → bit_of xs i ≡ bit_of ys i)
    → drop k (bits_of xs) ≡ drop k (bits_of ys)
same_padding xs ys k e h same =
    rest_of xs k h ∙ bits_from-same xs ys k (8 * length xs - k) same ∙ ap (λ n. bits_from ys k (8 * n - k)) e ∙ sym (rest_of ys k (omega arith))

-- a step that was corrected: body and parity without the mask are as the decoder left them
pub read-corrected : (t : ℕ) (body stored body' parity' : List ℕ) (n : ℕ) → t ≤ 16
    → length body ≡ 512 → length stored ≡ parity_len (code_512 t) → length body' ≡ 512 → length parity' ≡ parity_len (code_512 t)
    → AreBytes body' → AreBytes parity'
    → Decodes (code_512 t) (received_word (code_512 t) body stored) (Some (bits_of body' ++ take (13 * t) (bits_of parity'), n))
    → ((k : ℕ) → 13 * t ≤ k → bit_of parity' k ≡ bit_of (masked (code_512 t) stored) k)
    → read_of t body stored ≡ record { body = body'; parity = masked (code_512 t) parity'; corrected = Some n }
read-corrected t body stored body' parity' n small lb ls lb' lp' bb bp decodes padding =
    let code = code_512 t in
    let word = received_word code body stored in
    let word' = bits_of body' ++ take (13 * t) (bits_of parity') in
    let m = masked code stored in
    let lm : length m ≡ parity_len code = length-masked t stored ls in
    let answer : Some (word', n) ≡ nearest code word =
    decodes-nearest code (code_512-bch t small) word (Some (word', n)) (received_word-bits t body stored) (received_word-long t body stored lb ls) decodes in
    let lbits : length (bits_of body') ≡ 4096 = length-bits_of body' ∙ ap (λ n. 8 * n) lb' in
    let first : bytes_of_bits (take 4096 word') ≡ body' = ap bytes_of_bits (take_at (bits_of body') _ 4096 lbits) ∙ bytes_of_bits-bits_of body' bb in
    let rest : drop (13 * t) (bits_of m) ≡ drop (13 * t) (bits_of parity') =
    same_padding m parity' (13 * t) (lm ∙ sym lp') (omega arith) (λ k h. sym (padding k h)) in
    let second : bytes_of_bits (drop 4096 word' ++ drop (13 * t) (bits_of m)) ≡ parity' =
    ap bytes_of_bits (ap₂ (λ x y. x ++ y) (drop_at (bits_of body') _ 4096 lbits) rest ∙ take-append-drop (13 * t) (bits_of parity'))
    ∙ bytes_of_bits-bits_of parity' bp in
    ap (read_as code body stored) (sym answer)
    ∙ ap₂ (λ (x y : List ℕ). record { body = x; parity = masked code y; corrected = Some n }) first second

-- a step that could not be decoded
pub read-failed : (t : ℕ) (body stored : List ℕ) → t ≤ 16 → length body ≡ 512 → length stored ≡ parity_len (code_512 t)
    → Decodes (code_512 t) (received_word (code_512 t) body stored) None
    → read_of t body stored ≡ record { body = body; parity = stored; corrected = None }
read-failed t body stored small lb ls decodes =
    let code = code_512 t in
    let word = received_word code body stored in
    let answer : None ≡ nearest code word =
    decodes-nearest code (code_512-bch t small) word None (received_word-bits t body stored) (received_word-long t body stored lb ls) decodes in
    ap (read_as code body stored) (sym answer)

-- the mask put on is that of the code
pub masked_by : (t : ℕ) (parity mask new : List ℕ) → new ≡ xor_bytes parity mask → mask ≡ mask_of (code_512 t) → new ≡ masked (code_512 t) parity
unfolding masked
masked_by t parity mask new e same = e ∙ ap (xor_bytes parity) same

-- what the mask turns into bytes are bytes
pub masked-bytes : (t : ℕ) (parity mask new : List ℕ) → length parity ≡ parity_len (code_512 t) → new ≡ xor_bytes parity mask → mask ≡ mask_of (code_512 t)
    → ((k : ℕ) → get_or new k 0 < 256) → ((k : ℕ) → get_or mask k 0 < 256) → AreBytes parity
unfolding masked
masked-bytes t parity mask new long e same hn hm k inside =
    let back : xor_bytes new mask ≡ parity = ap₂ xor_bytes (masked_by t parity mask new e same) same ∙ masked-masked (code_512 t) parity long in
    subst (λ (xs : List ℕ). get_or xs k 0 < 256) back (xor-small new mask hn hm k)

pub length-parity_stored : (t : ℕ) (body : List ℕ) → length (parity_stored t body) ≡ parity_len (code_512 t)
length-parity_stored t body = length-masked t (parity_of (code_512 t) body) (length-parity_of (code_512 t) body)
