-- A step whose word is near to one that was written.
use Rattle.std.proofs.Common.{◌≡◌, ℕ, ◌+◌, ◌*◌, ◌≤◌, List, ◌++◌, length, take, drop, Some, refl, sym, ap, ap₂, ◌∙◌, subst, arith}
use Rattle.std.proofs.lemmas.List.{length-append, length-take-le, length-drop, take_at, drop_at}
use Rattle.code_model.specs.Bits.{bits_of, bytes_of_bits}
use Rattle.code_model.specs.Word.{AreBits, distance}
use Rattle.code_model.specs.Code.{code_512, IsNearest, nearest, masked, mask_of, parity_len, parity_of}
use Rattle.code_model.proofs.ByteLemmas.{length-bits_of, AreBits-append, AreBits-take, AreBits-drop, AreBits-bits_of}
use Rattle.code_model.proofs.NearestLemmas.{decodes-nearest, code_512-bch}
use Rattle.code_model.proofs.ParityLemmas.{parity-completes, masked-masked, length-mask_of, length-parity_of}
use Rattle.code_laws.proofs.BytesLemmas.{bytes_of_bits-bits_of, bits_of-bytes_of_bits}
use Rattle.nand_model.specs.Page.{StepRead, read_as, received_word}
use Rattle.ecc_page.specs.Steps.{parity_stored, read_of}
use Rattle.ecc_page.proofs.MaskLemmas.{sum_bits, bits_of-xor, take-sum, drop-sum, distance-sum, distance-append}
use Rattle.ecc_page.proofs.StepLemmas.{AreBytes, length-masked, received_word-bits, received_word-long}

mask_bits : ℕ → List ℕ
mask_bits t = bits_of (mask_of (code_512 t))

-- the mask turns the parity's bits
masked-front : (t : ℕ) (p : List ℕ) → length p ≡ parity_len (code_512 t)
    → take (13 * t) (bits_of (masked (code_512 t) p)) ≡ sum_bits (take (13 * t) (bits_of p)) (take (13 * t) (mask_bits t))
unfolding masked mask_bits
masked-front t p e =
    ap (take (13 * t)) (bits_of-xor p (mask_of (code_512 t)) (length-mask_of (code_512 t) ∙ sym e)) ∙ take-sum (13 * t) (bits_of p) (mask_bits t)

length-mask_bits : (t : ℕ) → length (mask_bits t) ≡ 8 * parity_len (code_512 t)
unfolding mask_bits
length-mask_bits t = length-bits_of (mask_of (code_512 t)) ∙ ap (λ n. 8 * n) (length-mask_of (code_512 t))

length-parity_bits : (t : ℕ) (p : List ℕ) → length p ≡ parity_len (code_512 t) → length (bits_of p) ≡ 8 * parity_len (code_512 t)
length-parity_bits t p e = length-bits_of p ∙ ap (λ n. 8 * n) e

-- and the padding's
masked-back : (t : ℕ) (p : List ℕ) → length p ≡ parity_len (code_512 t)
    → drop (13 * t) (bits_of (masked (code_512 t) p)) ≡ sum_bits (drop (13 * t) (bits_of p)) (drop (13 * t) (mask_bits t))
unfolding masked mask_bits
masked-back t p e =
    ap (drop (13 * t)) (bits_of-xor p (mask_of (code_512 t)) (length-mask_of (code_512 t) ∙ sym e))
    ∙ drop-sum (13 * t) (bits_of p) (mask_bits t) (length-mask_bits t ∙ sym (length-parity_bits t p e))

-- words are as far apart with the mask as without it
pub mask-distance : (t : ℕ) (b b' p p' : List ℕ) → length b' ≡ length b → length p ≡ parity_len (code_512 t) → length p' ≡ parity_len (code_512 t)
    → distance (received_word (code_512 t) b p) (received_word (code_512 t) b' p')
    ≡ distance (bits_of b ++ take (13 * t) (bits_of p)) (bits_of b' ++ take (13 * t) (bits_of p'))
mask-distance t b b' p p' lb lp lp' =
    let code = code_512 t in
    let x = take (13 * t) (bits_of p) in
    let x' = take (13 * t) (bits_of p') in
    let m = take (13 * t) (mask_bits t) in
    let lm = length-mask_bits t in
    let lbits = length-parity_bits t p lp in
    let lbits' = length-parity_bits t p' lp' in
    let lx : length x ≡ 13 * t = length-take-le (13 * t) (bits_of p) (omega arith) in
    let lx' : length x' ≡ 13 * t = length-take-le (13 * t) (bits_of p') (omega arith) in
    let lmt : length m ≡ 13 * t = length-take-le (13 * t) (mask_bits t) (omega arith) in
    let long : length (bits_of b') ≡ length (bits_of b) = length-bits_of b' ∙ ap (λ n. 8 * n) lb ∙ sym (length-bits_of b) in
    distance-append (bits_of b) (bits_of b') (take (13 * t) (bits_of (masked code p))) (take (13 * t) (bits_of (masked code p'))) long
    ∙ ap (λ n. distance (bits_of b) (bits_of b') + n)
    (ap₂ distance (masked-front t p lp) (masked-front t p' lp')
    ∙ distance-sum x x' m (AreBits-take (13 * t) _ (AreBits-bits_of p)) (AreBits-take (13 * t) _ (AreBits-bits_of p')) (lx' ∙ sym lx) (lmt ∙ sym lx))
    ∙ sym (distance-append (bits_of b) (bits_of b') x x' long)

-- a read gives the body and the parity bits that were written, its padding as it was stored, and d
-- for the bits that were off
pub record ReadsBack (t : ℕ) (written stored : List ℕ) (d : ℕ) (read : StepRead) : Type 0 where
  pub body : read.body ≡ written
  pub front : take (13 * t) (bits_of read.parity) ≡ take (13 * t) (bits_of (parity_stored t written))
  pub back : drop (13 * t) (bits_of read.parity) ≡ drop (13 * t) (bits_of stored)
  pub long : length read.parity ≡ parity_len (code_512 t)
  pub corrected : read.corrected ≡ Some d

-- the parity that is made of a code word's bits and the padding that was received
parity_back : (t : ℕ) (p stored : List ℕ) → length p ≡ parity_len (code_512 t) → length stored ≡ parity_len (code_512 t)
    → (q : List ℕ) × (q ≡ bytes_of_bits (take (13 * t) (bits_of p) ++ drop (13 * t) (bits_of (masked (code_512 t) stored))))
    × (length q ≡ parity_len (code_512 t))
    × (take (13 * t) (bits_of q) ≡ take (13 * t) (bits_of p))
    × (drop (13 * t) (bits_of q) ≡ drop (13 * t) (bits_of (masked (code_512 t) stored)))
parity_back t p stored lp ls =
    let e = parity_len (code_512 t) in
    let m = masked (code_512 t) stored in
    let lm : length (bits_of m) ≡ 8 * e = length-parity_bits t m (length-masked t stored ls) in
    let lbits = length-parity_bits t p lp in
    let front = take (13 * t) (bits_of p) in
    let back = drop (13 * t) (bits_of m) in
    let lf : length front ≡ 13 * t = length-take-le (13 * t) (bits_of p) (omega arith) in
    let lb = length-drop (13 * t) (bits_of m) in
    let whole : length (front ++ back) ≡ 8 * e = length-append front back ∙ omega arith in
    let bits : AreBits (front ++ back) =
    AreBits-append front back (AreBits-take (13 * t) _ (AreBits-bits_of p)) (AreBits-drop (13 * t) _ (AreBits-bits_of m)) in
    let q = bytes_of_bits (front ++ back) in
    let same : bits_of q ≡ front ++ back = bits_of-bytes_of_bits e (front ++ back) bits whole in
    let lq : 8 * length q ≡ 8 * e = sym (length-bits_of q) ∙ ap length same ∙ whole in
    (q, refl, omega arith, ap (take (13 * t)) same ∙ take_at front back (13 * t) lf, ap (drop (13 * t)) same ∙ drop_at front back (13 * t) lf)

near_code_word : (t : ℕ) (body stored written : List ℕ) → t ≤ 16
    → length body ≡ 512 → length stored ≡ parity_len (code_512 t) → length written ≡ 512
    → distance (bits_of body ++ take (13 * t) (bits_of stored)) (bits_of written ++ take (13 * t) (bits_of (parity_stored t written))) ≤ t
    → IsNearest (code_512 t) (received_word (code_512 t) body stored) (bits_of written ++ take (13 * t) (bits_of (parity_of (code_512 t) written)))
    (distance (bits_of body ++ take (13 * t) (bits_of stored)) (bits_of written ++ take (13 * t) (bits_of (parity_stored t written))))
near_code_word t body stored written small lb ls lw near =
    let code = code_512 t in
    let p = parity_of code written in
    let lp : length p ≡ parity_len code = length-parity_of code written in
    record {
      word = parity-completes code (code_512-bch t small) written lw;
      apart =
          ap (λ xs. distance (received_word code body stored) (bits_of written ++ take (13 * t) (bits_of xs))) (sym (masked-masked code p lp))
          ∙ mask-distance t body written stored (masked code p) (lw ∙ sym lb) ls (length-masked t p lp);
      near = near;
    }

-- a step whose word is within t bits of one that was written is read as that one
pub reads_back : (t : ℕ) (body stored written : List ℕ) → t ≤ 16
    → length body ≡ 512 → length stored ≡ parity_len (code_512 t) → length written ≡ 512 → AreBytes written
    → distance (bits_of body ++ take (13 * t) (bits_of stored)) (bits_of written ++ take (13 * t) (bits_of (parity_stored t written))) ≤ t
    → ReadsBack t written stored (distance (bits_of body ++ take (13 * t) (bits_of stored)) (bits_of written ++ take (13 * t) (bits_of (parity_stored t written)))) (read_of t body stored)
reads_back t body stored written small lb ls lw bytes near =
    let code = code_512 t in
    let d = distance (bits_of body ++ take (13 * t) (bits_of stored)) (bits_of written ++ take (13 * t) (bits_of (parity_stored t written))) in
    let p = parity_of code written in
    let m = masked code stored in
    let word = received_word code body stored in
    let word' = bits_of written ++ take (13 * t) (bits_of p) in
    let answer : Some (word', d) ≡ nearest code word =
    decodes-nearest code (code_512-bch t small) word (Some (word', d)) (received_word-bits t body stored) (received_word-long t body stored lb ls) (near_code_word t body stored written small lb ls lw near) in
    let lbits : length (bits_of written) ≡ 4096 = length-bits_of written ∙ ap (λ n. 8 * n) lw in
    let first : bytes_of_bits (take 4096 word') ≡ written = ap bytes_of_bits (take_at (bits_of written) _ 4096 lbits) ∙ bytes_of_bits-bits_of written bytes in
    let lp : length p ≡ parity_len code = length-parity_of code written in
    let lm : length m ≡ parity_len code = length-masked t stored ls in
    let made = parity_back t p stored lp ls in
    let q = made.0 in
    let second : bytes_of_bits (drop 4096 word' ++ drop (13 * t) (bits_of m)) ≡ q =
    ap (λ xs. bytes_of_bits (xs ++ drop (13 * t) (bits_of m))) (drop_at (bits_of written) _ 4096 lbits) ∙ sym made.1 in
    let read : read_of t body stored ≡ record { body = written; parity = masked code q; corrected = Some d } =
    ap (read_as code body stored) (sym answer)
    ∙ ap₂ (λ (x y : List ℕ). record { body = x; parity = masked code y; corrected = Some d }) first second in
    let back : ReadsBack t written stored d (record { body = written; parity = masked code q; corrected = Some d }) =
    record {
      body = refl;
      front = masked-front t q made.2 ∙ ap (λ xs. sum_bits xs (take (13 * t) (mask_bits t))) made.3 ∙ sym (masked-front t p lp);
      back =
          masked-back t q made.2 ∙ ap (λ xs. sum_bits xs (drop (13 * t) (mask_bits t))) made.4 ∙ sym (masked-back t m lm)
          ∙ ap (λ xs. drop (13 * t) (bits_of xs)) (masked-masked code stored ls);
      long = length-masked t q made.2;
      corrected = refl;
    } in
    subst (ReadsBack t written stored d) (sym read) back
