use Rattle.std.proofs.Common.{◌≡◌, ℕ, zero, suc, ◌+◌, ◌-◌, ◌*◌, ◌/◌, ◌%◌, ◌^◌, ◌<◌, ◌≤◌, List, [], ◌∷◌, ◌++◌, length, get_or, take, drop, append_assoc, refl, sym, ap, ap₂, ◌∙◌, arith}
use Rattle.std.proofs.lemmas.Grind.{same_number_lists}
use Rattle.std.proofs.lemmas.List.{get_or-append-add, get_or-take, length-take-le, length-drop, take-append-drop}
use Rattle.std.proofs.Math.Seq.{take-append-add, take-length}
use Rattle.code_model.specs.Bits.{bit_of, bits_of, bits_from, byte_bits}
use Rattle.bch_solver.specs.Words.{code_over, word_of}
use Rattle.code_model.proofs.ByteLemmas.{length-bits_of}
use Rattle.bch_solver.proofs.NearLemmas.{length-bits_from, get_or-bits_from}

bits_of-append : (xs ys : List ℕ) → bits_of (xs ++ ys) ≡ bits_of xs ++ bits_of ys
unfolding bits_of
bits_of-append [] ys = refl
bits_of-append (x ∷ xs) ys = ap (λ bs. byte_bits x ++ bs) (bits_of-append xs ys) ∙ sym (append_assoc (byte_bits x) (bits_of xs) (bits_of ys))

-- bit k among the bits of bytes
get_or-bits_of : (bytes : List ℕ) (k : ℕ) → k < 8 * length bytes → get_or (bits_of bytes) k 0 ≡ bit_of bytes k
unfolding bits_of
get_or-bits_of [] k h = absurd (omega arith)
get_or-bits_of (b ∷ bytes) zero h = refl
get_or-bits_of (b ∷ bytes) (suc zero) h = refl
get_or-bits_of (b ∷ bytes) (suc (suc zero)) h = refl
get_or-bits_of (b ∷ bytes) (suc (suc (suc zero))) h = refl
get_or-bits_of (b ∷ bytes) (suc (suc (suc (suc zero)))) h = refl
get_or-bits_of (b ∷ bytes) (suc (suc (suc (suc (suc zero))))) h = refl
get_or-bits_of (b ∷ bytes) (suc (suc (suc (suc (suc (suc zero)))))) h = refl
get_or-bits_of (b ∷ bytes) (suc (suc (suc (suc (suc (suc (suc zero))))))) h = omega arith
get_or-bits_of (b ∷ bytes) (suc (suc (suc (suc (suc (suc (suc (suc k)))))))) h =
    let byte : suc (suc (suc (suc (suc (suc (suc (suc k))))))) / 8 ≡ suc (k / 8) = omega arith in
    let bit : suc (suc (suc (suc (suc (suc (suc (suc k))))))) % 8 ≡ k % 8 = omega arith in
    get_or-bits_of bytes k (omega arith)
    ∙ sym (ap₂ (λ i j. get_or (b ∷ bytes) i 0 / 2 ^ (7 - j) % 2) byte bit)

-- the first bits of bytes
pub take-bits_of : (bytes : List ℕ) (n : ℕ) → n ≤ 8 * length bytes → take n (bits_of bytes) ≡ bits_from bytes 0 n
take-bits_of bytes n h =
    same_number_lists (take n (bits_of bytes)) (bits_from bytes 0 n) (long ∙ sym (length-bits_from bytes 0 n))
    (λ k g. at k (omega (arith, long)))
  where
    long : length (take n (bits_of bytes)) ≡ n
    long = length-take-le n (bits_of bytes) (omega (arith, length-bits_of bytes))

    at : (k : ℕ) → k < n → get_or (take n (bits_of bytes)) k 0 ≡ get_or (bits_from bytes 0 n) k 0
    at k g =
        let first : 0 + k ≡ k = omega arith in
        get_or-take n (bits_of bytes) k 0 g ∙ get_or-bits_of bytes k (omega arith) ∙ ap (bit_of bytes) (sym first) ∙ sym (get_or-bits_from bytes 0 n k g)

-- the bits of a body, and the first bits of its parity, which is the rest of the bytes
pub bits_of-body_parity : (bytes : List ℕ) (b d n : ℕ) → b ≤ length bytes → n ≡ length bytes - b → bits_of (take b bytes) ++ take d (bits_of (take n (drop b bytes))) ≡ take (8 * b + d) (bits_of bytes)
bits_of-body_parity bytes b d n h e =
    let body : length (bits_of (take b bytes)) ≡ 8 * b = length-bits_of (take b bytes) ∙ ap (λ k. 8 * k) (length-take-le b bytes h) in
    let rest : take n (drop b bytes) ≡ drop b bytes = ap (λ k. take k (drop b bytes)) (e ∙ sym (length-drop b bytes)) ∙ take-length (drop b bytes) in
    ap (λ ys. bits_of (take b bytes) ++ take d (bits_of ys)) rest
    ∙ sym (take-append-add (bits_of (take b bytes)) (bits_of (drop b bytes)) d)
    ∙ ap₂ take (ap (λ k. k + d) body) (sym (bits_of-append (take b bytes) (drop b bytes)) ∙ ap bits_of (take-append-drop b bytes))

-- the word in the bytes of a body and its parity
pub word_of-joined : (m f t b : ℕ) (body parity : List ℕ) → length body ≡ b → word_of (code_over m f t b) (body ++ parity) ≡ bits_of body ++ take (m * t) (bits_of parity)
word_of-joined m f t b body parity len =
    let bits : 8 * b + m * t ≡ length (bits_of body) + m * t = (let e = length-bits_of body in omega arith) in
    ap₂ take bits (bits_of-append body parity) ∙ take-append-add (bits_of body) (bits_of parity) (m * t)

-- the bits of the parity behind a body
pub bit_of-joined : (body parity : List ℕ) (b k : ℕ) → length body ≡ b → bit_of (body ++ parity) (8 * b + k) ≡ bit_of parity k
bit_of-joined body parity b k len =
    let byte : (8 * b + k) / 8 ≡ length body + k / 8 = omega arith in
    let bit : (8 * b + k) % 8 ≡ k % 8 = omega arith in
    ap₂ (λ i j. get_or (body ++ parity) i 0 / 2 ^ (7 - j) % 2) byte bit
    ∙ ap (λ v. v / 2 ^ (7 - k % 8) % 2) (get_or-append-add body parity (k / 8) 0)
