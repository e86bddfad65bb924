-- The word of a step and its parity, and the one code word near it.
use Rattle.std.proofs.Common.{◌≡◌, ◌<◌, ◌≤◌, ◌+◌, ◌*◌, ◌^◌, ◌++◌, ◌∙◌, ℕ, zero, suc, List, length, take, sym, ap, subst, arith}
use Rattle.std.proofs.lemmas.List.{length-append, length-take-le}
use Rattle.std.proofs.Math.Nat.{mul-le-mul_right, suc-mul}
use Rattle.std.proofs.Math.Seq.{take-append_seam}
use Rattle.code_model.specs.Binary.{IsPrimitive}
use Rattle.code_model.specs.Bits.{bits_of}
use Rattle.code_model.specs.Word.{distance}
use Rattle.code_model.specs.Code.{IsBchCode, IsNearest}
use Rattle.code_model.proofs.ByteLemmas.{length-bits_of}
use Rattle.code_model.proofs.NearestLemmas.{near_code_words-equal}
use Rattle.bch_solver.specs.Words.{code_over, word_of}
use Rattle.bch_solver.proofs.BitsLemmas.{word_of-joined}
use Rattle.bch_decode.specs.Answers.{joined_word}

-- parity bits for at most n wrong bits
pub parity_bits_below : (m t n : ℕ) → t ≤ n → m * t ≤ n * m
parity_bits_below m t n few = let h : t * m ≤ n * m = mul-le-mul_right m few in omega arith

-- there are some
pub parity_bits-some : (m t : ℕ) → 2 < 2 ^ m → 0 < t → 0 < m * t
parity_bits-some zero t wide pos = absurd (omega arith)
parity_bits-some (suc m) zero wide pos = absurd (omega arith)
parity_bits-some (suc m) (suc t) wide pos = let e = suc-mul m (suc t) in omega arith

-- words for up to 16 wrong bits are short, and so the code is a BCH code
pub short_words : (m t b : ℕ) → 8 * b + 16 * m < 2 ^ m → t ≤ 16 → 8 * b + m * t < 2 ^ m
short_words m t b short few = let h = parity_bits_below m t 16 few in omega arith

pub code_over-bch : (m f t b : ℕ) → IsPrimitive m f → 8 * b + 16 * m < 2 ^ m → t ≤ 16 → IsBchCode (code_over m f t b)
code_over-bch m f t b p short few = record { primitive = p; short = short_words m t b short few }

-- the bits of a word
pub joined_word-long : (m f t b : ℕ) (step parity : List ℕ) → length step ≡ b → m * t ≤ 8 * length parity → length (joined_word (code_over m f t b) step parity) ≡ 8 * b + m * t
joined_word-long m f t b step parity len room =
    let first = length-bits_of step in
    let all = length-bits_of parity in
    let last : length (take (m * t) (bits_of parity)) ≡ m * t = length-take-le (m * t) (bits_of parity) (omega arith) in
    length-append (bits_of step) (take (m * t) (bits_of parity)) ∙ omega arith

-- a nearest code word is the only one
pub nearest_only : (m f t b : ℕ) (w c v : List ℕ) (d n : ℕ) → IsBchCode (code_over m f t b) → length w ≡ 8 * b + m * t → IsNearest (code_over m f t b) w c d → IsNearest (code_over m f t b) w v n
    → (d ≡ n) × (c ≡ v)
nearest_only m f t b w c v d n bch long x y =
    let same : c ≡ v = near_code_words-equal (code_over m f t b) bch w c v long x.word y.word
    (let h = x.near in let k = x.apart in omega arith) (let h = y.near in let k = y.apart in omega arith) in
    (sym x.apart ∙ ap (distance w) same ∙ y.apart, same)

pub nearest_as : (m f t b : ℕ) (w w' c c' : List ℕ) (d : ℕ) → w ≡ w' → c ≡ c' → IsNearest (code_over m f t b) w c d → IsNearest (code_over m f t b) w' c' d
nearest_as m f t b w w' c c' d ew ec h = subst (λ (v : List ℕ). IsNearest (code_over m f t b) w' v d) ec (subst (λ (v : List ℕ). IsNearest (code_over m f t b) v c d) ew h)

-- the word that was copied in
pub word_before : (m f t b : ℕ) (bytes step parity : List ℕ) → length step ≡ b → bytes ≡ step ++ parity → word_of (code_over m f t b) bytes ≡ joined_word (code_over m f t b) step parity
word_before m f t b bytes step parity len e = ap (word_of (code_over m f t b)) e ∙ word_of-joined m f t b step parity len

-- what is copied back of a buffer that begins with the decoded word
pub copied_back : (word rest both : List ℕ) (end : ℕ) → length word ≡ end → both ≡ take end (word ++ rest) → both ≡ word
copied_back word rest both end len e = e ∙ ap (λ n. take n (word ++ rest)) (sym len) ∙ take-append_seam word rest
