use Rattle.std.proofs.Common.{◌≡◌, ℕ, suc, ◌+◌, ◌*◌, ◌^◌, ◌<◌, ◌≤◌, List, length, take, refl, sym, ap, ap₂, ◌∙◌, Option, Some, subst, arith, inl, inr}
use Rattle.std.specs.Prelude.{bit_xor}
use Rattle.std.proofs.lemmas.Bool.{cases_lt}
use Rattle.std.proofs.Math.Nat.{pow-suc}
use lib.Bits.{xor_zero_r}
use Rattle.code_model.specs.Binary.{HasDegree, IsPrimitive, product, remainder}
use Rattle.code_model.specs.Bits.{bits_of, bits_from}
use Rattle.code_model.specs.Code.{IsCodeWord, IsNearest, NoneNear}
use Rattle.code_model.specs.Generator.{generator_of}
use Rattle.code_model.specs.Word.{AreBits, number_from, distance}
use Rattle.code_model.proofs.BinaryLemmas.{quotient, remainder-multiple}
use Rattle.code_model.proofs.DistanceLemmas.{distance-same}
use Rattle.code_model.proofs.RootLemmas.{generator-degree, generator-roots}
use Rattle.code_model.proofs.ValueLemmas.{bound}
use Rattle.bch_solver.specs.Words.{IsNear, code_over, word_of}
use Rattle.bch_solver.proofs.BitsLemmas.{take-bits_of}
use Rattle.bch_solver.proofs.NearLemmas.{bits_from-bits, length-bits_from}

-- the degree of the generator
pub generator_has_degree : (m f : ℕ) (p : IsPrimitive m f) (t generator degree : ℕ) → generator ≡ generator_of m f t → degree ≡ m * t → HasDegree degree generator
generator_has_degree m f p t generator degree eg ed =
    let d = m * t in
    let has = generator-degree m f p t in
    let twice : 2 ^ (d + 1) ≡ 2 ^ d * 2 = (let e : d + 1 ≡ suc d = omega arith in ap (λ i. 2 ^ i) e ∙ pow-suc 2 d) in
    let here : HasDegree d (generator_of m f t) = (has.0, omega arith) in
    subst (λ (i : ℕ). HasDegree i generator) (sym ed) (subst (HasDegree d) (sym eg) here)

-- the remainder of a word, where the generator and its degree are given by their values
pub remainder_as : (m f t b generator degree : ℕ) (bytes : List ℕ) (r : ℕ) → generator ≡ generator_of m f t → degree ≡ m * t
    → r ≡ remainder degree generator (number_from 0 (take (8 * b + degree) (bits_of bytes)))
    → r ≡ remainder (m * t) (generator_of m f t) (number_from 0 (word_of (code_over m f t b) bytes))
remainder_as m f t b generator degree bytes r eg ed er =
    er ∙ ap₂ (λ d h. remainder d h (number_from 0 (take (8 * b + d) (bits_of bytes)))) ed eg

module _ (m f : ℕ) (p : IsPrimitive m f) (t b : ℕ) where
  pub length-word_of : (bytes : List ℕ) → 8 * b + m * t ≤ 8 * length bytes → length (word_of (code_over m f t b) bytes) ≡ 8 * b + m * t
  length-word_of bytes h = ap length (take-bits_of bytes (8 * b + m * t) h) ∙ length-bits_from bytes 0 (8 * b + m * t)

  pub AreBits-word_of : (bytes : List ℕ) → 8 * b + m * t ≤ 8 * length bytes → AreBits (word_of (code_over m f t b) bytes)
  AreBits-word_of bytes h = subst AreBits (sym (take-bits_of bytes (8 * b + m * t) h)) (bits_from-bits bytes 0 (8 * b + m * t))

  -- a word with the remainder 0 is a code word
  pub code_word_from_remainder : (bytes : List ℕ) → 8 * b + m * t ≤ 8 * length bytes
      → remainder (m * t) (generator_of m f t) (number_from 0 (word_of (code_over m f t b) bytes)) ≡ 0 → IsCodeWord (code_over m f t b) (word_of (code_over m f t b) bytes)
  code_word_from_remainder bytes h z =
      let w = word_of (code_over m f t b) bytes in
      let degree = generator-degree m f p t in
      let q = quotient (m * t) (generator_of m f t) (number_from 0 w) degree.0 degree.1 in
      record {
        long = length-word_of bytes h;
        bits = AreBits-word_of bytes h;
        multiple = (q.0, q.1 ∙ ap (bit_xor (product q.0 (generator_of m f t))) z ∙ xor_zero_r (product q.0 (generator_of m f t)));
      }

  pub remainder-code_word : (c : List ℕ) → IsCodeWord (code_over m f t b) c → remainder (m * t) (generator_of m f t) (number_from 0 c) ≡ 0
  remainder-code_word c h =
      let degree = generator-degree m f p t in
      ap (remainder (m * t) (generator_of m f t)) h.multiple.1
      ∙ remainder-multiple (m * t) (generator_of m f t) h.multiple.0 degree.0 degree.1

  -- a code word is its own nearest code word
  pub nearest_itself : (w : List ℕ) → IsCodeWord (code_over m f t b) w → IsNearest (code_over m f t b) w w 0
  nearest_itself w h = record { word = h; apart = distance-same w; near = omega arith }

  pub only_itself : (w c : List ℕ) (d : ℕ) → 8 * b + m * t < 2 ^ m → IsCodeWord (code_over m f t b) w → IsNearest (code_over m f t b) w c d → (0 ≡ d) × (w ≡ c)
  only_itself w c d room h n =
      let near = n.near in
      let apart = n.apart in
      let long = h.long in
      let same : w ≡ c = bound m f p t (2 * t) w c (generator-roots m f p t) h.bits n.word.bits (h.long ∙ sym n.word.long) (omega arith) (omega arith) h.multiple n.word.multiple in
      (sym (distance-same w) ∙ ap (distance w) same ∙ n.apart, same)

  pub near_from_nearest : (w c : List ℕ) (d : ℕ) → length w ≡ 8 * b + m * t → IsNearest (code_over m f t b) w c d → IsNear m f t w c
  near_from_nearest w c d long n =
      let near = n.near in
      let apart = n.apart in
      record { bits = n.word.bits; long = n.word.long ∙ sym long; code = n.word.multiple; near = omega arith }

  -- the bits at the head of bytes are its word
  pub bits_from-word_of : (bytes : List ℕ) (n : ℕ) → n ≡ 8 * b + m * t → 8 * b + m * t ≤ 8 * length bytes → bits_from bytes 0 n ≡ word_of (code_over m f t b) bytes
  bits_from-word_of bytes n e h = ap (bits_from bytes 0) e ∙ sym (take-bits_of bytes (8 * b + m * t) h)

  -- what finds near code words finds the nearest one
  pub finds_nearest : (old new : List ℕ) (n : ℕ) (r : Option ℕ) → n ≡ 8 * b + m * t → 8 * b + m * t ≤ 8 * length old → length new ≡ length old
      → ((c : List ℕ) → IsNear m f t (bits_from old 0 n) c → (r ≡ Some (distance (bits_from old 0 n) c)) × (bits_from new 0 n ≡ c))
      → (c : List ℕ) (d : ℕ) → IsNearest (code_over m f t b) (word_of (code_over m f t b) old) c d → (r ≡ Some d) × (word_of (code_over m f t b) new ≡ c)
  finds_nearest old new n r e h len finds c d nearest =
      let before = bits_from-word_of old n e h in
      let after = bits_from-word_of new n e (omega arith) in
      let here = finds c (subst (λ (w : List ℕ). IsNear m f t w c) (sym before) (near_from_nearest (word_of (code_over m f t b) old) c d (length-word_of old h) nearest)) in
      (here.0 ∙ ap Some (ap (λ w. distance w c) before ∙ nearest.apart), sym after ∙ here.1)

  -- where bits of a word were turned over and the remainder is 0, the result is the nearest code
  -- word
  pub corrected_nearest : (old new : List ℕ) (n d : ℕ) → n ≡ 8 * b + m * t → 8 * b + m * t ≤ 8 * length old → length new ≡ length old → d ≤ t
      → d ≡ distance (bits_from old 0 n) (bits_from new 0 n) → remainder (m * t) (generator_of m f t) (number_from 0 (word_of (code_over m f t b) new)) ≡ 0
      → IsNearest (code_over m f t b) (word_of (code_over m f t b) old) (word_of (code_over m f t b) new) d
  corrected_nearest old new n d e h len near apart z =
      let room : 8 * b + m * t ≤ 8 * length new = omega arith in
      record {
        word = code_word_from_remainder new room z;
        apart = ap₂ distance (sym (bits_from-word_of old n e h)) (sym (bits_from-word_of new n e room)) ∙ sym apart;
        near = near;
      }

  -- what no nearest code word leaves
  pub none_near : (w : List ℕ) → ((c : List ℕ) (d : ℕ) → IsNearest (code_over m f t b) w c d → ⊥) → NoneNear (code_over m f t b) w
  none_near w never = λ c h. elim (cases_lt t (distance w c)) [
    | inl l ↦ l
    | inr l ↦ absurd (never c (distance w c) (record { word = h; apart = refl; near = l }))
  ]
