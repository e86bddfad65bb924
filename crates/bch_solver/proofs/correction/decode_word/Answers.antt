use Rattle.std.proofs.Common.{◌≡◌, ◌≤◌, ◌+◌, ◌*◌, ℕ, List, length, Option, Some, None, refl, sym, ap, ◌∙◌, arith, Bool, true, false}
use Rattle.code_model.specs.Binary.{remainder}
use Rattle.code_model.specs.Code.{IsNearest}
use Rattle.code_model.specs.Generator.{generator_of}
use Rattle.code_model.specs.Word.{number_from}
use Rattle.bch_solver.specs.Words.{code_over, word_of}
use Rattle.bch_solver.proofs.DecodeLemmas.{generator_has_degree, bits_from-word_of, code_word_from_remainder, nearest_itself, only_itself, finds_nearest, corrected_nearest, none_near, remainder-code_word, remainder_as}
use Rattle.bch_solver.proofs.correction.decode_word.Given as given
use Rattle.bch_solver.proofs.correction.decode_word.Goals as goal
use Rattle.bch_solver.proofs.correction.decode_word.Goals.{else-flips-strength-via-then-flips-strength+else-is_zero-2, else-flips-strength-via-else-flips-strength}

not_both : {b : Bool} → b ≡ false → b ≡ true → ⊥
not_both e q = cc

not_some : (o : Option ℕ) {d : ℕ} → o ≡ None → o ≡ Some d → ⊥
not_some o e q = cc

same_some : {a b : ℕ} → Some a ≡ Some b → a ≡ b
same_some e = cc

pub returns-then-is_zero-clause-corrected : goal.returns-then-is_zero-clause-corrected
returns-then-is_zero-clause-corrected g c =
    let m = g.F.BinaryField.DEGREE in
    let f = g.F.BinaryField.MODULUS in
    let p = g.F.BinaryField.primitive in
    let t = c.args.strength in
    let b = c.args.body_len in
    let old = c.args.word.now in
    let room : 8 * b + m * t ≤ 8 * length old = (let long = c.requires.room in omega arith) in
    let zero = sym (remainder_as m f t b c.args.generator c.parity_bits-degree.result old c.remainder_of-word_remainder.result c.requires.generator c.parity_bits-degree.ensures.value c.remainder_of-word_remainder.ensures.value) ∙ c.is_zero.ensures.0 c.if-is_zero.true in
    nearest_itself m f p t b (word_of (code_over m f t b) old) (code_word_from_remainder m f p t b old room zero)

pub returns-then-is_zero-clause-complete : goal.returns-then-is_zero-clause-complete
returns-then-is_zero-clause-complete g c =
    let m = g.F.BinaryField.DEGREE in
    let f = g.F.BinaryField.MODULUS in
    let p = g.F.BinaryField.primitive in
    let t = c.args.strength in
    let b = c.args.body_len in
    let old = c.args.word.now in
    let room : 8 * b + m * t ≤ 8 * length old = (let long = c.requires.room in omega arith) in
    let zero = sym (remainder_as m f t b c.args.generator c.parity_bits-degree.result old c.remainder_of-word_remainder.result c.requires.generator c.parity_bits-degree.ensures.value c.remainder_of-word_remainder.ensures.value) ∙ c.is_zero.ensures.0 c.if-is_zero.true in
    λ word d nearest.
    let only = only_itself m f p t b (word_of (code_over m f t b) old) word d c.requires.below_order (code_word_from_remainder m f p t b old room zero) nearest in
    (ap Some only.0, only.1)

pub correct_word-requires-clause-remainder : goal.correct_word-requires-clause-remainder
correct_word-requires-clause-remainder g c =
    let m = g.F.BinaryField.DEGREE in
    let f = g.F.BinaryField.MODULUS in
    let p = g.F.BinaryField.primitive in
    let t = c.args.strength in
    let b = c.args.body_len in
    let old = c.args.word.now in
    let room : 8 * b + m * t ≤ 8 * length old = (let long = c.requires.room in omega arith) in
    let n = 8 * b + c.parity_bits-degree.result in
    let count : n ≡ 8 * b + m * t = ap (λ d. 8 * b + d) c.parity_bits-degree.ensures.value in
    remainder_as m f t b c.args.generator c.parity_bits-degree.result old c.remainder_of-word_remainder.result c.requires.generator c.parity_bits-degree.ensures.value c.remainder_of-word_remainder.ensures.value
    ∙ ap (λ w. remainder (m * t) (generator_of m f t) (number_from 0 w)) (sym (bits_from-word_of m f p t b old n count room))

pub returns-in-None-clause-complete : goal.returns-in-None-clause-complete
returns-in-None-clause-complete g c =
    let m = g.F.BinaryField.DEGREE in
    let f = g.F.BinaryField.MODULUS in
    let p = g.F.BinaryField.primitive in
    let t = c.args.strength in
    let b = c.args.body_len in
    let old = c.args.word.now in
    let room : 8 * b + m * t ≤ 8 * length old = (let long = c.requires.room in omega arith) in
    let new = c.correct_word.new.word in
    let n = 8 * b + c.parity_bits-degree.result in
    let count : n ≡ 8 * b + m * t = ap (λ d. 8 * b + d) c.parity_bits-degree.ensures.value in
    let same_long : length new ≡ length old = c.correct_word.auto.word in
    finds_nearest m f p t b old new n None count room same_long c.in-None.ensures.complete

pub returns-in-None-clause-none : goal.returns-in-None-clause-none
returns-in-None-clause-none g c =
    let m = g.F.BinaryField.DEGREE in
    let f = g.F.BinaryField.MODULUS in
    let p = g.F.BinaryField.primitive in
    let t = c.args.strength in
    let b = c.args.body_len in
    let old = c.args.word.now in
    let room : 8 * b + m * t ≤ 8 * length old = (let long = c.requires.room in omega arith) in
    let new = c.correct_word.new.word in
    let n = 8 * b + c.parity_bits-degree.result in
    let count : n ≡ 8 * b + m * t = ap (λ d. 8 * b + d) c.parity_bits-degree.ensures.value in
    let same_long : length new ≡ length old = c.correct_word.auto.word in
    none_near m f p t b (word_of (code_over m f t b) old)
    (λ word d nearest. not_some None refl (finds_nearest m f p t b old new n None count room same_long c.in-None.ensures.complete word d nearest).0)

pub returns-then-is_zero-2-clause-corrected : goal.returns-then-is_zero-2-clause-corrected
returns-then-is_zero-2-clause-corrected g c =
    let m = g.F.BinaryField.DEGREE in
    let f = g.F.BinaryField.MODULUS in
    let p = g.F.BinaryField.primitive in
    let t = c.args.strength in
    let b = c.args.body_len in
    let old = c.args.word.now in
    let room : 8 * b + m * t ≤ 8 * length old = (let long = c.requires.room in omega arith) in
    let new = c.correct_word.new.word in
    let n = 8 * b + c.parity_bits-degree.result in
    let count : n ≡ 8 * b + m * t = ap (λ d. 8 * b + d) c.parity_bits-degree.ensures.value in
    let same_long : length new ≡ length old = c.correct_word.auto.word in
    let zero = sym (remainder_as m f t b c.args.generator c.parity_bits-degree.result new c.remainder_of.result c.requires.generator c.parity_bits-degree.ensures.value c.remainder_of.ensures.value) ∙ c.is_zero-then-flips-strength.ensures.0 c.if-is_zero-2.true in
    corrected_nearest m f p t b old new n c.in-Some.flips count room same_long c.if-flips-strength.true c.in-Some.ensures.distance zero

pub returns-then-is_zero-2-clause-complete : goal.returns-then-is_zero-2-clause-complete
returns-then-is_zero-2-clause-complete g c =
    let m = g.F.BinaryField.DEGREE in
    let f = g.F.BinaryField.MODULUS in
    let p = g.F.BinaryField.primitive in
    let t = c.args.strength in
    let b = c.args.body_len in
    let old = c.args.word.now in
    let room : 8 * b + m * t ≤ 8 * length old = (let long = c.requires.room in omega arith) in
    let new = c.correct_word.new.word in
    let n = 8 * b + c.parity_bits-degree.result in
    let count : n ≡ 8 * b + m * t = ap (λ d. 8 * b + d) c.parity_bits-degree.ensures.value in
    let same_long : length new ≡ length old = c.correct_word.auto.word in
    finds_nearest m f p t b old new n (Some c.in-Some.flips) count room same_long c.in-Some.ensures.complete

-- a nearest code word passes both tests
refuted : (g : given.Over) (c : goal.Joined-else-flips-strength g) (word : List ℕ) (d : ℕ)
    → IsNearest (code_over g.F.BinaryField.DEGREE g.F.BinaryField.MODULUS c.args.strength c.args.body_len)
    (word_of (code_over g.F.BinaryField.DEGREE g.F.BinaryField.MODULUS c.args.strength c.args.body_len) c.args.word.now) word d → ⊥
refuted g c word d nearest =
    let m = g.F.BinaryField.DEGREE in
    let f = g.F.BinaryField.MODULUS in
    let p = g.F.BinaryField.primitive in
    let t = c.args.strength in
    let b = c.args.body_len in
    let old = c.args.word.now in
    let room : 8 * b + m * t ≤ 8 * length old = (let long = c.requires.room in omega arith) in
    let new = c.correct_word.new.word in
    let n = 8 * b + c.parity_bits-degree.result in
    let count : n ≡ 8 * b + m * t = ap (λ d. 8 * b + d) c.parity_bits-degree.ensures.value in
    let same_long : length new ≡ length old = c.correct_word.auto.word in
    let found = finds_nearest m f p t b old new n (Some c.in-Some.flips) count room same_long c.in-Some.ensures.complete word d nearest in
    let flips : c.in-Some.flips ≡ d = same_some found.0 in
    let near = nearest.near in
    elim c.else-flips-strength.branch [
      | else-flips-strength-via-then-flips-strength+else-is_zero-2 w ↦
          not_both w.if-is_zero-2.false (w.is_zero-then-flips-strength.ensures.1
          (remainder_as m f t b c.args.generator c.parity_bits-degree.result new w.remainder_of.result c.requires.generator c.parity_bits-degree.ensures.value w.remainder_of.ensures.value
          ∙ ap (λ v. remainder (m * t) (generator_of m f t) (number_from 0 v)) found.1 ∙ remainder-code_word m f p t b word nearest.word))
      | else-flips-strength-via-else-flips-strength w ↦ (let far = w.if-flips-strength.false in omega arith)
    ]

pub returns-else-flips-strength-clause-none : goal.returns-else-flips-strength-clause-none
returns-else-flips-strength-clause-none g c =
    let m = g.F.BinaryField.DEGREE in
    let f = g.F.BinaryField.MODULUS in
    let p = g.F.BinaryField.primitive in
    let t = c.args.strength in
    let b = c.args.body_len in
    let old = c.args.word.now in
    let room : 8 * b + m * t ≤ 8 * length old = (let long = c.requires.room in omega arith) in
    none_near m f p t b (word_of (code_over m f t b) old) (refuted g c)

pub returns-else-flips-strength-clause-complete : goal.returns-else-flips-strength-clause-complete
returns-else-flips-strength-clause-complete g c = λ word d nearest. absurd (refuted g c word d nearest)

pub remainder_of-word_remainder-requires-clause-generator : goal.remainder_of-word_remainder-requires-clause-generator
remainder_of-word_remainder-requires-clause-generator g c =
    generator_has_degree g.F.BinaryField.DEGREE g.F.BinaryField.MODULUS g.F.BinaryField.primitive c.args.strength c.args.generator c.parity_bits-degree.result c.requires.generator c.parity_bits-degree.ensures.value

pub remainder_of-requires-clause-generator : goal.remainder_of-requires-clause-generator
remainder_of-requires-clause-generator g c =
    generator_has_degree g.F.BinaryField.DEGREE g.F.BinaryField.MODULUS g.F.BinaryField.primitive c.args.strength c.args.generator c.parity_bits-degree.result c.requires.generator c.parity_bits-degree.ensures.value
