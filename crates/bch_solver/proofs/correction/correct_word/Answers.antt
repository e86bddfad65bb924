use Rattle.std.proofs.Common.{ℕ, ◌<◌, ◌^◌, subst, ◌*◌, ◌∙◌, slice_index, Some, sym, ap, arith}
use Rattle.code_model.specs.Binary.{times}
use Rattle.code_model.specs.Bits.{bits_from}
use Rattle.code_model.specs.Generator.{generator_of}
use Rattle.code_model.specs.Poly.{value}
use Rattle.code_model.specs.Word.{number_from, distance}
use Rattle.bch_solver.specs.Rows.{syndrome_at, polynomial_of}
use Rattle.code_model.proofs.BinaryLemmas.{remainder-lt}
use Rattle.code_model.proofs.RootLemmas.{generator-degree}
use Rattle.bch_solver.proofs.LocatorLemmas.{AreSyndromes, found, solvable}
use Rattle.bch_solver.proofs.NearLemmas.{corrected_is, length-bits_from, bits_from-bits}
use Rattle.bch_solver.proofs.RemainderLemmas.{syndromes_counted}
use Rattle.bch_solver.proofs.correction.correct_word.Goals as goal

pub syndromes-values-requires-clause-small : goal.syndromes-values-requires-clause-small
syndromes-values-requires-clause-small g c =
    let m = g.F.BinaryField.DEGREE in
    let f = g.F.BinaryField.MODULUS in
    let t = c.args.strength in
    let w = bits_from c.args.word.now 0 c.args.count in
    let degree = generator-degree m f g.F.BinaryField.primitive t in
    subst (λ (d : ℕ). c.args.word_remainder < 2 ^ d) (sym c.parity_bits.ensures.value)
    (subst (λ (r : ℕ). r < 2 ^ (m * t)) (sym c.requires.remainder) (remainder-lt (m * t) (generator_of m f t) (number_from 0 w) degree.0 degree.1))

pub returns-in-None-clause-complete : goal.returns-in-None-clause-complete
returns-in-None-clause-complete g c = λ word near.
    let m = g.F.BinaryField.DEGREE in
    let f = g.F.BinaryField.MODULUS in
    let p = g.F.BinaryField.primitive in
    let t = c.args.strength in
    let n = c.args.count in
    let old = c.args.word.now in
    let w = bits_from old 0 n in
    let s = syndrome_at c.syndromes-values.result in
    let syn : AreSyndromes m f p t w s =
    syndromes_counted m f p t c.args.word_remainder w c.syndromes-values.result c.requires.remainder c.syndromes-values.ensures.values in
    let u = solvable m f p t w word s c.requires.strength (bits_from-bits old 0 n) near.bits (sym near.long) near.code near.near syn in
    absurd (c.in-None.ensures.none (distance w word) u.0 near.near u.1)

pub returns-in-Some-clause-complete : goal.returns-in-Some-clause-complete
returns-in-Some-clause-complete g c = λ word near.
    let m = g.F.BinaryField.DEGREE in
    let f = g.F.BinaryField.MODULUS in
    let p = g.F.BinaryField.primitive in
    let t = c.args.strength in
    let n = c.args.count in
    let old = c.args.word.now in
    let w = bits_from old 0 n in
    let s = syndrome_at c.syndromes-values.result in
    let syn : AreSyndromes m f p t w s =
    syndromes_counted m f p t c.args.word_remainder w c.syndromes-values.result c.requires.remainder c.syndromes-values.ensures.values in
    let new = c.correct.new.bytes in
    let e = c.in-Some.locator.degree in
    let cs = c.in-Some.locator.coefficients in
    let long = length-bits_from old 0 n in
    let r = found m f p t e w word s (λ l. slice_index cs l) c.requires.strength c.in-Some.ensures.solved.0 (bits_from-bits old 0 n) near.bits (sym near.long) (omega arith) near.code near.near syn
    c.in-Some.ensures.solved.1 c.in-Some.ensures.least in
    let same = corrected_is m f p (value (times m f) (polynomial_of cs e)) old new word n (omega arith) (near.long ∙ long) near.bits r.1 r.2 c.correct.ensures.turned in
    (ap Some (c.correct.ensures.number ∙ ap (distance w) same), same)
