use Rattle.std.proofs.Common.{◌≡◌, ◌<◌, ◌≤◌, ◌*◌, ◌-◌, ◌/◌, ◌^◌, ℕ, arith, sym, ap, ap₂, ◌∙◌, length, subst, refl}
use Rattle.std.specs.Prelude.{bit_xor}
use Rattle.code_model.specs.Binary.{remainder}
use Rattle.code_model.specs.Bits.{bits_of}
use Rattle.code_model.specs.Code.{parity_number}
use Rattle.code_model.specs.Generator.{generator_of}
use Rattle.code_model.specs.Word.{number_from}
use Rattle.code_model.proofs.BinaryLemmas.{remainder-lt}
use Rattle.code_model.proofs.ByteLemmas.{length-bits_of, AreBits-bits_of}
use Rattle.code_model.proofs.RootLemmas.{generator-degree}
use Rattle.bch_register.proofs.RegisterLemmas.{remainder-joined}
use Rattle.bch_register.proofs.WordLemmas.{number_from-word, number_from_take-lt}
use Rattle.bch_solver.specs.Words.{code_over}
use Rattle.bch_solver.proofs.DecodeLemmas.{generator_has_degree}
use Rattle.bch_decode.specs.Answers.{joined_word}
use Rattle.bch_quick.proofs.register.remainder_quick.Goals as goal

pub returns-clause-value : goal.returns-clause-value
unfolding parity_number
returns-clause-value g c =
    let m = g.C.BinaryField.DEGREE in
    let f = g.C.BinaryField.MODULUS in
    let p = g.C.BinaryField.primitive in
    let d = m * c.args.t in
    let h = generator_of m f c.args.t in
    let body = bits_of c.args.step.now in
    let parity = bits_of c.args.parity.now in
    let n = number_from 0 body in
    let long : length parity ≡ 8 * length c.args.parity.now = length-bits_of c.args.parity.now in
    let len = c.requires.room in
    let room : d ≤ length parity = omega arith in
    let bits = AreBits-bits_of c.args.parity.now in
    let q = number_from 0 parity / 2 ^ (length parity - d) in
    let pad : 8 * length c.args.parity.now - c.parity_bits.result ≡ length parity - d = (let e = c.parity_bits.ensures.value in omega arith) in
    let low : c.shr.result ≡ q = c.shr.ensures.0 ∙ ap₂ (λ x k. x / 2 ^ k) c.number_of.ensures pad in
    c.bitxor.ensures.0 ∙ ap₂ bit_xor c.parity_number_quick.ensures.value low
    ∙ remainder-joined d h n q (generator_has_degree m f p c.args.t h d refl refl) (number_from_take-lt d parity bits room)
    ∙ ap (remainder d h) (sym (number_from-word d body parity bits room))

pub returns-clause-small : goal.returns-clause-small
returns-clause-small g c =
    let m = g.C.BinaryField.DEGREE in
    let f = g.C.BinaryField.MODULUS in
    let t = c.args.t in
    let degree = generator-degree m f g.C.BinaryField.primitive t in
    subst (λ (x : ℕ). x < 2 ^ (m * t)) (sym (returns-clause-value g c))
    (remainder-lt (m * t) (generator_of m f t) (number_from 0 (joined_word (code_over m f t g.C.StepCode.STEP) c.args.step.now c.args.parity.now)) degree.0 degree.1)
