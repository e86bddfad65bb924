use Rattle.std.proofs.Common.{◌≡◌, ◌<◌, ◌≤◌, ◌*◌, ◌-◌, ◌/◌, ◌^◌, ◌++◌, ℕ, arith, sym, ap, ap₂, ◌∙◌, take, length, subst}
use Rattle.std.specs.Prelude.{bit_xor}
use Rattle.code_model.specs.Binary.{remainder}
use Rattle.code_model.specs.Bits.{bits_of}
use Rattle.code_model.specs.Word.{number_from}
use Rattle.code_model.proofs.BinaryLemmas.{remainder-lt}
use Rattle.bch_register.proofs.RegisterLemmas.{remainder-joined, below_twice}
use Rattle.code_model.proofs.ByteLemmas.{length-bits_of, AreBits-bits_of}
use Rattle.bch_register.proofs.WordLemmas.{number_from-word, number_from_take-lt}
use Rattle.bch_register.proofs.word.remainder_of_word.Goals as goal

pub returns-clause-value : goal.returns-clause-value
returns-clause-value c =
    let d = c.args.degree in
    let g = c.args.generator in
    let body = bits_of c.args.body.now in
    let parity = bits_of c.args.parity.now in
    let n = number_from 0 body in
    let long : length parity ≡ 8 * length c.args.parity.now = length-bits_of c.args.parity.now in
    let len = c.requires.parity in
    let room : d ≤ length parity = omega arith in
    let bits = AreBits-bits_of c.args.parity.now in
    let p = number_from 0 parity / 2 ^ (length parity - d) in
    let low : c.shr.result ≡ p = c.shr.ensures.0 ∙ ap₂ (λ x k. x / 2 ^ (k - d)) c.number_of.ensures (sym long) in
    c.bitxor.ensures.0 ∙ ap₂ bit_xor c.parity_number.ensures.value low
    ∙ remainder-joined d g n p c.requires.generator (number_from_take-lt d parity bits room)
    ∙ ap (remainder d g) (sym (number_from-word d body parity bits room))

pub returns-clause-small : goal.returns-clause-small
returns-clause-small c =
    let d = c.args.degree in
    let h = c.requires.generator in
    subst (λ (x : ℕ). x < 2 ^ d) (sym (returns-clause-value c))
    (remainder-lt d c.args.generator (number_from 0 (bits_of c.args.body.now ++ take d (bits_of c.args.parity.now))) h.0 (below_twice d c.args.generator h.1))
