use Rattle.std.proofs.Common.{◌*◌, ◌+◌, ◌-◌, ◌/◌, ◌^◌, ap₂, ◌∙◌, arith}
use Rattle.code_model.specs.Bits.{bytes_of}
use Rattle.code_model.specs.Code.{parity_of}
use Rattle.bch_quick.proofs.Nearest.{parity_bits-some}
use Rattle.bch_quick.proofs.encoder.write_parity.Goals as goal

pub put_number-requires-clause-degree : goal.put_number-requires-clause-degree
put_number-requires-clause-degree g c =
    let d = c.parity_bits.ensures.value in
    let few = c.parity_bits.ensures.small in
    let some = parity_bits-some g.C.BinaryField.DEGREE c.args.t g.C.BinaryField.primitive.wide c.requires.strength.0 in
    let t = c.requires.strength.1 in
    (omega arith, omega arith)

pub returns : goal.returns
unfolding parity_of
returns g c =
    c.put_number.ensures ∙ ap₂ (λ d n. bytes_of ((d + 7) / 8) (n * 2 ^ (8 * ((d + 7) / 8) - d))) c.parity_bits.ensures.value c.parity_number_quick-number.ensures.value
