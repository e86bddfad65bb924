use Rattle.std.proofs.Common.{◌-◌, length, drop, arith}
use Rattle.std.proofs.lemmas.List.{length-take-le, length-drop}
use Rattle.bch_quick.proofs.Nearest.{parity_bits-some}
use Rattle.bch_quick.proofs.word.decode_guessed.Goals as goal

pub take_off-requires-clause-some : goal.take_off-requires-clause-some
take_off-requires-clause-some g c =
    let word = c.args.word.now in
    let b = c.STEP.result in
    let step = c.STEP.ensures in
    let whole = c.requires.whole in
    let some = parity_bits-some g.C.BinaryField.DEGREE c.args.t g.C.BinaryField.primitive.wide c.requires.strength.0 in
    let rest = length-drop b word in
    let all = length-take-le (length word - b) (drop b word) (omega arith) in
    omega arith
