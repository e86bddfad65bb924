use Rattle.std.proofs.Common.{◌*◌, ◌++◌, ◌∙◌, take, sym, ap, subst, arith}
use Rattle.code_model.specs.Bits.{bits_of}
use Rattle.code_model.specs.Code.{IsCodeWord}
use Rattle.code_model.proofs.ParityLemmas.{parity-completes}
use Rattle.bch_solver.specs.Words.{code_over}
use Rattle.bch_quick.proofs.Nearest.{code_over-bch, parity_bits-some}
use Rattle.bch_quick.proofs.SameLemmas.{same_take}
use Rattle.bch_quick.proofs.word.has_parity.Goals as goal

pub is_same-requires-clause-some : goal.is_same-requires-clause-some
is_same-requires-clause-some g c =
    let stored = c.requires.parity in
    let some = parity_bits-some g.C.BinaryField.DEGREE c.args.t g.C.BinaryField.primitive.wide c.requires.strength.0 in
    omega arith

pub returns : goal.returns
returns g c = λ same.
    let m = g.C.BinaryField.DEGREE in
    let f = g.C.BinaryField.MODULUS in
    let b = g.C.StepCode.STEP in
    let p = g.C.BinaryField.primitive in
    let t = c.args.t in
    let room = c.requires.room in
    let stored = c.requires.parity in
    let own = c.write_parity.new.out in
    let long = c.write_parity.auto.out in
    let degree = c.parity_bits.ensures.value in
    let bits = same_take own c.args.parity.now (m * t) (omega arith) (omega arith) (λ k h. c.is_same.ensures same k (omega arith)) in
    subst (IsCodeWord (code_over m f t b))
    (ap (λ q. bits_of c.args.step.now ++ take (m * t) (bits_of q)) (sym c.write_parity.ensures)
    ∙ ap (λ bs. bits_of c.args.step.now ++ bs) bits)
    (parity-completes (code_over m f t b) (code_over-bch m f t b p g.met.C.StepCode.short c.requires.strength.1) c.args.step.now c.requires.whole)
