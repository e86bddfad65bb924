use Rattle.std.proofs.Common.{◌-◌, ◌+◌, ◌*◌, ◌++◌, ◌∙◌, ℕ, length, take, drop, sym, subst, arith}
use Rattle.std.proofs.lemmas.List.{length-take-le}
use Rattle.code_model.specs.Bits.{bits_of}
use Rattle.code_model.specs.Code.{IsCodeWord}
use Rattle.bch_solver.specs.Words.{code_over}
use Rattle.bch_solver.proofs.BitsLemmas.{bits_of-body_parity}
use Rattle.bch_quick.proofs.word.is_code_word.Goals as goal

pub slice_bounds-has_parity-end : goal.slice_bounds-has_parity-end
slice_bounds-has_parity-end g c = sym (length-take-le c.STEP.result c.args.word.now (let h = c.requires.whole in let e = c.STEP.ensures in omega arith))

pub has_parity-requires-clause-whole : goal.has_parity-requires-clause-whole
has_parity-requires-clause-whole g c = length-take-le c.STEP.result c.args.word.now (let h = c.requires.whole in let e = c.STEP.ensures in omega arith) ∙ c.STEP.ensures

pub returns : goal.returns
returns g c = λ same.
    let m = g.C.BinaryField.DEGREE in
    let f = g.C.BinaryField.MODULUS in
    let b = g.C.StepCode.STEP in
    let word = c.args.word.now in
    let whole = c.requires.whole in
    let first = c.STEP.ensures in
    let second = c.STEP-2.ensures in
    subst (λ (k : ℕ). IsCodeWord (code_over m f c.args.t b) (take (8 * k + m * c.args.t) (bits_of word))) first
    (subst (IsCodeWord (code_over m f c.args.t b))
    (bits_of-body_parity word c.STEP.result (m * c.args.t) (length word - c.STEP-2.result) (omega arith) (omega arith))
    (subst (λ (k : ℕ). IsCodeWord (code_over m f c.args.t b) (bits_of (take c.STEP.result word) ++ take (m * c.args.t) (bits_of (take (length word - c.STEP-2.result) (drop k word))))) (second ∙ sym first)
    (c.has_parity.ensures same)))
