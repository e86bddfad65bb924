use Rattle.std.proofs.Common.{◌≡◌, ◌≤◌, ◌+◌, ◌*◌, ◌++◌, ◌∙◌, length, sym, ap, ap₂, subst, arith}
use Rattle.std.proofs.lemmas.List.{length-append}
use Rattle.code_model.specs.Word.{AreBits}
use Rattle.bch_solver.specs.Words.{code_over, word_of}
use Rattle.bch_solver.proofs.BitsLemmas.{word_of-joined}
use Rattle.bch_solver.proofs.DecodeLemmas.{near_from_nearest, none_near, length-word_of, AreBits-word_of}
use Rattle.bch_decode.specs.Answers.{joined_word}
use Rattle.bch_quick.proofs.Nearest.{short_words}
use Rattle.bch_quick.proofs.searched.is_word_far.Goals as goal

pub is_far-requires-clause-below_order : goal.is_far-requires-clause-below_order
is_far-requires-clause-below_order g c =
    let m = g.C.BinaryField.DEGREE in
    let b = g.C.StepCode.STEP in
    let step = c.STEP.ensures in
    let degree = c.parity_bits.ensures.value in
    let short = short_words m c.args.t b g.met.C.StepCode.short c.requires.strength.1 in
    omega arith

pub returns : goal.returns
returns g c = λ far.
    let m = g.C.BinaryField.DEGREE in
    let f = g.C.BinaryField.MODULUS in
    let b = g.C.StepCode.STEP in
    let p = g.C.BinaryField.primitive in
    let t = c.args.t in
    let step = c.args.step.now in
    let parity = c.args.parity.now in
    let bytes = step ++ parity in
    let w = joined_word (code_over m f t b) step parity in
    let len = c.requires.room in
    let room : 8 * b + m * t ≤ 8 * length bytes = omega (arith, length-append step parity, c.requires.whole) in
    let e : word_of (code_over m f t b) bytes ≡ w = word_of-joined m f t b step parity c.requires.whole in
    let bits = subst AreBits e (AreBits-word_of m f p t b bytes room) in
    let long = ap length (sym e) ∙ length-word_of m f p t b bytes room in
    let count = ap₂ (λ k d. 8 * k + d) c.STEP.ensures c.parity_bits.ensures.value in
    none_near m f p t b w
    (λ word d nearest. c.is_far.ensures far w word bits (long ∙ sym count) c.remainder_quick.ensures.value (near_from_nearest m f p t b w word d long nearest))
