use Rattle.std.proofs.Common.{◌+◌, ◌*◌, ◌∙◌, sym, ap₂, arith}
use Rattle.code_model.specs.Bits.{bits_from}
use Rattle.code_model.specs.Word.{distance}
use Rattle.bch_solver.proofs.BitsLemmas.{take-bits_of}
use Rattle.bch_quick.proofs.word.is_put_right.Goals as goal

pub returns-then-turn_over-clause-nearest : goal.returns-then-turn_over-clause-nearest
returns-then-turn_over-clause-nearest g c = λ same.
    let b = g.C.StepCode.STEP in
    let n = 8 * b + g.C.BinaryField.DEGREE * c.args.t in
    let whole = c.requires.whole in
    let old = c.args.word.now in
    let new = c.turn_over.new.bytes in
    let long = c.turn_over.auto.bytes in
    record {
      word = c.is_code_word.ensures same;
      apart = ap₂ distance (take-bits_of old n (omega arith)) (take-bits_of new n (omega arith))
          ∙ sym (c.turn_over.ensures.distance c.if-turn_over.true ∙ ap₂ (λ k d. distance (bits_from old 0 (8 * k + d)) (bits_from new 0 (8 * k + d))) c.STEP.ensures c.parity_bits.ensures.value);
      near = c.requires.few;
    }
