use Rattle.std.proofs.Common.{ap, arith}
use Rattle.code_model.proofs.DistanceLemmas.{distance-same}
use Rattle.bch_decode.specs.Answers.{joined_word}
use Rattle.bch_decode.specs.declared.decoder.Decoded.TheVariants.{Corrected}
use Rattle.bch_solver.specs.Words.{code_over}
use Rattle.bch_quick.proofs.Nearest.{code_over-bch, joined_word-long, nearest_only}
use Rattle.bch_quick.proofs.decoder.decode_step.Goals as goal

pub returns-then-has_parity-clause-decodes : goal.returns-then-has_parity-clause-decodes
returns-then-has_parity-clause-decodes g c =
    let m = g.C.BinaryField.DEGREE in
    let f = g.C.BinaryField.MODULUS in
    let b = g.C.StepCode.STEP in
    record {
      word = c.has_parity.ensures c.if-has_parity.true;
      apart = distance-same (joined_word (code_over m f c.args.t b) c.args.step.now c.args.parity.now);
      near = omega arith;
    }

pub returns-then-has_parity-clause-finds : goal.returns-then-has_parity-clause-finds
returns-then-has_parity-clause-finds g c = λ word n nearest.
    let m = g.C.BinaryField.DEGREE in
    let f = g.C.BinaryField.MODULUS in
    let b = g.C.StepCode.STEP in
    let p = g.C.BinaryField.primitive in
    let t = c.args.t in
    let room = c.requires.room in
    let bch = code_over-bch m f t b p g.met.C.StepCode.short c.requires.strength.1 in
    let long = joined_word-long m f t b c.args.step.now c.args.parity.now c.requires.whole (omega arith) in
    let only = nearest_only m f t b _ _ _ _ _ bch long (returns-then-has_parity-clause-decodes g c) nearest in
    (ap Corrected only.0, only.1)
