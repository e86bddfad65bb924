use Rattle.std.proofs.Common.{◌≡◌, ◌+◌, ◌*◌, ◌++◌, ◌∙◌, length, sym, ap, arith}
use Rattle.std.proofs.lemmas.List.{length-append}
use Rattle.code_model.specs.Bits.{bit_of}
use Rattle.bch_solver.proofs.BitsLemmas.{bit_of-joined}
use Rattle.bch_decode.specs.declared.decoder.Decoded.TheVariants.{Corrected}
use Rattle.bch_quick.proofs.Nearest.{code_over-bch, joined_word-long, nearest_only, nearest_as, word_before, copied_back}
use Rattle.bch_quick.proofs.decoder.decode_wrong.Given as given
use Rattle.bch_quick.proofs.decoder.decode_wrong.Goals as goal

-- the bytes of step and parity at the end
written : (g : given.Over) (c : goal.After-slice_known-in-Ok-2-1 g) → c.part.new.step ++ c.part.new.parity ≡ c.decode_guessed.new.word
written g c =
    copied_back c.decode_guessed.new.word _ (c.part.new.step ++ c.part.new.parity) (length c.args.step.now + length c.args.parity.now)
    (c.decode_guessed.auto.word ∙ ap length c.joined-word.ensures ∙ length-append c.args.step.now c.args.parity.now) c.part.ensures

pub returns-in-Ok-clause-decodes : goal.returns-in-Ok-clause-decodes
returns-in-Ok-clause-decodes g c =
    let m = g.C.BinaryField.DEGREE in
    let f = g.C.BinaryField.MODULUS in
    let b = g.C.StepCode.STEP in
    let before = word_before m f c.args.t b _ c.args.step.now c.args.parity.now c.requires.whole c.joined-word.ensures in
    let after = word_before m f c.args.t b c.decode_guessed.new.word c.part.new.step c.part.new.parity (c.part.auto.step ∙ c.requires.whole) (sym (written g c)) in
    nearest_as m f c.args.t b _ _ _ _ c.in-Ok.wrong before after c.in-Ok.ensures.nearest

pub returns-in-Ok-clause-finds : goal.returns-in-Ok-clause-finds
returns-in-Ok-clause-finds g c = λ word n nearest.
    let m = g.C.BinaryField.DEGREE in
    let f = g.C.BinaryField.MODULUS in
    let b = g.C.StepCode.STEP in
    let p = g.C.BinaryField.primitive in
    let t = c.args.t in
    let room = c.requires.room in
    let bch = code_over-bch m f t b p g.met.C.StepCode.short c.requires.strength.1 in
    let long = joined_word-long m f t b c.args.step.now c.args.parity.now c.requires.whole (omega arith) in
    let only = nearest_only m f t b _ _ _ _ _ bch long (returns-in-Ok-clause-decodes g c) nearest in
    (ap Corrected only.0, only.1)

pub returns-in-Ok-clause-padding : goal.returns-in-Ok-clause-padding
returns-in-Ok-clause-padding g c = λ k h.
    let b = g.C.StepCode.STEP in
    let same = c.in-Ok.ensures.padding (8 * b + k) (omega arith) in
    sym (bit_of-joined c.part.new.step c.part.new.parity b k (c.part.auto.step ∙ c.requires.whole)) ∙ ap (λ bytes. bit_of bytes (8 * b + k)) (written g c) ∙ same
    ∙ ap (λ bytes. bit_of bytes (8 * b + k)) c.joined-word.ensures ∙ bit_of-joined c.args.step.now c.args.parity.now b k c.requires.whole
