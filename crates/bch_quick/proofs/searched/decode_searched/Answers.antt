use Rattle.std.proofs.Common.{◌≡◌, ◌<◌, ◌+◌, ◌*◌, ◌^◌, ◌++◌, ◌∙◌, ℕ, length, sym, ap, subst, arith}
use Rattle.std.proofs.lemmas.List.{length-append}
use Rattle.code_model.specs.Bits.{bit_of}
use Rattle.code_model.specs.Code.{IsNearest, NoneNear}
use Rattle.bch_solver.specs.Words.{code_over}
use Rattle.bch_solver.proofs.BitsLemmas.{bit_of-joined}
use Rattle.bch_decode.specs.Answers.{joined_word}
use Rattle.bch_decode.specs.declared.decoder.Decoded.TheVariants.{Corrected}
use Rattle.bch_quick.proofs.Nearest.{code_over-bch, short_words, joined_word-long, nearest_only, nearest_as, word_before, copied_back}
use Rattle.bch_quick.proofs.searched.decode_searched.Given as given
use Rattle.bch_quick.proofs.searched.decode_searched.Goals as goal

pub decode_word-requires-clause-room : goal.decode_word-requires-clause-room
decode_word-requires-clause-room g c =
    let len = c.requires.room in
    let whole = c.requires.whole in
    let step = c.STEP.ensures in
    ap length c.joined-word.ensures ∙ length-append c.args.step.now c.args.parity.now ∙ omega arith

pub decode_word-requires-clause-below_order : goal.decode_word-requires-clause-below_order
decode_word-requires-clause-below_order g c =
    subst (λ (b : ℕ). 8 * b + g.C.BinaryField.DEGREE * c.args.t < 2 ^ g.C.BinaryField.DEGREE) (sym c.STEP.ensures)
    (short_words g.C.BinaryField.DEGREE c.args.t g.C.StepCode.STEP g.met.C.StepCode.short c.requires.strength.1)

-- no code word is near
none : (g : given.Over) (c : goal.In-None g) → NoneNear (code_over g.C.BinaryField.DEGREE g.C.BinaryField.MODULUS c.args.t g.C.StepCode.STEP)
    (joined_word (code_over g.C.BinaryField.DEGREE g.C.BinaryField.MODULUS c.args.t g.C.StepCode.STEP) c.args.step.now c.args.parity.now)
none g c =
    let m = g.C.BinaryField.DEGREE in
    let f = g.C.BinaryField.MODULUS in
    let t = c.args.t in
    let step = c.args.step.now in
    let parity = c.args.parity.now in
    let before = word_before m f t c.STEP.result _ step parity (c.requires.whole ∙ sym c.STEP.ensures) c.joined-word.ensures in
    subst (λ (b : ℕ). NoneNear (code_over m f t b) (joined_word (code_over m f t b) step parity)) c.STEP.ensures
    (subst (NoneNear (code_over m f t c.STEP.result)) before c.in-None.ensures.none)

pub returns-in-None-clause-decodes : goal.returns-in-None-clause-decodes
returns-in-None-clause-decodes g c = none g c

pub returns-in-None-clause-finds : goal.returns-in-None-clause-finds
returns-in-None-clause-finds g c = λ word n nearest.
    let far = none g c word nearest.word in
    let apart = nearest.apart in
    let near = nearest.near in
    absurd (omega arith)

-- the bytes of step and parity at the end
written : (g : given.Over) (c : goal.After-slice_known-in-Some-2-1 g) → c.part.new.step ++ c.part.new.parity ≡ c.decode_word.new.word
written g c =
    copied_back c.decode_word.new.word _ (c.part.new.step ++ c.part.new.parity) (length c.args.step.now + length c.args.parity.now)
    (c.decode_word.auto.word ∙ ap length c.joined-word.ensures ∙ length-append c.args.step.now c.args.parity.now) c.part.ensures

pub returns-in-Some-clause-decodes : goal.returns-in-Some-clause-decodes
returns-in-Some-clause-decodes g c =
    let m = g.C.BinaryField.DEGREE in
    let f = g.C.BinaryField.MODULUS in
    let t = c.args.t in
    let step = c.args.step.now in
    let parity = c.args.parity.now in
    let new_step = c.part.new.step in
    let new_parity = c.part.new.parity in
    let b = c.STEP.result in
    let long = c.requires.whole ∙ sym c.STEP.ensures in
    let before = word_before m f t b _ step parity long c.joined-word.ensures in
    let after = word_before m f t b c.decode_word.new.word new_step new_parity (c.part.auto.step ∙ long) (sym (written g c)) in
    subst (λ (k : ℕ). IsNearest (code_over m f t k) (joined_word (code_over m f t k) step parity) (joined_word (code_over m f t k) new_step new_parity) c.in-Some.wrong) c.STEP.ensures
    (nearest_as m f t b _ _ _ _ c.in-Some.wrong before after c.in-Some.ensures.corrected)

pub returns-in-Some-clause-finds : goal.returns-in-Some-clause-finds
returns-in-Some-clause-finds g c = λ word n nearest.
    let m = g.C.BinaryField.DEGREE in
    let f = g.C.BinaryField.MODULUS in
    let t = c.args.t in
    let p = g.C.BinaryField.primitive in
    let room = c.requires.room in
    let bch = code_over-bch m f t g.C.StepCode.STEP p g.met.C.StepCode.short c.requires.strength.1 in
    let long = joined_word-long m f t g.C.StepCode.STEP c.args.step.now c.args.parity.now c.requires.whole (omega arith) in
    let only = nearest_only m f t g.C.StepCode.STEP _ _ _ _ _ bch long (returns-in-Some-clause-decodes g c) nearest in
    (ap Corrected only.0, only.1)

pub returns-in-Some-clause-padding : goal.returns-in-Some-clause-padding
returns-in-Some-clause-padding g c = λ k h.
    let b = c.STEP.result in
    let long = c.requires.whole ∙ sym c.STEP.ensures in
    let same = c.in-Some.ensures.padding (8 * b + k) (omega arith) in
    sym (bit_of-joined c.part.new.step c.part.new.parity b k (c.part.auto.step ∙ long)) ∙ ap (λ bytes. bit_of bytes (8 * b + k)) (written g c) ∙ same
    ∙ ap (λ bytes. bit_of bytes (8 * b + k)) c.joined-word.ensures ∙ bit_of-joined c.args.step.now c.args.parity.now b k long
