use Rattle.std.proofs.Common.{◌≡◌, ◌<◌, ◌*◌, ◌/◌, ◌%◌, ◌^◌, ℕ, arith, rules, refl, sym, ap, ◌∙◌, length, take, get_or}
use Rattle.std.specs.Prelude.{bit_xor}
use Rattle.code_model.specs.Binary.{remainder}
use Rattle.code_model.specs.Bits.{bits_of}
use Rattle.code_model.specs.Word.{number_from}
use Rattle.code_model.proofs.BinaryLemmas.{remainder-zero}
use Rattle.bch_quick.proofs.StepLemmas.{piece_step, remainder-piece, number_of-four, taken_all}
use Rattle.bch_quick.proofs.register.middle.Goals as goal

pub loop-i-init : goal.loop-i-init
unfolding bits_of number_from
loop-i-init c = λ f rows. sym (remainder-zero 128 f)

pub loop-i-preserved : goal.loop-i-preserved
loop-i-preserved c = λ f rows.
    let bytes = c.args.body.now in
    let i = c.loop-i.i in
    let n = number_from 0 (bits_of (take (4 * i) bytes)) in
    let piece = c.four_bytes.result in
    let r = c.loop-i.register in
    let small : (k : ℕ) → get_or bytes k 0 < 2 ^ 8 = (λ k. search rules) in
    let low : piece < 2 ^ 32 = omega arith in
    piece_step 96 32 f r piece (r * 2 ^ 32 % 2 ^ 128) c.middle_sum-sum.result rows.low rows.high refl (c.middle_sum-sum.ensures f rows)
    ∙ ap (λ r. remainder 128 f (bit_xor r (piece * 2 ^ 96) * 2 ^ 32)) (c.loop-i.invariant f rows)
    ∙ remainder-piece 96 32 f n piece rows.low rows.high low
    ∙ ap (λ i. remainder 128 f (i * 2 ^ 128)) (sym (number_of-four bytes i piece (omega arith) small c.four_bytes.ensures))

pub returns : goal.returns
returns c = λ f rows.
    let fours = c.requires in
    let end : c.loop-i.i ≡ length c.args.body.now / 4 = omega arith in
    c.loop-i.invariant f rows ∙ ap (λ bs. remainder 128 f (number_from 0 (bits_of bs) * 2 ^ 128)) (taken_all c.args.body.now c.loop-i.i (omega arith))
