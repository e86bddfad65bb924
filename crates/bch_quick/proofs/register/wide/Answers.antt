use Rattle.std.proofs.Common.{◌≡◌, ◌<◌, ◌*◌, ◌/◌, ◌^◌, ℕ, arith, rules, sym, ap, ◌∙◌, length, take, get_or}
use Rattle.std.specs.Prelude.{bit_xor}
use Rattle.code_model.specs.Binary.{remainder}
use Rattle.code_model.specs.Bits.{bits_of}
use Rattle.code_model.specs.Word.{number_from}
use Rattle.code_model.proofs.BinaryLemmas.{remainder-zero}
use Rattle.bch_quick.proofs.StepLemmas.{piece_step, remainder-piece, number_of-four, taken_all}
use Rattle.bch_quick.proofs.register.wide.Goals as goal

pub loop-i-init : goal.loop-i-init
unfolding bits_of number_from
loop-i-init c = record {
  value = λ f rows. c.from_halves-register.ensures.value ∙ sym (remainder-zero 256 f);
  small = c.from_halves-register.ensures.small;
}

pub loop-i-preserved : goal.loop-i-preserved
loop-i-preserved c =
    let bytes = c.args.body.now in
    let i = c.loop-i.i in
    let n = number_from 0 (bits_of (take (4 * i) bytes)) in
    let piece = c.four_bytes.result in
    let r = c.loop-i.register in
    let bytes_small : (k : ℕ) → get_or bytes k 0 < 2 ^ 8 = (λ k. search rules) in
    let low : piece < 2 ^ 32 = omega arith in
    let shift = c.shl.ensures in
    record {
      value = λ f rows.
          let row = c.wide_sum-sum.ensures f rows ∙ ap (λ h. remainder 256 f (bit_xor h piece * 2 ^ 256)) c.top_of-top.ensures in
          c.bitxor-register.ensures.0
          ∙ piece_step 224 32 f r piece c.shl.result c.wide_sum-sum.result rows.low rows.high shift.0 row
          ∙ ap (λ r. remainder 256 f (bit_xor r (piece * 2 ^ 224) * 2 ^ 32)) (c.loop-i.invariant.value f rows)
          ∙ remainder-piece 224 32 f n piece rows.low rows.high low
          ∙ ap (λ i. remainder 256 f (i * 2 ^ 256)) (sym (number_of-four bytes i piece (omega arith) bytes_small c.four_bytes.ensures));
      small = c.bitxor-register.ensures.1;
    }

pub returns : goal.returns
returns c = λ f rows.
    let fours = c.requires in
    let end : c.loop-i.i ≡ length c.args.body.now / 4 = omega arith in
    c.loop-i.invariant.value f rows ∙ ap (λ bs. remainder 256 f (number_from 0 (bits_of bs) * 2 ^ 256)) (taken_all c.args.body.now c.loop-i.i (omega arith))
