use Rattle.std.proofs.Common.{◌<◌, ◌*◌, ◌^◌, arith, rules, sym, ap, ◌∙◌, take, get_or}
use Rattle.std.specs.Prelude.{bit_xor}
use Rattle.code_model.specs.Binary.{remainder}
use Rattle.code_model.specs.Bits.{bits_of}
use Rattle.code_model.specs.Word.{number_from}
use Rattle.code_model.proofs.BinaryLemmas.{remainder-zero}
use Rattle.bch_register.specs.Division.{with_top}
use Rattle.bch_register.proofs.RegisterLemmas.{remainder-byte}
use Rattle.bch_register.proofs.WordLemmas.{number_of-more}
use Rattle.bch_register.proofs.register.divide.Goals as goal

pub loop-byte-init : goal.loop-byte-init
unfolding bits_of number_from
loop-byte-init c = c.from_halves-register.ensures.value ∙ sym (remainder-zero 256 (with_top c.args.modulus))

pub loop-byte-preserved : goal.loop-byte-preserved
loop-byte-preserved c =
    let f = with_top c.args.modulus in
    let bytes = c.args.bytes.now in
    let k = c.loop-byte.byte-index in
    let n = number_from 0 (bits_of (take k bytes)) in
    let byte = get_or bytes k 0 in
    let small : byte < 2 ^ 8 = search rules in
    let m = c.taken_in-register.ensures.small in
    c.taken_in-register.ensures.value ∙ ap (λ r. remainder 256 f (bit_xor r (byte * 2 ^ 248) * 2 ^ 8)) c.loop-byte.invariant
    ∙ remainder-byte 248 f n byte (omega arith) (omega arith) small
    ∙ ap (λ i. remainder 256 f (i * 2 ^ 256)) (sym (number_of-more bytes k (omega arith) small))
