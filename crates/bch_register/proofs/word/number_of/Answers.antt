use Rattle.std.proofs.Common.{◌≡◌, ◌<◌, ◌*◌, ◌^◌, arith, rules, sym, ap₂, ◌∙◌, take, get_or}
use Rattle.std.specs.Prelude.{bit_xor}
use Rattle.code_model.specs.Bits.{bits_of}
use Rattle.code_model.specs.Word.{number_from}
use Rattle.bch_register.proofs.RegisterLemmas.{xor-apart}
use Rattle.bch_register.proofs.WordLemmas.{number_of-more, number_of-room}
use Rattle.bch_register.proofs.word.number_of.Goals as goal

pub loop-byte-init : goal.loop-byte-init
unfolding bits_of number_from
loop-byte-init c = c.from_halves-number.ensures.value

pub loop-byte-preserved : goal.loop-byte-preserved
loop-byte-preserved c =
    let bytes = c.args.bytes.now in
    let k = c.loop-byte.byte-index in
    let n = number_from 0 (bits_of (take k bytes)) in
    let byte = get_or bytes k 0 in
    let small : byte < 2 ^ 8 = search rules in
    let room : n < 2 ^ 248 = number_of-room bytes k (omega arith) c.requires in
    let before : c.loop-byte.number ≡ n = c.loop-byte.invariant in
    let shift = c.shl.ensures.0 in
    let moved : c.shl.result ≡ n * 2 ^ 8 = omega arith in
    let from = c.from_halves.ensures.value in
    let low : c.from_halves.result ≡ byte = omega arith in
    c.bitxor-number.ensures.0 ∙ ap₂ bit_xor moved low ∙ xor-apart 8 n byte small ∙ sym (number_of-more bytes k (omega arith) small)
