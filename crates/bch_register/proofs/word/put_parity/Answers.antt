use Rattle.std.proofs.Common.{◌≡◌, ◌*◌, ◌+◌, ◌-◌, ◌/◌, ◌%◌, ◌^◌, arith, ap, ◌∙◌, length}
use Rattle.code_model.specs.Binary.{remainder}
use Rattle.code_model.specs.Bits.{bits_of}
use Rattle.code_model.specs.Word.{number_from}
use Rattle.bch_register.proofs.RegisterLemmas.{shl-room}
use Rattle.bch_register.proofs.WordLemmas.{same_bytes}
use Rattle.bch_register.proofs.word.put_parity.Goals as goal

pub returns : goal.returns
returns c =
    let d = c.args.degree in
    let e = (d + 7) / 8 in
    let r = remainder d c.args.generator (number_from 0 (bits_of c.args.body.now) * 2 ^ d) in
    let pad = 8 * e - d in
    let q = c.parity_number.ensures in
    let h = c.requires.degree in
    let number : c.shl-number.result ≡ r * 2 ^ pad =
    (c.shl-number.ensures.0 ∙ ap (λ k. c.parity_number.result * 2 ^ (8 * k - d) % 2 ^ 256) c.requires.room
    ∙ shl-room d pad 256 c.parity_number.result (omega arith) q.small ∙ ap (λ x. x * 2 ^ pad) q.value) in
    same_bytes e (r * 2 ^ pad) c.loop-i.out (c.loop-i.auto.out ∙ c.requires.room)
    (λ k l. let place : 248 - 8 * (32 - length c.args.out.now + k) ≡ 8 * (e - 1 - k) = omega (arith, c.requires.room) in
    c.loop-i.invariant k (omega arith) ∙ ap (λ i. c.shl-number.result / 2 ^ i % 256) place ∙ ap (λ x. x / 2 ^ (8 * (e - 1 - k)) % 256) number)
