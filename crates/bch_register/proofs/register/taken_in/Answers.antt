use Rattle.std.proofs.Common.{◌≡◌, ◌<◌, ◌*◌, ◌^◌, arith, sym, ap, ◌∙◌}
use Rattle.std.specs.Prelude.{bit_xor}
use Rattle.code_model.specs.Binary.{reduced, remainder}
use Rattle.code_model.proofs.BinaryLemmas.{remainder-small}
use Rattle.bch_register.specs.Division.{with_top}
use Rattle.bch_register.proofs.RegisterLemmas.{remainder-moved}
use Rattle.bch_register.proofs.register.taken_in.Goals as goal

pub loop-init : goal.loop-init
loop-init c =
    let sum = c.bitxor-register.ensures in
    let from = c.from_halves.ensures.value in
    let top : c.from_halves.result ≡ c.args.byte * 2 ^ 248 = omega arith in
    let s = bit_xor c.args.register (c.args.byte * 2 ^ 248) in
    let whole : c.bitxor-register.result ≡ s = sum.0 ∙ ap (bit_xor c.args.register) top in
    let small : s < 2 ^ 256 = (let h = sum.1 in omega arith) in
    let one : s * 1 ≡ s = omega arith in
    whole ∙ sym (remainder-small 256 (with_top c.args.modulus) s small) ∙ ap (remainder 256 (with_top c.args.modulus)) (sym one)

pub loop-preserved : goal.loop-preserved
loop-preserved c =
    let f = with_top c.args.modulus in
    c.moved_up-register.ensures.value ∙ ap (λ r. reduced 256 f (2 * r)) c.loop.invariant
    ∙ remainder-moved 256 f (bit_xor c.args.register (c.args.byte * 2 ^ 248)) c.loop.counter
