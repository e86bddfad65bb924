use Rattle.std.proofs.Common.{◌^◌, ◌≡◌, ◌<◌, ◌+◌, ◌∙◌, suc, length, sym, ap, refl, arith, length-set}
use Rattle.code_model.specs.Binary.{power, value_at}
use Rattle.code_model.proofs.InverseLemmas.{power-first}
use Rattle.bch_solver.proofs.RowLemmas.{read_set}
use Rattle.bch_solver.proofs.SyndromeLemmas.{power_next, zeros_32}
use Rattle.bch_solver.proofs.syndrome.syndromes.Goals as goal

pub loop-j-init : goal.loop-j-init
loop-j-init g c =
    let m = g.F.BinaryField.DEGREE in
    let f = g.F.BinaryField.MODULUS in
    let p = g.F.BinaryField.primitive in
    let wide = p.wide in
    record {
      long = refl;
      power_is = power-first m f p 2 wide;
      power_small = wide;
      small = λ i. zeros_32 (2 ^ m) i (omega arith);
      values = λ i h. absurd (omega arith);
    }

pub loop-j-preserved : goal.loop-j-preserved
loop-j-preserved g c =
    let m = g.F.BinaryField.DEGREE in
    let f = g.F.BinaryField.MODULUS in
    let p = g.F.BinaryField.primitive in
    let inv = c.loop-j.invariant in
    let j = c.loop-j.j in
    let all = c.loop-j.all in
    let r = c.value_of_bits.result in
    let room : j < length all = omega arith in
    let more : suc j + 1 ≡ suc (j + 1) = omega arith in
    let n = c.args.polynomial in
    record {
      long = length-set all j r ∙ inv.long;
      power_is = power_next m f c.loop-j.power (suc j) c.product-power.result inv.power_is c.product-power.ensures.value ∙ ap (power m f 2) more;
      power_small = c.product-power.ensures.small;
      small = λ i. read_set (λ x. x < 2 ^ m) all j i r room (λ e. c.value_of_bits.ensures.small) (λ ne. inv.small i);
      values = λ i h. read_set (λ x. x ≡ value_at m f (power m f 2 (suc i)) n) all j i r room
          (λ e. c.value_of_bits.ensures.value ∙ ap (λ x. value_at m f x n) (inv.power_is ∙ ap (λ k. power m f 2 (suc k)) (sym e)))
          (λ ne. inv.values i (omega arith));
    }
