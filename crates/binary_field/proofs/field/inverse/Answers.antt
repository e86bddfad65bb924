use Rattle.std.proofs.Common.{◌≡◌, ◌∙◌, sym, ap, arith, ◌^◌, ◌-◌, ◌+◌}
use Rattle.code_model.specs.Binary.{power}
use Rattle.code_model.proofs.InverseLemmas.{power-first, power-none, square_step, all_step, times-inverse}
use Rattle.binary_field.proofs.ShiftLemmas.{degree_above_one}
use Rattle.binary_field.proofs.field.inverse.Goals as goal

pub loop-i-init : goal.loop-i-init
loop-i-init g c =
    let m = g.F.BinaryField.DEGREE in
    let f = g.F.BinaryField.MODULUS in
    let p = g.F.BinaryField.primitive in
    record {
      square = power-first m f p c.args.a c.requires.small;
      all = power-none m f p c.args.a;
      square_small = c.requires.small;
      all_small = omega (arith, p.wide);
    }

pub loop-i-preserved : goal.loop-i-preserved
loop-i-preserved g c =
    let m = g.F.BinaryField.DEGREE in
    let f = g.F.BinaryField.MODULUS in
    let p = g.F.BinaryField.primitive in
    let a = c.args.a in
    let i = c.loop-i.i in
    let back : i - 1 + 1 ≡ i = omega arith in
    let same : i ≡ i + 1 - 1 = omega arith in
    let next = c.product-square.ensures.value ∙ square_step m f p a (i - 1) c.loop-i.square c.loop-i.invariant.square in
    record {
      square = next ∙ ap (λ k. power m f a (2 ^ k)) (back ∙ same);
      all = c.product-all.ensures.value
          ∙ all_step m f p a (i - 1) c.product-square.result c.loop-i.all (c.loop-i.invariant.all ∙ ap (λ k. power m f a (2 ^ k - 2)) (sym back)) next
          ∙ ap (λ k. power m f a (2 ^ (k + 1) - 2)) back;
      square_small = c.product-square.ensures.small;
      all_small = c.product-all.ensures.small;
    }

pub returns-clause-value : goal.returns-clause-value
returns-clause-value g c =
    let m = g.F.BinaryField.DEGREE in
    let f = g.F.BinaryField.MODULUS in
    let p = g.F.BinaryField.primitive in
    let wide = p.wide in
    let above = degree_above_one m wide in
    let degree = c.DEGREE-i-end.ensures in
    let last : c.loop-i.i ≡ m = omega arith in
    times-inverse m f p c.args.a c.loop-i.all (2 ^ m - 2) c.requires.not_zero c.requires.small (omega arith)
    (c.loop-i.invariant.all ∙ ap (λ k. power m f c.args.a (2 ^ k - 2)) last)
