use Rattle.std.proofs.Common.{◌∙◌, ◌*◌, sym, ap, arith, below_more}
use Rattle.code_model.specs.Binary.{reduced}
use Rattle.code_model.proofs.InverseLemmas.{power-none}
use Rattle.code_model.proofs.PowerLemmas.{power_x-suc, not_none}
use Rattle.binary_field.proofs.ShiftLemmas.{shifted_one}
use Rattle.binary_field.proofs.field.logarithm.Goals as goal

pub loop-n-init : goal.loop-n-init
loop-n-init g c =
    let p = g.F.BinaryField.primitive in
    record {
      value = power-none g.F.BinaryField.DEGREE g.F.BinaryField.MODULUS p 2;
      small = omega (arith, p.wide);
      none_before = λ k h. absurd (omega arith);
    }

pub loop-n-preserved : goal.loop-n-preserved
loop-n-preserved g c =
    let m = g.F.BinaryField.DEGREE in
    let f = g.F.BinaryField.MODULUS in
    let p = g.F.BinaryField.primitive in
    record {
      value = c.doubled-power.ensures.value ∙ ap (λ x. reduced m f (2 * x)) c.loop-n.invariant.value ∙ sym (power_x-suc m f p c.loop-n.n);
      small = c.doubled-power.ensures.small;
      none_before = below_more _ _ c.loop-n.invariant.none_before (λ e. c.if-power-a.false (c.loop-n.invariant.value ∙ e));
    }

pub returns-clause-value : goal.returns-clause-value
returns-clause-value g c =
    let m = g.F.BinaryField.DEGREE in
    let size = shifted_one m c.DEGREE.result g.F.BinaryField.small c.DEGREE.ensures in
    absurd (not_none m g.F.BinaryField.MODULUS g.F.BinaryField.primitive c.args.a c.requires.not_zero c.requires.small
    (λ k h. c.loop-n.invariant.none_before k (omega arith)))
