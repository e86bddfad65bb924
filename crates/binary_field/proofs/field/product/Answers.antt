use Rattle.std.proofs.Common.{◌≡◌, ◌<◌, ◌/◌, ◌^◌, ◌-◌, ◌+◌, suc, sym, ap, ◌∙◌, subst, ℕ, arith}
use Rattle.std.specs.Prelude.{bit_and}
use Rattle.std.proofs.lemmas.Nat.{pow_pos}
use Rattle.code_model.specs.Binary.{times}
use Rattle.code_model.proofs.BinaryLemmas.{times-lt}
use Rattle.code_model.proofs.CodeLemmas.{times_step_one, times_step_zero, times-zero_left}
use Rattle.binary_field.proofs.ShiftLemmas.{all_shifted}
use Rattle.binary_field.proofs.field.product.Goals as goal
use Rattle.binary_field.proofs.field.product.Goals.{then-a-DEGREE-eq1, else-a-DEGREE-eq1}

pub loop-i-init : goal.loop-i-init
loop-i-init g c =
    let m = g.F.BinaryField.DEGREE in
    let f = g.F.BinaryField.MODULUS in
    record { value = sym (ap (λ x. times m f x c.args.b) (all_shifted m c.args.a c.requires.left) ∙ times-zero_left m f c.args.b); small = pow_pos m }

pub loop-i-preserved : goal.loop-i-preserved
loop-i-preserved g c =
    let m = g.F.BinaryField.DEGREE in
    let f = g.F.BinaryField.MODULUS in
    let p = g.F.BinaryField.primitive in
    let before = m - c.loop-i.i in
    let after = m - (c.loop-i.i + 1) in
    let end = c.DEGREE-i-end.ensures in
    let degree = c.DEGREE.ensures in
    let same : c.DEGREE.result - 1 - c.loop-i.i ≡ after = omega arith in
    let next : before ≡ suc after = omega arith in
    let d = c.doubled-sum.result in
    let value : c.if-a-DEGREE-eq1.sum ≡ times m f (c.args.a / 2 ^ after) c.args.b =
    elim c.if-a-DEGREE-eq1.branch [
      | then-a-DEGREE-eq1 w ↦ w.sum-is ∙ times_step_one m f c.args.a c.args.b after before c.loop-i.sum d p.low p.high c.requires.right next c.loop-i.invariant.value c.doubled-sum.ensures.value
          (ap (λ i. bit_and (c.args.a / 2 ^ i) 1) (sym same) ∙ w.if-a-DEGREE-eq1.true)
      | else-a-DEGREE-eq1 w ↦ w.sum-is ∙ times_step_zero m f c.args.a c.args.b after before c.loop-i.sum d p.low p.high c.requires.right next c.loop-i.invariant.value c.doubled-sum.ensures.value
          (λ e. w.if-a-DEGREE-eq1.false (ap (λ i. bit_and (c.args.a / 2 ^ i) 1) same ∙ e))
    ] in
    record { value = value; small = subst (λ (x : ℕ). x < 2 ^ m) (sym value) (times-lt m f _ _ p.low p.high) }
