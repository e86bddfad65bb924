use Rattle.std.proofs.Common.{◌≡◌, ◌<◌, ◌/◌, ◌-◌, ◌+◌, ◌^◌, suc, sym, ap, ◌∙◌, subst, ℕ, arith}
use Rattle.std.specs.Prelude.{bit_and}
use Rattle.code_model.specs.Binary.{power}
use Rattle.code_model.proofs.FieldLemmas.{power-lt}
use Rattle.code_model.proofs.InverseLemmas.{power-none}
use Rattle.code_model.proofs.PowerLemmas.{square_step_one, square_step_zero}
use Rattle.binary_field.proofs.field.power_of_x.Goals as goal
use Rattle.binary_field.proofs.field.power_of_x.Goals.{then-n-i-eq1, else-n-i-eq1}

pub loop-i-init : goal.loop-i-init
loop-i-init g c =
    let m = g.F.BinaryField.DEGREE in
    let f = g.F.BinaryField.MODULUS in
    let p = g.F.BinaryField.primitive in
    let fits = c.ranges.n in
    let high : 0 ≡ c.args.n / 4294967296 = omega arith in
    record { value = power-none m f p 2 ∙ ap (power m f 2) high; small = omega (arith, p.wide) }

pub loop-i-preserved : goal.loop-i-preserved
loop-i-preserved g c =
    let m = g.F.BinaryField.DEGREE in
    let f = g.F.BinaryField.MODULUS in
    let p = g.F.BinaryField.primitive in
    let n = c.args.n in
    let before = 32 - c.loop-i.i in
    let after = 32 - (c.loop-i.i + 1) in
    let same : 31 - c.loop-i.i ≡ after = omega arith in
    let next : before ≡ suc after = omega arith in
    let s = c.loop-i.power in
    let q = c.product-power.result in
    let value : c.if-n-i-eq1.power ≡ power m f 2 (n / 2 ^ after) =
    elim c.if-n-i-eq1.branch [
      | then-n-i-eq1 w ↦ w.power-is ∙ w.doubled-power.ensures.value ∙ square_step_one m f p n after before s q next c.loop-i.invariant.value c.product-power.ensures.value (ap (λ i. bit_and (n / 2 ^ i) 1) (sym same) ∙ w.if-n-i-eq1.true)
      | else-n-i-eq1 w ↦ w.power-is ∙ square_step_zero m f p n after before s q next c.loop-i.invariant.value c.product-power.ensures.value (λ e. w.if-n-i-eq1.false (ap (λ i. bit_and (n / 2 ^ i) 1) same ∙ e))
    ] in
    record { value = value; small = subst (λ (x : ℕ). x < 2 ^ m) (sym value) (power-lt m f p 2 _) }
