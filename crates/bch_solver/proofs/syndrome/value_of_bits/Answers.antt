use Rattle.std.proofs.Common.{ℕ, subst, Bool, true, false, ◌<◌, ◌≡◌, ◌+◌, suc, ◌∙◌, sym, ap, arith, ◌^◌, ◌-◌}
use Rattle.std.specs.Int.{bit_at}
use Rattle.std.proofs.lemmas.Nat.{xor_lt}
use Rattle.code_model.specs.Binary.{value_at}
use Rattle.bch_solver.proofs.SyndromeLemmas.{horner_none, horner_one, horner_zero, horner_all}
use Rattle.bch_solver.proofs.syndrome.value_of_bits.Goals as goal
use Rattle.bch_solver.proofs.syndrome.value_of_bits.Goals.{then-bit, else-bit}

not_both : {b : Bool} → b ≡ false → b ≡ true → ⊥
not_both e q = cc

pub loop-k-init : goal.loop-k-init
loop-k-init g c =
    let m = g.F.BinaryField.DEGREE in
    let f = g.F.BinaryField.MODULUS in
    let p = g.F.BinaryField.primitive in
    let wide = p.wide in
    record {
      value = horner_none m f c.args.polynomial c.args.degree c.args.x c.requires.small;
      small = omega arith;
    }

pub loop-k-preserved : goal.loop-k-preserved
loop-k-preserved g c =
    let m = g.F.BinaryField.DEGREE in
    let f = g.F.BinaryField.MODULUS in
    let p = g.F.BinaryField.primitive in
    let wide = p.wide in
    let n = c.args.polynomial in
    let before = c.args.degree - c.loop-k.k in
    let after = c.args.degree - (c.loop-k.k + 1) in
    let next : before ≡ suc after = omega arith in
    let same : c.args.degree - 1 - c.loop-k.k ≡ after = omega arith in
    let r = c.product-sum.result in
    elim c.if-bit.branch [
      | then-bit w ↦ record {
        value = w.sum-is ∙ horner_one m f n after before c.args.x c.loop-k.sum r next c.loop-k.invariant.value c.product-sum.ensures.value (ap (bit_at n) (sym same) ∙ c.bit.ensures.0 w.if-bit.true);
        small = subst (λ (x : ℕ). x < 2 ^ m) (sym w.sum-is) (xor_lt m r 1 c.product-sum.ensures.small (omega arith));
      }
      | else-bit w ↦ record {
        value = w.sum-is ∙ horner_zero m f n after before c.args.x c.loop-k.sum r next c.loop-k.invariant.value c.product-sum.ensures.value (λ q. not_both w.if-bit.false (c.bit.ensures.1 (ap (bit_at n) same ∙ q)));
        small = subst (λ (x : ℕ). x < 2 ^ m) (sym w.sum-is) c.product-sum.ensures.small;
      }
    ]

pub returns-clause-value : goal.returns-clause-value
returns-clause-value g c =
    let m = g.F.BinaryField.DEGREE in
    let f = g.F.BinaryField.MODULUS in
    c.loop-k.invariant.value ∙ ap (value_at m f c.args.x) (horner_all c.args.polynomial c.args.degree c.loop-k.k (omega arith))
