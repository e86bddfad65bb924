use Rattle.std.proofs.Common.{◌≡◌, ◌≤◌, ◌+◌, ◌∙◌, ℕ, sym, ap, refl, subst, arith, inl, inr, List}
use Rattle.code_model.specs.Binary.{times, power}
use Rattle.code_model.specs.Poly.{value}
use Rattle.code_model.proofs.InverseLemmas.{power-none}
use Rattle.bch_solver.specs.Rows.{polynomial_of}
use Rattle.bch_solver.proofs.SyndromeLemmas.{power_next}
use Rattle.bch_solver.proofs.SearchLemmas.{Done, done_none, done_more}
use Rattle.bch_solver.proofs.search.correct.Goals as goal
use Rattle.bch_solver.proofs.search.correct.Goals.{then-value_of-eq0, else-value_of-eq0}

pub loop-k-init : goal.loop-k-init
loop-k-init g c =
    let m = g.F.BinaryField.DEGREE in
    let f = g.F.BinaryField.MODULUS in
    let p = g.F.BinaryField.primitive in
    record {
      power_is = power-none m f p 2;
      power_small = omega (arith, p.wide);
      few = omega arith;
      bits = done_none _ c.args.count c.args.bytes.now;
    }

pub loop-k-preserved : goal.loop-k-preserved
loop-k-preserved g c =
    let m = g.F.BinaryField.DEGREE in
    let f = g.F.BinaryField.MODULUS in
    let p = g.F.BinaryField.primitive in
    let inv = c.loop-k.invariant in
    let cs = polynomial_of c.args.locator.now.coefficients c.args.locator.now.degree in
    let v = λ (d : ℕ). value (times m f) cs (power m f 2 d) in
    let n = c.args.count in
    let k = c.loop-k.k in
    let value_is : c.value_of.result ≡ v k = c.value_of.ensures.value ∙ ap (value (times m f) cs) inv.power_is in
    let bits : Done v n (k + 1) c.if-value_of-eq0.flips c.args.bytes.now c.if-value_of-eq0.bytes =
    elim c.if-value_of-eq0.branch [
      | then-value_of-eq0 w ↦ subst (λ (b : List ℕ). Done v n (k + 1) c.if-value_of-eq0.flips c.args.bytes.now b) (sym w.bytes-is)
          (done_more v n k c.loop-k.flips c.if-value_of-eq0.flips c.args.bytes.now c.loop-k.bytes w.flip.new.bytes c.loop-k-test.true inv.bits w.flip.ensures.others
          (inl (sym value_is ∙ w.if-value_of-eq0.true, w.flip.ensures.turned, w.flips-is)))
      | else-value_of-eq0 w ↦ subst (λ (b : List ℕ). Done v n (k + 1) c.if-value_of-eq0.flips c.args.bytes.now b) (sym w.bytes-is)
          (done_more v n k c.loop-k.flips c.if-value_of-eq0.flips c.args.bytes.now c.loop-k.bytes c.loop-k.bytes c.loop-k-test.true inv.bits (λ j _. refl)
          (inr ((λ z. w.if-value_of-eq0.false (value_is ∙ z)), refl, w.flips-is)))
    ] in
    let few : c.if-value_of-eq0.flips ≤ k + 1 = elim c.if-value_of-eq0.branch [ then-value_of-eq0 w ↦ omega arith | else-value_of-eq0 w ↦ omega arith ] in
    record {
      power_is = power_next m f c.loop-k.power k c.product-power.result inv.power_is c.product-power.ensures.value;
      power_small = c.product-power.ensures.small;
      few = few;
      bits = bits;
    }
