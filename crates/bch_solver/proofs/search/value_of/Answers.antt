use Rattle.std.proofs.Common.{◌≡◌, ◌+◌, ◌-◌, ◌∙◌, suc, sym, ap, arith, get_or}
use Rattle.std.specs.Prelude.{bit_xor}
use Rattle.std.proofs.lemmas.Nat.{xor_lt}
use Rattle.code_model.specs.Binary.{times}
use Rattle.code_model.specs.Poly.{value}
use Rattle.bch_solver.specs.Rows.{listed}
use Rattle.bch_solver.proofs.PolynomialLemmas.{value_none, value_more}
use Rattle.bch_solver.proofs.search.value_of.Goals as goal

pub loop-i-init : goal.loop-i-init
loop-i-init g c =
    let m = g.F.BinaryField.DEGREE in
    let f = g.F.BinaryField.MODULUS in
    let p = g.F.BinaryField.primitive in
    record { value = sym (value_none (times m f) _ c.args.x); small = omega (arith, p.wide) }

pub loop-i-preserved : goal.loop-i-preserved
loop-i-preserved g c =
    let m = g.F.BinaryField.DEGREE in
    let f = g.F.BinaryField.MODULUS in
    let p = g.F.BinaryField.primitive in
    let cs = c.args.locator.now.coefficients in
    let i = c.loop-i.i in
    let last = c.args.locator.now.degree in
    let next : suc i ≡ i + 1 = omega arith in
    let after : last - i ≡ last + 1 - (i + 1) = omega arith in
    let before : last + 1 - i ≡ suc (last - i) = omega arith in
    record {
      value = ap (bit_xor (get_or cs (last - i) 0)) c.product.ensures.value ∙ value_more (times m f) (λ j. get_or cs j 0) c.args.x i (last + 1 - i) (last - i) c.loop-i.sum before c.loop-i.invariant.value
          ∙ ap (λ n. value (times m f) (listed (λ j. get_or cs (j + n) 0) (suc i)) c.args.x) after
          ∙ ap (λ n. value (times m f) (listed (λ j. get_or cs (j + (last + 1 - (i + 1))) 0) n) c.args.x) next;
      small = xor_lt m (get_or cs (last - i) 0) c.product.result (c.requires.small_locator (last - i)) c.product.ensures.small;
    }
