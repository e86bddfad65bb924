use Rattle.std.proofs.Common.{◌≡◌, ◌+◌, ◌-◌, ◌^◌, suc, sym, ap, ◌∙◌, arith}
use Rattle.std.proofs.lemmas.Bool.{not-true, false≢true}
use Rattle.code_model.specs.Binary.{power}
use Rattle.bch_solver.proofs.RowLemmas.{one_below}
use Rattle.bch_solver.proofs.ResidueLemmas.{unit_above, unit_small, value-unit, power_squared_up, one_from_roots}
use Rattle.bch_solver.proofs.far.lacks_roots.Goals as goal

pub loop-i-init : goal.loop-i-init
loop-i-init g c =
    let m = g.F.BinaryField.DEGREE in
    let f = g.F.BinaryField.MODULUS in
    let p = g.F.BinaryField.primitive in
    let some = c.requires.locator.some in
    record {
      residue = record { small = λ k. unit_small m f p 1 k (one_below m f p); above = λ k h. unit_above m f p 1 k (omega arith) };
      value = λ x z. value-unit m f p x;
    }

pub squared_up-power-requires-clause-residue : goal.squared_up-power-requires-clause-residue
squared_up-power-requires-clause-residue g c = c.loop-i.invariant.residue

pub loop-i-preserved : goal.loop-i-preserved
loop-i-preserved g c =
    let m = g.F.BinaryField.DEGREE in
    let f = g.F.BinaryField.MODULUS in
    let p = g.F.BinaryField.primitive in
    let i = c.loop-i.i in
    let next : i + 1 ≡ suc i = omega arith in
    record {
      residue = c.squared_up-power.ensures.residue;
      value = λ x z. power_squared_up m f p x _ _ i (i + 1) (c.loop-i.invariant.value x z) (c.squared_up-power.ensures.value x z) next;
    }

pub returns : goal.returns
returns g c = λ lacks xs places len roots.
    let m = g.F.BinaryField.DEGREE in
    let f = g.F.BinaryField.MODULUS in
    let p = g.F.BinaryField.primitive in
    let all : c.loop-i.i ≡ m = omega arith in
    let one = one_from_roots m f p c.args.locator.now.degree c.args.locator.now.coefficients c.loop-i.power xs c.requires.locator c.loop-i.invariant.residue places len
    (λ x z. c.loop-i.invariant.value x z ∙ ap (λ k. power m f x (2 ^ k - 1)) all) roots in
    false≢true (sym (not-true c.is_one.result lacks) ∙ c.is_one.ensures one.0 one.1)
