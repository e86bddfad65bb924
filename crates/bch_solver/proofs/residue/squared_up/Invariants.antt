use Rattle.std.proofs.Common.{◌≡◌, ℕ, ◌+◌, ◌-◌, length, get_or}
use Rattle.code_model.specs.Binary.{times}
use Rattle.code_model.specs.Poly.{value}
use Rattle.bch_solver.specs.Rows.{listed}
use Rattle.bch_solver.specs.Residues.{value_17, IsResidue}
use Rattle.bch_solver.proofs.residue.squared_up.Given as goal

abbrev pub invariant-loop-i : goal.invariant-loop-i
invariant-loop-i g l = record {
  long : length l.sum ≡ 17;
  residue : IsResidue g.F.BinaryField.DEGREE l.locator.degree l.sum;
  value : (x : ℕ) → value_17 g.F.BinaryField.DEGREE g.F.BinaryField.MODULUS l.locator.coefficients x ≡ 0
      → value_17 g.F.BinaryField.DEGREE g.F.BinaryField.MODULUS l.sum x
      ≡ (let v = value (times g.F.BinaryField.DEGREE g.F.BinaryField.MODULUS) (listed (λ j. get_or l.residue (j + (l.locator.degree - l.i)) 0) l.i) x in
      times g.F.BinaryField.DEGREE g.F.BinaryField.MODULUS v v);
}
