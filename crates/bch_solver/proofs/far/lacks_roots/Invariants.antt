use Rattle.std.proofs.Common.{◌≡◌, ◌-◌, ◌^◌, ℕ}
use Rattle.code_model.specs.Binary.{power}
use Rattle.bch_solver.specs.Residues.{value_17, IsResidue}
use Rattle.bch_solver.proofs.far.lacks_roots.Given as goal

abbrev pub invariant-loop-i : goal.invariant-loop-i
invariant-loop-i g l = record {
  residue : IsResidue g.F.BinaryField.DEGREE l.locator.degree l.power;
  value : (x : ℕ) → value_17 g.F.BinaryField.DEGREE g.F.BinaryField.MODULUS l.locator.coefficients x ≡ 0
      → value_17 g.F.BinaryField.DEGREE g.F.BinaryField.MODULUS l.power x ≡ power g.F.BinaryField.DEGREE g.F.BinaryField.MODULUS x (2 ^ l.i - 1);
}
