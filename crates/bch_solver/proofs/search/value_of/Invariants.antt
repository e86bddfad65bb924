use Rattle.std.proofs.Common.{◌^◌, ◌≡◌, ◌<◌, ◌+◌, ◌-◌, get_or}
use Rattle.code_model.specs.Binary.{times}
use Rattle.code_model.specs.Poly.{value}
use Rattle.bch_solver.specs.Rows.{listed}
use Rattle.bch_solver.proofs.search.value_of.Given as goal

abbrev pub invariant-loop-i : goal.invariant-loop-i
invariant-loop-i g l = record {
  value : l.sum ≡ value (times g.F.BinaryField.DEGREE g.F.BinaryField.MODULUS) (listed (λ j. get_or l.locator.coefficients (j + (l.locator.degree + 1 - l.i)) 0) l.i) l.x;
  small : l.sum < 2 ^ g.F.BinaryField.DEGREE;
}
