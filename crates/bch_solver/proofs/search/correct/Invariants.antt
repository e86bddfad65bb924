use Rattle.std.proofs.Common.{◌^◌, ◌≡◌, ◌<◌, ◌≤◌}
use Rattle.code_model.specs.Binary.{times, power}
use Rattle.code_model.specs.Poly.{value}
use Rattle.bch_solver.specs.Rows.{polynomial_of}
use Rattle.bch_solver.proofs.SearchLemmas.{Done}
use Rattle.bch_solver.proofs.search.correct.Given as goal

abbrev pub invariant-loop-k : goal.invariant-loop-k
invariant-loop-k g l = record {
  power_is : l.power ≡ power g.F.BinaryField.DEGREE g.F.BinaryField.MODULUS 2 l.k;
  power_small : l.power < 2 ^ g.F.BinaryField.DEGREE;
  few : l.flips ≤ l.k;
  bits : Done (λ d. value (times g.F.BinaryField.DEGREE g.F.BinaryField.MODULUS) (polynomial_of l.locator.coefficients l.locator.degree) (power g.F.BinaryField.DEGREE g.F.BinaryField.MODULUS 2 d)) l.count l.k l.flips l.initial.bytes l.bytes;
}
