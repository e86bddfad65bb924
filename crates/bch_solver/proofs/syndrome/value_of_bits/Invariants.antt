use Rattle.std.proofs.Common.{◌^◌, ◌≡◌, ◌<◌, ◌/◌, ◌-◌}
use Rattle.code_model.specs.Binary.{value_at}
use Rattle.bch_solver.proofs.syndrome.value_of_bits.Given as goal

abbrev pub invariant-loop-k : goal.invariant-loop-k
invariant-loop-k g l = record {
  value : l.sum ≡ value_at g.F.BinaryField.DEGREE g.F.BinaryField.MODULUS l.x (l.polynomial / 2 ^ (l.degree - l.k));
  small : l.sum < 2 ^ g.F.BinaryField.DEGREE;
}
