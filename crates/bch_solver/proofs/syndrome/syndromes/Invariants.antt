use Rattle.std.proofs.Common.{◌^◌, ◌≡◌, ◌<◌, ℕ, suc, length, get_or}
use Rattle.code_model.specs.Binary.{power, value_at}
use Rattle.bch_solver.proofs.syndrome.syndromes.Given as goal

abbrev pub invariant-loop-j : goal.invariant-loop-j
invariant-loop-j g l = record {
  long : length l.all ≡ 32;
  power_is : l.power ≡ power g.F.BinaryField.DEGREE g.F.BinaryField.MODULUS 2 (suc l.j);
  power_small : l.power < 2 ^ g.F.BinaryField.DEGREE;
  small : (i : ℕ) → get_or l.all i 0 < 2 ^ g.F.BinaryField.DEGREE;
  values : (i : ℕ) → i < l.j → get_or l.all i 0 ≡ value_at g.F.BinaryField.DEGREE g.F.BinaryField.MODULUS (power g.F.BinaryField.DEGREE g.F.BinaryField.MODULUS 2 (suc i)) l.polynomial;
}
