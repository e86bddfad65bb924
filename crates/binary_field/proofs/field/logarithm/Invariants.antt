use Rattle.std.proofs.Common.{◌≡◌, ◌≢◌, ◌^◌, ◌<◌, ℕ}
use Rattle.code_model.specs.Binary.{power}
use Rattle.binary_field.proofs.field.logarithm.Given as goal

abbrev pub invariant-loop-n : goal.invariant-loop-n
invariant-loop-n g l = record {
  value : l.power ≡ power g.F.BinaryField.DEGREE g.F.BinaryField.MODULUS 2 l.n;
  small : l.power < 2 ^ g.F.BinaryField.DEGREE;
  none_before : (k : ℕ) → k < l.n → power g.F.BinaryField.DEGREE g.F.BinaryField.MODULUS 2 k ≢ l.a;
}
