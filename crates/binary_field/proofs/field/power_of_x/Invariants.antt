use Rattle.std.proofs.Common.{◌≡◌, ◌/◌, ◌-◌, ◌^◌, ◌<◌}
use Rattle.code_model.specs.Binary.{power}
use Rattle.binary_field.proofs.field.power_of_x.Given as goal

abbrev pub invariant-loop-i : goal.invariant-loop-i
invariant-loop-i g l = record {
  value : l.power ≡ power g.F.BinaryField.DEGREE g.F.BinaryField.MODULUS 2 (l.n / 2 ^ (32 - l.i));
  small : l.power < 2 ^ g.F.BinaryField.DEGREE;
}
