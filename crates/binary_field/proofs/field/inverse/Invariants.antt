use Rattle.std.proofs.Common.{◌≡◌, ◌-◌, ◌^◌, ◌<◌}
use Rattle.code_model.specs.Binary.{power}
use Rattle.binary_field.proofs.field.inverse.Given as goal

abbrev pub invariant-loop-i : goal.invariant-loop-i
invariant-loop-i g l = record {
  square : l.square ≡ power g.F.BinaryField.DEGREE g.F.BinaryField.MODULUS l.a (2 ^ (l.i - 1));
  all : l.all ≡ power g.F.BinaryField.DEGREE g.F.BinaryField.MODULUS l.a (2 ^ l.i - 2);
  square_small : l.square < 2 ^ g.F.BinaryField.DEGREE;
  all_small : l.all < 2 ^ g.F.BinaryField.DEGREE;
}
