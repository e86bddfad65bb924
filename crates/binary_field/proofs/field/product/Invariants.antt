use Rattle.std.proofs.Common.{◌≡◌, ◌/◌, ◌-◌, ◌^◌, ◌<◌}
use Rattle.code_model.specs.Binary.{times}
use Rattle.binary_field.proofs.field.product.Given as goal

abbrev pub invariant-loop-i : goal.invariant-loop-i
invariant-loop-i g l = record {
  value : l.sum ≡ times g.F.BinaryField.DEGREE g.F.BinaryField.MODULUS (l.a / 2 ^ (g.F.BinaryField.DEGREE - l.i)) l.b;
  small : l.sum < 2 ^ g.F.BinaryField.DEGREE;
}
