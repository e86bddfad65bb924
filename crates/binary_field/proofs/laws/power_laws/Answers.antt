use Rattle.code_model.proofs.FieldLemmas.{logarithm}
use Rattle.code_model.proofs.PowerLemmas.{same_exponent}
use Rattle.binary_field.proofs.laws.power_laws.Goals as goal

pub returns-clause-differ : goal.returns-clause-differ
returns-clause-differ g c i j h k e = same_exponent g.F.BinaryField.DEGREE g.F.BinaryField.MODULUS g.F.BinaryField.primitive i j h k e

pub returns-clause-all : goal.returns-clause-all
returns-clause-all g c a not_zero small = logarithm g.F.BinaryField.DEGREE g.F.BinaryField.MODULUS g.F.BinaryField.primitive a not_zero small
