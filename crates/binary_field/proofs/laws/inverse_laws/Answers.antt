use Rattle.code_model.proofs.FieldLemmas.{inverse}
use Rattle.code_model.proofs.InverseLemmas.{inverse_unique}
use Rattle.binary_field.proofs.laws.inverse_laws.Goals as goal

pub returns-clause-exists : goal.returns-clause-exists
returns-clause-exists g c a not_zero small = inverse g.F.BinaryField.DEGREE g.F.BinaryField.MODULUS g.F.BinaryField.primitive a not_zero small

pub returns-clause-unique : goal.returns-clause-unique
returns-clause-unique g c a b d h k e e' = inverse_unique g.F.BinaryField.DEGREE g.F.BinaryField.MODULUS g.F.BinaryField.primitive a b d h k e e'
