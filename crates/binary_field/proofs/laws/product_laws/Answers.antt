use Rattle.code_model.proofs.BinaryLemmas.{times-lt, times_comm, times_assoc, times-one, times-xor_right}
use Rattle.binary_field.proofs.laws.product_laws.Goals as goal

pub returns-clause-small : goal.returns-clause-small
returns-clause-small g c a b = let p = g.F.BinaryField.primitive in times-lt g.F.BinaryField.DEGREE g.F.BinaryField.MODULUS a b p.low p.high

pub returns-clause-associative : goal.returns-clause-associative
returns-clause-associative g c a b d =
    let p = g.F.BinaryField.primitive in times_assoc g.F.BinaryField.DEGREE g.F.BinaryField.MODULUS a b d p.low p.high

pub returns-clause-commutative : goal.returns-clause-commutative
returns-clause-commutative g c a b = times_comm g.F.BinaryField.DEGREE g.F.BinaryField.MODULUS a b

pub returns-clause-one : goal.returns-clause-one
returns-clause-one g c a h = times-one g.F.BinaryField.DEGREE g.F.BinaryField.MODULUS a h

pub returns-clause-distributes : goal.returns-clause-distributes
returns-clause-distributes g c a b d =
    let p = g.F.BinaryField.primitive in times-xor_right g.F.BinaryField.DEGREE g.F.BinaryField.MODULUS a b d p.low p.high
