use Rattle.std.proofs.lemmas.Nat.{xor_comm, xor_lt}
use Rattle.binary_field.proofs.laws.sum_laws.Goals as goal

pub returns-clause-small : goal.returns-clause-small
returns-clause-small g c a b h k = xor_lt g.F.BinaryField.DEGREE a b h k

pub returns-clause-commutative : goal.returns-clause-commutative
returns-clause-commutative g c a b = xor_comm a b
