use Rattle.std.proofs.lemmas.Nat.{xor_lt}
use Rattle.gf13.proofs.elem.Elem.add.Goals as goal

pub invariant_of-result : goal.invariant_of-result
invariant_of-result c = xor_lt 13 c.self.inside.bits c.other.inside.bits c.self.invariant c.other.invariant
