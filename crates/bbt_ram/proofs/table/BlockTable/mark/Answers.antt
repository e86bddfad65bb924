use Rattle.std.proofs.lemmas.Nat.{or_lt}
use Rattle.bbt_ram.proofs.table.BlockTable.mark.Goals as goal

pub set-requires-clause-state : goal.set-requires-clause-state
set-requires-clause-state c = or_lt 2 c.get.result c.args.bits c.get.ensures.small c.requires.bits
