use Rattle.bbt_ram.proofs.Bytes.{entry_is}
use Rattle.bbt_ram.proofs.entry.entry.Goals as goal

pub returns-clause-state : goal.returns-clause-state
returns-clause-state c = entry_is c.args.byte c.args.place c.requires
