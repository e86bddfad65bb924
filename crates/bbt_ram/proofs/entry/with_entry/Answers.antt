use Rattle.std.proofs.Common.{arith}
use Rattle.bbt_ram.proofs.Bytes.{with_entry_changes}
use Rattle.bbt_ram.proofs.entry.with_entry.Goals as goal

pub returns : goal.returns
returns c = with_entry_changes c.args.byte c.args.place c.args.state (omega arith) c.requires.place c.requires.state
