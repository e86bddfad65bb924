use Rattle.std.proofs.Common.{arith}
use Rattle.bbt_ram.proofs.Packing.{byte_there, byte_is, byte_entries}
use Rattle.bbt_ram.proofs.table.BlockTable.byte.Goals as goal

pub bounds-as_slice-n : goal.bounds-as_slice-n
bounds-as_slice-n c = byte_there c.self.inside.packed c.as_slice.result.now c.args.self.now c.args.n c.self.view_is c.as_slice.ensures c.requires

pub returns-clause-packed : goal.returns-clause-packed
returns-clause-packed c =
    byte_is c.self.inside.packed c.as_slice.result.now c.args.self.now c.args.n c.self.view_is c.as_slice.ensures c.requires (omega arith)

pub returns-clause-entries : goal.returns-clause-entries
returns-clause-entries c =
    byte_entries c.self.inside.packed c.as_slice.result.now c.args.self.now c.args.n c.self.view_is c.as_slice.ensures c.requires
