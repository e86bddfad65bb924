use Rattle.bbt_ram.proofs.Packing.{byte_there, changed_byte}
use Rattle.bbt_ram.proofs.table.BlockTable.set_byte.Goals as goal

pub bounds-as_mut_slice-n : goal.bounds-as_mut_slice-n
bounds-as_mut_slice-n c = byte_there c.self.inside.packed c.as_mut_slice.result.now c.args.self.now c.args.n c.self.view_is c.as_mut_slice.ensures.value c.requires

pub returns : goal.returns
returns c = changed_byte c.self.inside.packed c.as_mut_slice.result.now c.args.self.now c.args.n c.args.byte c.self.view_is c.as_mut_slice.ensures.value c.requires
