use Rattle.bbt_ram.proofs.Packing.{byte_of_block, changed_state}
use Rattle.bbt_ram.proofs.table.BlockTable.set.Goals as goal

pub bounds-as_mut_slice-block : goal.bounds-as_mut_slice-block
bounds-as_mut_slice-block c =
    byte_of_block c.self.inside.packed c.as_mut_slice.result.now c.args.self.now c.args.block c.self.view_is c.as_mut_slice.ensures.value c.requires.block

pub returns : goal.returns
returns c =
    changed_state c.self.inside.packed c.as_mut_slice.result.now c.args.self.now c.args.block c.with_entry.result c.args.state c.self.view_is
    c.as_mut_slice.ensures.value c.requires.block c.with_entry.ensures
