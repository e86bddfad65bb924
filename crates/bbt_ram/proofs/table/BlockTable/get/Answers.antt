use Rattle.std.proofs.Common.{◌∙◌}
use Rattle.bbt_ram.proofs.Packing.{byte_of_block, got}
use Rattle.bbt_ram.proofs.table.BlockTable.get.Goals as goal

pub bounds-as_slice-block : goal.bounds-as_slice-block
bounds-as_slice-block c = byte_of_block c.self.inside.packed c.as_slice.result.now c.args.self.now c.args.block c.self.view_is c.as_slice.ensures c.requires

pub returns-clause-state : goal.returns-clause-state
returns-clause-state c =
    c.from.ensures
    ∙ got c.self.inside.packed c.as_slice.result.now c.args.self.now c.args.block c.entry.result c.self.view_is c.as_slice.ensures c.requires c.entry.ensures.state
