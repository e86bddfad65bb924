use Rattle.std.proofs.Common.{ap, length}
use Rattle.bbt_ram.proofs.Packing.{cleared}
use Rattle.bbt_ram.proofs.table.BlockTable.clear.Goals as goal

pub returns : goal.returns
returns c =
    cleared c.self.inside.packed c.args.self.now c.fill.new.self (length c.as_mut_slice.result.now) c.self.view_is (ap length c.as_mut_slice.ensures.value)
    (c.fill.ensures.after (λ y e. e))
