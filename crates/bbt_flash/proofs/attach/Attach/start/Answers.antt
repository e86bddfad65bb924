use Rattle.nand_model.proofs.Bounds.{bounds}
use Rattle.bbt_flash.proofs.attach.Attach.start.Goals as goal

pub new-requires-clause-whole : goal.new-requires-clause-whole
new-requires-clause-whole c = (bounds c.args.g).blocks_even

pub new-requires-clause-few : goal.new-requires-clause-few
new-requires-clause-few c = (bounds c.args.g).blocks_high
