use Rattle.nand_model.proofs.Bounds.{bounds}
use Rattle.chip_core.proofs.judge.Judge.new.Goals as goal

pub new-requires-clause-whole : goal.new-requires-clause-whole
new-requires-clause-whole c = (bounds c.args.g).blocks_even

pub new-requires-clause-few : goal.new-requires-clause-few
new-requires-clause-few c = (bounds c.args.g).blocks_high

pub new-requires-2-clause-whole : goal.new-requires-2-clause-whole
new-requires-2-clause-whole c = (bounds c.args.g).blocks_even

pub new-requires-2-clause-few : goal.new-requires-2-clause-few
new-requires-2-clause-few c = (bounds c.args.g).blocks_high
