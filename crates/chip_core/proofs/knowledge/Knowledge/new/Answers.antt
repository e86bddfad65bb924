use Rattle.std.proofs.Common.{arith}
use Rattle.nand_model.proofs.Bounds.{bounds}
use Rattle.chip_core.proofs.knowledge.Knowledge.new.Goals as goal

pub new-requires-clause-whole : goal.new-requires-clause-whole
new-requires-clause-whole c = (bounds c.args.geometry).blocks_even

pub new-requires-clause-few : goal.new-requires-clause-few
new-requires-clause-few c = (bounds c.args.geometry).blocks_high

pub invariant_of-result-clause-primary_there : goal.invariant_of-result-clause-primary_there
invariant_of-result-clause-primary_there c = let low = (bounds c.args.geometry).blocks_low in omega arith

pub invariant_of-result-clause-mirror_there : goal.invariant_of-result-clause-mirror_there
invariant_of-result-clause-mirror_there c = let low = (bounds c.args.geometry).blocks_low in omega arith
