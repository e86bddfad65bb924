use Rattle.std.proofs.Common.{arith}
use Rattle.tool_steps.proofs.Sizes.{block_of_offset-lt, blocks_in_device}
use Rattle.tool_steps.proofs.ranges.blocks_in_range.Goals as goal

pub overflow_sub-result : goal.overflow_sub-result
overflow_sub-result c =
    rw c.block_len-block.ensures (omega (arith, block_of_offset-lt c.args.g.now c.args.blocks c.args.off c.requires.first))

pub returns-then-count-eq0-clause-some : goal.returns-then-count-eq0-clause-some
returns-then-count-eq0-clause-some c =
    rw c.block_len-block.ensures (omega (arith, block_of_offset-lt c.args.g.now c.args.blocks c.args.off c.requires.first))

pub returns-else-count-eq0-clause-few : goal.returns-else-count-eq0-clause-few
returns-else-count-eq0-clause-few c =
    rw c.block_len-block.ensures (omega (arith, blocks_in_device c.args.g.now c.args.blocks c.args.off c.args.len c.requires.last))
