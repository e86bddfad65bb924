use Rattle.std.proofs.Common.{arith}
use Rattle.tool_steps.proofs.Sizes.{block_of_offset-lt}
use Rattle.tool_steps.proofs.bound.write_cost.Goals as goal

pub overflow_sub-result : goal.overflow_sub-result
overflow_sub-result c =
    rw (c.block_len.ensures, c.from.ensures) (omega (arith, block_of_offset-lt c.args.g.now c.args.blocks c.args.off c.requires.first))
