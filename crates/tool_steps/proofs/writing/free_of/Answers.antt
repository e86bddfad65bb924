use Rattle.std.proofs.Common.{arith}
use Rattle.tool_steps.proofs.Scripts.{parity_start-low}
use Rattle.tool_steps.proofs.writing.free_of.Goals as goal

pub overflow_sub-end : goal.overflow_sub-end
overflow_sub-end c = omega (arith, c.parity_start-parities.ensures, parity_start-low c.args.g.now)

pub overflow_sub-parities : goal.overflow_sub-parities
overflow_sub-parities c = omega (arith, c.parity_start-parities.ensures, parity_start-low c.args.g.now)
