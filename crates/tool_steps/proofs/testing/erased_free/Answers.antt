use Rattle.std.proofs.Common.{arith}
use Rattle.tool_steps.proofs.Scripts.{parity_start-low}
use Rattle.tool_steps.proofs.testing.erased_free.Goals as goal

pub overflow_sub-parity_start : goal.overflow_sub-parity_start
overflow_sub-parity_start c = omega (arith, c.parity_start.ensures, parity_start-low c.args.g.now)
