use Rattle.std.proofs.Common.{◌*◌, ◌≤◌, arith}
use Rattle.std.proofs.Math.Nat.{mul-le-mul_left}
use Rattle.tool_steps.proofs.bound.tests_cost.Goals as goal

pub overflow_mul-result : goal.overflow_mul-result
overflow_mul-result c =
    let small : c.args.tests * c.args.each ≤ c.args.tests * 259 = mul-le-mul_left c.args.tests c.requires.each in
    omega (arith, small, c.requires.tests)

pub returns-clause-small : goal.returns-clause-small
returns-clause-small c =
    let small : c.args.tests * c.args.each ≤ c.args.tests * 259 = mul-le-mul_left c.args.tests c.requires.each in
    omega (arith, small, c.requires.tests)
