use Rattle.std.proofs.Common.{◌*◌, ◌≤◌, arith}
use Rattle.std.proofs.Math.Nat.{mul-le-mul_left}
use Rattle.tool_steps.proofs.bound.tests_of.Goals as goal

pub overflow_mul-result : goal.overflow_mul-result
overflow_mul-result c =
    let small : c.args.passes * c.args.blocks ≤ c.args.passes * 32768 = mul-le-mul_left c.args.passes c.requires in
    rw (c.from.ensures, c.from-2.ensures) (omega (arith, small, c.ranges.passes.fits))

pub returns-clause-few : goal.returns-clause-few
returns-clause-few c =
    let small : c.args.passes * c.args.blocks ≤ c.args.passes * 32768 = mul-le-mul_left c.args.passes c.requires in
    rw (c.from.ensures, c.from-2.ensures) (omega (arith, small, c.ranges.passes.fits))
