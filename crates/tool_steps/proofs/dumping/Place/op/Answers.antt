use Rattle.std.proofs.Common.{◌*◌, ◌≤◌, arith}
use Rattle.std.proofs.Math.Nat.{mul-le-mul_left}
use Rattle.nand_model.proofs.Bounds.{pages-le}
use Rattle.tool_steps.proofs.dumping.Place.op.Goals as goal

pub overflow_mul-page : goal.overflow_mul-page
overflow_mul-page c =
    let at = c.in-Reading.at in
    let small : c.in-Reading.at.block * c.args.g.now.pages_per_block ≤ c.in-Reading.at.block * 128 = mul-le-mul_left c.in-Reading.at.block (pages-le c.args.g.now) in
    omega (arith, at.in_device)

pub overflow_add-page : goal.overflow_add-page
overflow_add-page c =
    let at = c.in-Reading.at in
    let small : c.in-Reading.at.block * c.args.g.now.pages_per_block ≤ c.in-Reading.at.block * 128 = mul-le-mul_left c.in-Reading.at.block (pages-le c.args.g.now) in
    omega (arith, at.in_device, at.in_block)
