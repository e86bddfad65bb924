use Rattle.std.proofs.Common.{◌*◌, ◌≤◌, arith}
use Rattle.nand_model.proofs.Bounds.{pages-le}
use Rattle.tool_steps.proofs.Scripts.{small_product}
use Rattle.tool_steps.proofs.testing.PageAt.page.Goals as goal

pub overflow_mul-result : goal.overflow_mul-result
overflow_mul-result c =
    let walk = c.args.self.now.at.walk in
    let small : c.args.self.now.at.walk.block * c.args.g.now.pages_per_block ≤ 4194304
    = small_product c.args.self.now.at.walk.block c.args.g.now.pages_per_block (omega (arith, walk.in_device)) (pages-le c.args.g.now) in
    omega arith

pub overflow_add-result : goal.overflow_add-result
overflow_add-result c =
    let walk = c.args.self.now.at.walk in
    let small : c.args.self.now.at.walk.block * c.args.g.now.pages_per_block ≤ 4194304
    = small_product c.args.self.now.at.walk.block c.args.g.now.pages_per_block (omega (arith, walk.in_device)) (pages-le c.args.g.now) in
    omega (arith, c.args.self.now.in_block)
