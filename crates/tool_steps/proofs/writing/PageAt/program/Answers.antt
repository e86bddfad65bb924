use Rattle.std.proofs.Common.{◌*◌, ◌≤◌, arith}
use Rattle.nand_model.proofs.Bounds.{pages-le}
use Rattle.tool_steps.proofs.Scripts.{small_product}
use Rattle.tool_steps.proofs.writing.PageAt.program.Goals as goal

pub overflow_mul-page : goal.overflow_mul-page
overflow_mul-page c =
    let at = c.args.self.at in
    let small : c.args.self.at.block * c.args.g.now.pages_per_block ≤ 4194304
    = small_product c.args.self.at.block c.args.g.now.pages_per_block (omega (arith, at.in_device)) (pages-le c.args.g.now) in
    omega arith

pub overflow_add-page-2 : goal.overflow_add-page-2
overflow_add-page-2 c =
    let at = c.args.self.at in
    let small : c.args.self.at.block * c.args.g.now.pages_per_block ≤ 4194304
    = small_product c.args.self.at.block c.args.g.now.pages_per_block (omega (arith, at.in_device)) (pages-le c.args.g.now) in
    omega (arith, at.in_block, at.units, c.args.self.units_left)
