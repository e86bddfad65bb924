use Rattle.std.proofs.Common.{arith}
use Rattle.nand_model.proofs.Bounds.{pages-some}
use Rattle.onfi_bus.proofs.phase.Phase.command.Goals as goal

pub nonzero_div-block : goal.nonzero_div-block
nonzero_div-block c = omega (arith, pages-some c.args.g.now)
