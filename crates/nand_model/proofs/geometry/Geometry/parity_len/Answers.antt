use Rattle.std.proofs.Common.{arith}
use Rattle.nand_model.proofs.Bounds.{bounds}
use Rattle.nand_model.proofs.geometry.Geometry.parity_len.Goals as goal

pub overflow_mul-result : goal.overflow_mul-result
overflow_mul-result c = let b = bounds c.args.self.now in omega (arith, b.t_high)

pub overflow_add-result : goal.overflow_add-result
overflow_add-result c = let b = bounds c.args.self.now in omega (arith, b.t_high)
