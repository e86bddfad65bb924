use Rattle.std.proofs.Common.{arith}
use Rattle.bbt_flash.proofs.Sizes.{first_page-small, first_page-there}
use Rattle.bbt_flash.proofs.attach.Attach.read_of.Goals as goal

pub overflow_mul-result : goal.overflow_mul-result
overflow_mul-result c = omega (arith, first_page-small c.args.self.now.geometry c.args.block c.requires)

pub returns-clause-there : goal.returns-clause-there
returns-clause-there c = first_page-there c.args.self.now.geometry c.args.block c.requires
