use Rattle.std.proofs.Common.{arith}
use Rattle.bbt_flash.proofs.Sizes.{first_page-small, first_page-there}
use Rattle.chip_core.proofs.judge.Judge.erase_left.Goals as goal

pub overflow_mul-block : goal.overflow_mul-block
overflow_mul-block g c = omega (arith, first_page-small c.args.self.now.geometry c.args.block c.requires.place)

pub judge-requires-clause-page : goal.judge-requires-clause-page
judge-requires-clause-page g c = first_page-there c.args.self.now.geometry c.args.block c.requires.place
