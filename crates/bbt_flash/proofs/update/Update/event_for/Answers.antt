use Rattle.std.proofs.Common.{◌≡◌, ◌∙◌, ap, sym, arith}
use Rattle.chip_paths.specs.ChipRun.{name_of}
use Rattle.chip_paths.specs.Writing.{event_once}
use Rattle.bbt_flash.specs.Update.{update_writing}
use Rattle.bbt_flash.proofs.Sizes.{first_page-small, first_page-there}
use Rattle.bbt_flash.proofs.update.Update.event_for.Goals as goal

pub overflow_mul-result : goal.overflow_mul-result
overflow_mul-result c = omega (arith, first_page-small c.args.self.now.geometry c.place-block.result c.place-block.ensures.there)

pub returns-then-self-clause-there : goal.returns-then-self-clause-there
returns-then-self-clause-there c = first_page-there c.args.self.now.geometry c.place-block.result c.place-block.ensures.there
