use Rattle.std.proofs.Common.{arith}
use Rattle.bbt_flash.proofs.Sizes.{first_page-small, first_page-there}
use Rattle.chip_core.proofs.quiet.block_is_quiet.Goals as goal

pub overflow_mul-page : goal.overflow_mul-page
overflow_mul-page g c = omega (arith, first_page-small c.args.g.now c.args.block c.requires.there)

pub has_no_flip_in-requires-clause-page : goal.has_no_flip_in-requires-clause-page
has_no_flip_in-requires-clause-page g c = rw c.requires.sizes (first_page-there c.args.g.now c.args.block c.requires.there)

pub table_page_is_quiet-requires-clause-page : goal.table_page_is_quiet-requires-clause-page
table_page_is_quiet-requires-clause-page g c = first_page-there c.args.g.now c.args.block c.requires.there
