use Rattle.nand_model.specs.Partitions.{part_of}
use Rattle.nand_model.proofs.Bounds.{pages-le}
use Rattle.chip_core.proofs.Ranges.{page_place, page_there}
use Rattle.chip_core.proofs.beginning.page_of.Goals as goal

pub page-requires-clause-pages : goal.page-requires-clause-pages
page-requires-clause-pages c = pages-le c.args.g.now

pub returns-clause-place : goal.returns-clause-place
returns-clause-place c = page_place c.args.g.now (part_of c.args.parts.now c.args.dev) c.args.page c.page.result c.requires.there c.page.ensures

pub returns-clause-there : goal.returns-clause-there
returns-clause-there c =
    page_there c.args.g.now (part_of c.args.parts.now c.args.dev) c.args.page c.page.result c.requires.there c.requires.within c.page.ensures
