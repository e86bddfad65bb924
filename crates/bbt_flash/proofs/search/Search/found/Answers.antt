use Rattle.bbt_flash.proofs.Finding.{found-copy, found-within}
use Rattle.bbt_flash.proofs.search.Search.found.Goals as goal

pub returns-clause-copy : goal.returns-clause-copy
returns-clause-copy c = found-copy c.args.self.now.helds.items c.args.which c.place_of.result c.place_of.ensures
