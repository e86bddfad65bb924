use Rattle.bbt_flash.specs.Held.{copy_at}
use Rattle.bbt_flash.proofs.Firsts.{first_free-there, first_other-there}
use Rattle.bbt_flash.proofs.search.Search.place_beside.Goals as goal

pub returns-in-Some-first_free-clause-there : goal.returns-in-Some-first_free-clause-there
returns-in-Some-first_free-clause-there c =
    let s = c.args.self.now in
    first_free-there s.geometry (copy_at s.helds.items c.args.primary) (copy_at s.helds.items c.args.mirror) c.args.other s.candidates.items
    c.in-Some-first_free.block c.in-Some-first_free.ensures s.candidates_there

pub returns-in-None-first_free-clause-there : goal.returns-in-None-first_free-clause-there
returns-in-None-first_free-clause-there c = first_other-there c.args.self.now.geometry c.args.other c.any_other.result c.any_other.ensures
