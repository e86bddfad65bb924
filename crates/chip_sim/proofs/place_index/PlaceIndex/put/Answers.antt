use Rattle.chip_sim.proofs.Placed.{block_put, page_put}
use Rattle.chip_sim.proofs.place_index.PlaceIndex.put.Goals as goal

pub returns-in-Program : goal.returns-in-Program
returns-in-Program c =
    page_put c.put_place.result c.args.weak.now c.args.place c.args.self.now c.put_place.new.places c.in-Program.is c.put_place.ensures

pub returns-in-Erase : goal.returns-in-Erase
returns-in-Erase c =
    block_put c.put_place-in-Erase.result c.args.weak.now c.args.place c.args.self.now c.put_place-in-Erase.new.places c.in-Erase.is
    c.put_place-in-Erase.ensures
