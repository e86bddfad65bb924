use Rattle.std.proofs.Common.{◌∙◌, None, ap}
use Rattle.chip_paths.specs.Writing.{marked, next_place, place_of}
use Rattle.bbt_flash.specs.Copies.{places_in, whole_in}
use Rattle.bbt_flash.specs.Update.{update_writing}
use Rattle.bbt_flash.proofs.Firsts.{next_place-there}
use Rattle.bbt_flash.proofs.Updating.{retired}
use Rattle.bbt_flash.proofs.update.Update.retire.Goals as goal

pub move_to-requires : goal.move_to-requires
move_to-requires c = next_place-there c.args.self.now.geometry c.mark.new.self c.place-2.result c.in-Some.block c.in-Some.ensures

pub returns-in-None-clause-step : goal.returns-in-None-clause-step
returns-in-None-clause-step c =
    let u = c.args.self.now in
    retired u.geometry (update_writing u c.args.table.now) c.args.which c.mark.new.self (whole_in c.set.new.self) None
    (update_writing c.give_up.new.self c.mark.new.self)
    (c.mark.ensures ∙ ap (marked c.args.table.now) c.place.ensures.place) c.set.ensures
    (c.in-None.ensures ∙ ap (next_place u.geometry c.mark.new.self) (c.place-2.ensures.place ∙ ap (place_of (places_in u.places)) c.other_of.ensures))
    (c.give_up.ensures.step c.mark.new.self u.chances)
