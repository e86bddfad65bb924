use Rattle.bbt_flash.specs.Copies.{places_in}
use Rattle.bbt_flash.specs.Update.{update_writing}
use Rattle.bbt_flash.proofs.Attaching.{writes-again}
use Rattle.bbt_flash.proofs.attach.Attach.write_again.Goals as goal

pub returns-clause-left : goal.returns-clause-left
returns-clause-left c =
    let a = c.args.self.now in
    let table = c.reserve_last.new.table in
    writes-again a.geometry a.table table (places_in c.args.places) c.args.choice c.args.version (update_writing c.rewriting.result table)
    c.origin_of.result c.reserve_last.ensures.states c.origin_of.ensures (c.rewriting.ensures.writing table)
