use Rattle.std.proofs.Common.{◌≡◌, ◌∙◌, ap, sym}
use Rattle.chip_paths.specs.Writing.{event_for}
use Rattle.bbt_flash.specs.Copies.{copies_in}
use Rattle.bbt_flash.specs.Events.{image_of}
use Rattle.bbt_flash.specs.Update.{update_writing}
use Rattle.bbt_flash.proofs.Updating.{program-erased, program-left}
use Rattle.bbt_flash.proofs.update.Update.image.Goals as goal

pub unreachable-requires : goal.unreachable-requires
unreachable-requires g c =
    let u = c.args.self.now in
    program-left u.geometry (update_writing u c.args.table.now) (ap copies_in c.in-Nothing.is) c.requires.program

pub put_copy-requires-clause-erased : goal.put_copy-requires-clause-erased
put_copy-requires-clause-erased g c =
    let u = c.args.self.now in
    program-erased u.geometry (update_writing u c.args.table.now) _ _ (ap copies_in c.in-Last.is) c.requires.program

pub put_copy-requires-in-Both-clause-erased : goal.put_copy-requires-in-Both-clause-erased
put_copy-requires-in-Both-clause-erased g c =
    let u = c.args.self.now in
    program-erased u.geometry (update_writing u c.args.table.now) _ _ (ap copies_in c.in-Both.is) c.requires.program

pub returns-in-Last : goal.returns-in-Last
returns-in-Last g c =
    let u = c.args.self.now in
    c.put_copy.ensures ∙ sym (ap (λ left. image_of (event_for u.geometry (update_writing u c.args.table.now) (copies_in left))) c.in-Last.is)

pub returns-in-Both : goal.returns-in-Both
returns-in-Both g c =
    let u = c.args.self.now in
    c.put_copy-in-Both.ensures ∙ sym (ap (λ left. image_of (event_for u.geometry (update_writing u c.args.table.now) (copies_in left))) c.in-Both.is)
