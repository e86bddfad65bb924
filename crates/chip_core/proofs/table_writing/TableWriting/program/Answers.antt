use Rattle.std.proofs.Common.{◌≡◌, ◌-◌, ◌∙◌, ℕ, List, length, Some, ap, sym, arith}
use Rattle.chip_paths.specs.Stage.{path_after}
use Rattle.chip_paths.specs.Writing.{next_writing_event, writing_after}
use Rattle.nand_model.specs.Chip.{PageEvent, ProgramEvent}
use Rattle.nand_model.specs.Path.{first_event}
use Rattle.nand_model.specs.declared.geometry.Geometry.{Geometry}
use Rattle.bbt_flash.specs.Events.{answer_of, image_of}
use Rattle.bbt_flash.specs.Update.{update_writing, writing_left}
use Rattle.chip_core.proofs.Imaging.{refilled}
use Rattle.chip_core.proofs.Named.{named-program, none-where}
use Rattle.chip_core.proofs.WritingTables.{writing-advanced, writing-event, writing-fits-on, writing-has-room}
use Rattle.chip_core.proofs.table_writing.TableWriting.program.Goals as goal

pub program-told-requires-clause-room : goal.program-told-requires-clause-room
program-told-requires-clause-room g c =
    let h = c.args.judge.now.geometry in
    let was = update_writing c.args.self.now.update c.args.table.now in
    let room = writing-has-room h c.args.table.now c.args.self.now _ _ c.requires.fits
    (writing-event h was ∙ named-program (next_writing_event h was) c.args.page c.requires.event) c.requires.room in
    room.0

pub overflow_sub-self : goal.overflow_sub-self
overflow_sub-self g c =
    let h = c.args.judge.now.geometry in
    let was = update_writing c.args.self.now.update c.args.table.now in
    let room = writing-has-room h c.args.table.now c.args.self.now _ _ c.requires.fits
    (writing-event h was ∙ named-program (next_writing_event h was) c.args.page c.requires.event) c.requires.room in
    room.1

pub returns-clause-advanced : goal.returns-clause-advanced
returns-clause-advanced g c =
    let h = c.args.judge.now.geometry in
    let u = c.args.self.now.update in
    let was = update_writing u c.args.table.now in
    let e : PageEvent = ProgramEvent c.args.page c.image.new.out in
    let is : next_writing_event h was ≡ Some e =
    named-program (next_writing_event h was) c.args.page c.requires.event
    ∙ ap (λ image. Some (ProgramEvent c.args.page image))
    (sym (c.image.ensures ∙ ap (λ (k : Geometry). image_of (next_writing_event k was)) c.requires.fits.sizes)) in
    writing-advanced g.F.Flash.fault_model (g.F.Flash.state c.args.flash.now) (g.F.Flash.state c.program-told.new.flash) h c.requires.sizes was
    (update_writing c.did.new.self c.did.new.table) e c.program-told.result c.is_none.result is c.program-told.ensures.done
    (none-where c.program-told.result c.is_none.result c.is_none.ensures)
    (c.did.ensures.step ∙ ap (λ (k : Geometry). writing_after k was (answer_of c.is_none.result)) c.requires.fits.sizes)

pub returns-clause-fits : goal.returns-clause-fits
returns-clause-fits g c =
    let Long : List ℕ → ℕ = λ xs. length xs in
    let h = c.args.judge.now.geometry in
    let old = c.args.self.now in
    let was = update_writing old.update c.args.table.now in
    let now = update_writing c.did.new.self c.did.new.table in
    let kept : length c.image.new.out ≡ length old.image = c.image.auto.out ∙ ap Long c.as_mut_slice-image.ensures.value in
    let e : PageEvent = ProgramEvent c.args.page (image_of (next_writing_event h was)) in
    let is : first_event (writing_left h was) ≡ Some e = writing-event h was ∙ named-program (next_writing_event h was) c.args.page c.requires.event in
    let room = writing-has-room h c.args.table.now old e _ c.requires.fits is c.requires.room in
    writing-fits-on h old _ c.args.table.now c.did.new.table e (answer_of c.is_none.result) is
    (ap (λ (k : Geometry). writing_left k now) (sym c.requires.fits.sizes) ∙ c.did.ensures.path
    ∙ ap (λ (k : Geometry). path_after (answer_of c.is_none.result) (writing_left k was)) c.requires.fits.sizes)
    c.requires.fits c.did.ensures.sizes (ap Long (refilled old.image c.image.new.out kept) ∙ kept) (omega (arith, room.1))

pub returns-clause-room : goal.returns-clause-room
returns-clause-room g c =
    let h = c.args.judge.now.geometry in
    let was = update_writing c.args.self.now.update c.args.table.now in
    let room = writing-has-room h c.args.table.now c.args.self.now _ _ c.requires.fits
    (writing-event h was ∙ named-program (next_writing_event h was) c.args.page c.requires.event) c.requires.room in
    omega (arith, room.1, c.program-told.ensures.room)
