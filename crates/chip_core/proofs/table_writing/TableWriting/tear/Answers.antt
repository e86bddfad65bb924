use Rattle.std.proofs.Common.{◌≡◌, ◌∙◌, Some, ap, sym}
use Rattle.std.specs.Prelude.{option_map}
use Rattle.chip_paths.specs.ChipRun.{name_of}
use Rattle.chip_paths.specs.Writing.{next_writing_event}
use Rattle.nand_model.specs.Chip.{EraseEvent, ProgramEvent}
use Rattle.nand_model.specs.declared.geometry.Geometry.{Geometry}
use Rattle.bbt_flash.specs.Events.{image_of}
use Rattle.bbt_flash.specs.Update.{update_writing}
use Rattle.chip_core.specs.Torn.{IsTorn}
use Rattle.chip_core.proofs.Named.{named-erase, named-program, of_some}
use Rattle.chip_core.proofs.table_writing.TableWriting.tear.Goals as goal

pub returns-in-Some-Program-clause-torn : goal.returns-in-Some-Program-clause-torn
returns-in-Some-Program-clause-torn g c =
    let h = c.args.judge.now.geometry in
    let was = update_writing c.args.self.now.update c.args.table.now in
    let at = c.in-Some-Program in
    let named = ap (λ (k : Geometry). option_map name_of (next_writing_event k was)) (sym c.requires.fits.sizes) ∙ sym (c.event.ensures.next c.args.table.now) ∙ at.is
    ∙ ap Some at.field-0-is in
    let is : next_writing_event h was ≡ Some (ProgramEvent at.page c.image.new.out) =
    named-program (next_writing_event h was) at.page named
    ∙ ap (λ image. Some (ProgramEvent at.page image))
    (sym (c.image.ensures ∙ ap (λ (k : Geometry). image_of (next_writing_event k was)) c.requires.fits.sizes)) in
    of_some (IsTorn g.F.Flash.fault_model c.args.tear.now (g.F.Flash.state c.args.flash.now) (g.F.Flash.state c.tear_program.new.flash)
    c.tear_program.result) (next_writing_event h was) (ProgramEvent at.page c.image.new.out) is c.tear_program.ensures.torn

pub returns-in-Some-Erase-clause-torn : goal.returns-in-Some-Erase-clause-torn
returns-in-Some-Erase-clause-torn g c =
    let h = c.args.judge.now.geometry in
    let was = update_writing c.args.self.now.update c.args.table.now in
    let at = c.in-Some-Erase in
    let named = ap (λ (k : Geometry). option_map name_of (next_writing_event k was)) (sym c.requires.fits.sizes) ∙ sym (c.event.ensures.next c.args.table.now) ∙ at.is
    ∙ ap Some at.field-0-is in
    of_some (IsTorn g.F.Flash.fault_model c.args.tear.now (g.F.Flash.state c.args.flash.now) (g.F.Flash.state c.tear_erase.new.flash)
    c.tear_erase.result) (next_writing_event h was) (EraseEvent at.block) (named-erase (next_writing_event h was) at.block named)
    c.tear_erase.ensures.torn
