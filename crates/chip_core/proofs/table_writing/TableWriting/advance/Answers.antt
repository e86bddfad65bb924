use Rattle.std.proofs.Common.{◌∙◌, Some, refl, ap, sym, arith}
use Rattle.chip_paths.specs.Stage.{path_after}
use Rattle.chip_paths.specs.Writing.{next_writing_event, writing_after}
use Rattle.nand_model.specs.Chip.{EraseEvent}
use Rattle.nand_model.specs.declared.geometry.Geometry.{Geometry}
use Rattle.bbt_flash.specs.Events.{answer_of}
use Rattle.bbt_flash.specs.Update.{update_writing, writing_left}
use Rattle.chip_paths.specs.ChipRun.{name_of}
use Rattle.std.specs.Prelude.{option_map}
use Rattle.chip_core.proofs.Named.{named-erase, none-where}
use Rattle.chip_core.proofs.WritingTables.{writing-advanced, writing-event, writing-fits-on}
use Rattle.chip_core.proofs.table_writing.TableWriting.advance.Goals as goal

pub returns-in-Some-Erase-clause-advanced : goal.returns-in-Some-Erase-clause-advanced
returns-in-Some-Erase-clause-advanced g c =
    let h = c.args.judge.now.geometry in
    let was = update_writing c.args.self.now.update c.args.table.now in
    let at = c.in-Some-Erase in
    let named = ap (λ (k : Geometry). option_map name_of (next_writing_event k was)) (sym c.requires.fits.sizes) ∙ sym (c.event.ensures.next c.args.table.now) ∙ at.is
    ∙ ap Some at.field-0-is in
    writing-advanced g.F.Flash.fault_model (g.F.Flash.state c.args.flash.now) (g.F.Flash.state c.erase-told.new.flash) h c.requires.sizes was
    (update_writing c.did.new.self c.did.new.table) (EraseEvent at.block) c.erase-told.result c.is_none.result
    (named-erase (next_writing_event h was) at.block named) c.erase-told.ensures.done
    (none-where c.erase-told.result c.is_none.result c.is_none.ensures)
    (c.did.ensures.step ∙ ap (λ (k : Geometry). writing_after k was (answer_of c.is_none.result)) c.requires.fits.sizes)

pub returns-in-Some-Erase-clause-fits : goal.returns-in-Some-Erase-clause-fits
returns-in-Some-Erase-clause-fits g c =
    let h = c.args.judge.now.geometry in
    let old = c.args.self.now in
    let was = update_writing old.update c.args.table.now in
    let now = update_writing c.did.new.self c.did.new.table in
    let at = c.in-Some-Erase in
    let named = ap (λ (k : Geometry). option_map name_of (next_writing_event k was)) (sym c.requires.fits.sizes) ∙ sym (c.event.ensures.next c.args.table.now) ∙ at.is
    ∙ ap Some at.field-0-is in
    writing-fits-on h old _ c.args.table.now c.did.new.table (EraseEvent at.block) (answer_of c.is_none.result)
    (writing-event h was ∙ named-erase (next_writing_event h was) at.block named)
    (ap (λ (k : Geometry). writing_left k now) (sym c.requires.fits.sizes) ∙ c.did.ensures.path
    ∙ ap (λ (k : Geometry). path_after (answer_of c.is_none.result) (writing_left k was)) c.requires.fits.sizes)
    c.requires.fits c.did.ensures.sizes refl (omega arith)
