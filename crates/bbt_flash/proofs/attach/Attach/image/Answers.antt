use Rattle.std.proofs.Common.{◌≡◌, ◌∙◌, ap, sym, subst}
use Rattle.nand_model.specs.Path.{first_event}
use Rattle.chip_paths.specs.Writing.{next_writing_event}
use Rattle.bbt_flash.specs.Events.{image_of}
use Rattle.bbt_flash.specs.Step.{StepFits, step_left}
use Rattle.bbt_flash.specs.Update.{update_sizes, update_writing}
use Rattle.nand_model.specs.declared.geometry.Geometry.{Geometry}
use Rattle.bbt_flash.proofs.Attaching.{reads-no-program, scans-no-program, writing-event}
use Rattle.bbt_flash.proofs.attach.Attach.image.Goals as goal

pub unreachable-requires : goal.unreachable-requires
unreachable-requires g c = let a = c.args.self.now in reads-no-program a.geometry a.table a.step a.fits _ c.in-Searching.is c.requires.program

pub unreachable-requires-in-Scanning : goal.unreachable-requires-in-Scanning
unreachable-requires-in-Scanning g c = let a = c.args.self.now in scans-no-program a.geometry a.table a.step a.fits _ c.in-Scanning.is c.requires.program

pub returns : goal.returns
returns g c =
    let a = c.args.self.now in
    let rewriting = c.in-Writing.rewriting in
    let sizes : update_sizes rewriting.update ≡ a.geometry = subst (StepFits a.geometry) c.in-Writing.is a.fits in
    c.image.ensures
    ∙ ap image_of (ap (λ (h : Geometry). next_writing_event h (update_writing rewriting.update a.table)) sizes ∙ sym (writing-event a.geometry a.table rewriting))
    ∙ sym (ap (λ s. image_of (first_event (step_left a.geometry a.table s))) c.in-Writing.is)
