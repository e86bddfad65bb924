use Rattle.std.proofs.Common.{◌≡◌, ◌∙◌, Some, option_map, ap, sym, subst}
use Rattle.nand_model.specs.Chip.{ReadEvent}
use Rattle.nand_model.specs.Path.{first_event}
use Rattle.nand_model.specs.Sizes.{first_page}
use Rattle.chip_paths.specs.ChipRun.{name_of}
use Rattle.chip_paths.specs.Writing.{next_writing_event}
use Rattle.bbt_flash.specs.Step.{StepFits, step_left}
use Rattle.bbt_flash.specs.Update.{update_sizes, update_writing}
use Rattle.nand_model.specs.declared.geometry.Geometry.{Geometry}
use Rattle.bbt_flash.proofs.Attaching.{scanning-event, searching-event, writing-event}
use Rattle.bbt_flash.proofs.attach.Attach.event.Goals as goal

pub returns-in-Searching-clause-next : goal.returns-in-Searching-clause-next
returns-in-Searching-clause-next c =
    let a = c.args.self.now in
    let fits = subst (StepFits a.geometry) c.in-Searching.is a.fits in
    ap Some (c.read_of.ensures.read ∙ ap (λ b. name_of (ReadEvent (first_page a.geometry b))) c.block.ensures.block)
    ∙ sym (ap (λ s. option_map name_of (first_event (step_left a.geometry a.table s))) c.in-Searching.is
    ∙ ap (option_map name_of) (searching-event a.geometry a.table c.in-Searching.search fits))

pub returns-in-Scanning-clause-next : goal.returns-in-Scanning-clause-next
returns-in-Scanning-clause-next c =
    let a = c.args.self.now in
    let fits = subst (StepFits a.geometry) c.in-Scanning.is a.fits in
    ap Some c.read_of-in-Scanning.ensures.read
    ∙ sym (ap (λ s. option_map name_of (first_event (step_left a.geometry a.table s))) c.in-Scanning.is
    ∙ ap (option_map name_of) (scanning-event a.geometry a.table c.in-Scanning.scan fits))

pub returns-in-Writing-clause-next : goal.returns-in-Writing-clause-next
returns-in-Writing-clause-next c =
    let a = c.args.self.now in
    let rewriting = c.in-Writing.rewriting in
    let sizes : update_sizes rewriting.update ≡ a.geometry = subst (StepFits a.geometry) c.in-Writing.is a.fits in
    c.event.ensures.next a.table
    ∙ ap (option_map name_of) (ap (λ (h : Geometry). next_writing_event h (update_writing rewriting.update a.table)) sizes
    ∙ sym (writing-event a.geometry a.table rewriting))
    ∙ sym (ap (λ s. option_map name_of (first_event (step_left a.geometry a.table s))) c.in-Writing.is)
