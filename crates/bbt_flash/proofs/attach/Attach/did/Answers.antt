use Rattle.std.proofs.Common.{◌≡◌, ◌∙◌, ap, sym, subst}
use Rattle.chip_paths.specs.Stage.{path_after}
use Rattle.chip_paths.specs.Writing.{writing_after}
use Rattle.bbt_flash.specs.Events.{answer_of}
use Rattle.bbt_flash.specs.Step.{StepFits, attaching_from, step_left}
use Rattle.bbt_flash.specs.Update.{update_sizes, update_writing}
use Rattle.nand_model.specs.declared.geometry.Geometry.{Geometry}
use Rattle.bbt_flash.proofs.Attaching.{over-no-change, reads-no-change, scans-no-change}
use Rattle.bbt_flash.proofs.Updating.{over-after}
use Rattle.bbt_flash.proofs.attach.Attach.did.Goals as goal

pub unreachable-requires : goal.unreachable-requires
unreachable-requires c =
    let a = c.args.self.now in reads-no-change a.geometry a.table a.step a.fits _ (sym c.replace.ensures.value ∙ c.in-Searching.is) c.requires

pub unreachable-requires-in-Scanning : goal.unreachable-requires-in-Scanning
unreachable-requires-in-Scanning c =
    let a = c.args.self.now in scans-no-change a.geometry a.table a.step a.fits _ (sym c.replace.ensures.value ∙ c.in-Scanning.is) c.requires

pub returns-clause-left : goal.returns-clause-left
returns-clause-left c =
    let a = c.args.self.now in
    let rewriting = c.in-Writing.rewriting in
    let is = sym c.replace.ensures.value ∙ c.in-Writing.is in
    let sizes : update_sizes rewriting.update ≡ a.geometry = subst (StepFits a.geometry) is a.fits in
    over-after a.geometry (update_writing rewriting.update a.table) (attaching_from rewriting.origin) c.args.ok (update_writing c.did.new.self c.did.new.table)
    (c.did.ensures.step ∙ ap (λ (h : Geometry). writing_after h (update_writing rewriting.update a.table) (answer_of c.args.ok)) sizes)
    ∙ sym (ap (λ s. path_after (answer_of c.args.ok) (step_left a.geometry a.table s)) is)
