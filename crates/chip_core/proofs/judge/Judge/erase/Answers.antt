use Rattle.std.proofs.Common.{◌∙◌, ap}
use Rattle.nand_model.specs.declared.geometry.Geometry.{Geometry}
use Rattle.nand_model.specs.Quiet.{fairness_if, is_table_block}
use Rattle.nand_model.specs.Sizes.{first_page}
use Rattle.chip_core.proofs.Judging.{erase-failed, erase-judged, erase-told}
use Rattle.chip_core.proofs.judge.Judge.erase.Goals as goal

pub returns-in-Err-clause-done : goal.returns-in-Err-clause-done
returns-in-Err-clause-done g c =
    let model = g.F.Flash.fault_model in
    let s = g.F.Flash.state c.args.flash.now in
    let after = g.F.Flash.state c.erase_block.new.self in
    let wanted = c.look_at.new.self.wanted in
    let judged =
    c.erase_left.ensures.left
    ∙ ap (λ (h : Geometry). fairness_if (is_table_block h c.args.block) h (after.pages (first_page h c.args.block)).cells wanted) c.look_at.ensures.geometry in
    erase-failed model s after c.args.block c.erase_left.result c.erase_block.ensures.state c.in-Err.ensures.ok
    (erase-told model s after c.args.block c.erase_left.result
    (erase-judged s after c.args.self.now.geometry c.requires.sizes c.args.block wanted c.erase_left.result c.look_at.ensures.wanted judged)
    c.erase_block.ensures.state c.in-Err.ensures.ok)
