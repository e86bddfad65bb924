use Rattle.std.proofs.Common.{◌∙◌, arith, ap, sym, subst, option_map}
use Rattle.chip_paths.specs.ChipRun.{name_of}
use Rattle.chip_paths.specs.Writing.{next_writing_event}
use Rattle.nand_model.specs.declared.geometry.Geometry.{Geometry}
use Rattle.bbt_flash.specs.Update.{update_writing}
use Rattle.bbt_flash.proofs.Sizes.{first_page-small}
use Rattle.chip_core.specs.Task.{FitsMark, TaskFits, WritingFits, task_event}
use Rattle.chip_core.proofs.task.Task.event.Goals as goal

pub overflow_mul-result : goal.overflow_mul-result
overflow_mul-result c =
    let g = c.args.g.now in
    let fits : FitsMark g c.in-Marker.block c.in-Marker.image = subst (TaskFits g c.requires.0) c.in-Marker.is c.requires.1 in
    omega (arith, first_page-small g c.in-Marker.block fits.there)

pub returns-in-Writing : goal.returns-in-Writing
returns-in-Writing c =
    let g = c.args.g.now in
    let w = c.in-Writing.writing in
    let fits : WritingFits g c.requires.0 w = subst (TaskFits g c.requires.0) c.in-Writing.is c.requires.1 in
    λ table. c.event.ensures.next table
    ∙ ap (λ (h : Geometry). option_map name_of (next_writing_event h (update_writing w.update table))) fits.sizes
    ∙ sym (ap (λ t. option_map name_of (task_event g table t)) c.in-Writing.is)
