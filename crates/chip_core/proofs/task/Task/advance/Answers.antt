use Rattle.std.proofs.Common.{ap, subst}
use Rattle.std.specs.Prelude.{IfSome}
use Rattle.chip_paths.specs.Writing.{next_writing_event}
use Rattle.nand_model.specs.declared.geometry.Geometry.{Geometry}
use Rattle.bbt_flash.specs.Update.{update_writing}
use Rattle.bbt_ram.specs.declared.table.BlockTable.{BlockTable}
use Rattle.std.specs.declared.snapshot.Snapshot.{Snapshot}
use Rattle.chip_core.specs.Knowledge.{known_with}
use Rattle.chip_core.specs.Task.{WritingAdvances}
use Rattle.chip_core.proofs.WritingTables.{writing-goes-on}
use Rattle.chip_core.proofs.task.Task.advance.Goals as goal

pub returns-in-Writing-clause-advanced : goal.returns-in-Writing-clause-advanced
returns-in-Writing-clause-advanced g c =
    let model = g.F.Flash.fault_model in
    let known = c.args.known.now in
    let s = g.F.Flash.state c.args.flash.now in
    let after = g.F.Flash.state c.advance-told.new.flash in
    let w = c.in-Writing.writing in
    let then_w = c.advance-told.new.self in
    let was = update_writing w.update known.table in
    let now = update_writing then_w.update c.advance-told.new.table in
    let Done : Geometry → Type 0 = λ h. IfSome (next_writing_event h was) (WritingAdvances model s after was now c.advance-told.result) in
    writing-goes-on model s after known _ w then_w c.advance-told.result c.requires.sizes (subst Done c.requires.judge c.advance-told.ensures.advanced)
    c.advance-told.ensures.marker (ap (λ (b : Snapshot BlockTable). known_with known b.value) c.advance-told.ensures.before) c.args.self c.in-Writing.is
