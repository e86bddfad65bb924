use Rattle.std.proofs.Common.{◌≡◌, ◌≤◌, take}
use Rattle.std.specs.Prelude.{count_by}
use Rattle.nand_model.specs.Table.{is_bad_state}
use Rattle.bbt_ram.proofs.table.BlockTable.count_marked.Given as goal

abbrev pub invariant-loop-block : goal.invariant-loop-block
invariant-loop-block l = record { counted : l.marked ≡ count_by is_bad_state (take l.block l.self); few : l.marked ≤ l.block }
