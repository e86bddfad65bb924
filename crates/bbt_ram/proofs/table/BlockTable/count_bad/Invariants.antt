use Rattle.std.proofs.Common.{◌≡◌, ◌≤◌}
use Rattle.std.specs.Prelude.{count_by, slice_range}
use Rattle.bbt_ram.specs.Packed.{is_not_good}
use Rattle.bbt_ram.proofs.table.BlockTable.count_bad.Given as goal

abbrev pub invariant-loop-block : goal.invariant-loop-block
invariant-loop-block l = record { counted : l.bad ≡ count_by is_not_good (slice_range l.self l.from l.block); few : l.bad ≤ l.block }
