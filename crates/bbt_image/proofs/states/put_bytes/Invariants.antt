use Rattle.std.proofs.Common.{◌≡◌, take}
use Rattle.nand_model.specs.Table.{table_bytes}
use Rattle.bbt_image.proofs.states.put_bytes.Given as goal

abbrev pub invariant-loop-n : goal.invariant-loop-n
invariant-loop-n l = take l.n l.out ≡ take l.n (table_bytes l.table)
