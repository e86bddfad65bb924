use Rattle.std.proofs.Common.{◌≡◌, ◌*◌, length, take}
use Rattle.nand_model.specs.Table.{states_in}
use Rattle.bbt_image.proofs.states.take_states.Given as goal

abbrev pub invariant-loop-n : goal.invariant-loop-n
invariant-loop-n l = record { done : take (4 * l.n) l.table ≡ states_in (take l.n l.bytes); long : length l.table ≡ 4 * length l.bytes }
