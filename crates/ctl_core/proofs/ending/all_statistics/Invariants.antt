use Rattle.std.proofs.Common.{◌≡◌, map}
use Rattle.nand_model.specs.Sizes.{numbers_from}
use Rattle.ctl_core.specs.Board.{slot_state}
use Rattle.ctl_core.specs.Ended.{slot_statistics}
use Rattle.ctl_core.proofs.ending.all_statistics.Given as goal

abbrev pub invariant-loop-n : goal.invariant-loop-n
invariant-loop-n g l = l.stats ≡ slot_statistics l.parts (map slot_state l.slots) (numbers_from l.parts.first l.n)
