use Rattle.std.proofs.Common.{◌≡◌, ◌≤◌, ◌*◌, map, take}
use Rattle.std.specs.Prelude.{sum_by}
use Rattle.ctl_core.specs.Board.{slot_state}
use Rattle.ctl_core.specs.Ended.{slot_bad_blocks}
use Rattle.ctl_core.proofs.ending.all_bad.Given as goal

abbrev pub invariant-loop-slot : goal.invariant-loop-slot
invariant-loop-slot g l = record {
  so_far : l.bad ≡ sum_by slot_bad_blocks (map slot_state (take l.slot-index l.slots));
  few : l.bad ≤ l.slot-index * 4096;
}
