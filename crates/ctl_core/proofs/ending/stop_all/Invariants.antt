use Rattle.std.proofs.Common.{◌≡◌, map}
use Rattle.ctl_core.specs.Board.{slot_state}
use Rattle.ctl_core.specs.Ended.{slot_flash}
use Rattle.ctl_core.proofs.ending.stop_all.Given as goal

abbrev pub invariant-loop-slot : goal.invariant-loop-slot
invariant-loop-slot g l = map g.F.Flash.state l.flashes ≡ map slot_flash (map slot_state l.yielded)
