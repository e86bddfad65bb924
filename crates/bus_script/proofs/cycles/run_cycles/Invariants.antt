use Rattle.std.proofs.Common.{◌≡◌, take}
use Rattle.bus_script.proofs.OneAfterAnother.{SoFar}
use Rattle.bus_script.proofs.cycles.run_cycles.Given as goal

-- the cycles so far led here
abbrev pub invariant-loop-cycle : goal.invariant-loop-cycle
invariant-loop-cycle g l = record {
  number : l.count ≡ l.cycle-index;
  so_far : SoFar g.F.Flash.fault_model (g.F.Flash.state l.fn.flash) (g.F.Flash.state l.flash) l.bus (take l.cycle-index l.cycles) l.run.events l.run.bytes;
}
