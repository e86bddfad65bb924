use Rattle.std.proofs.Common.{◌≡◌, ◌++◌, length, map}
use Rattle.chip_sim.specs.State.{sim_state}
use Rattle.onfi_bus.specs.Lab.{lab_state}
use Rattle.plan_replay.specs.Buses.{AreOnTheirBuses}
use Rattle.plan_replay.proofs.chips.lab_chips.Given as goal

-- the chips so far are on their buses, and with what is left they make the whole
abbrev pub invariant-loop-chip : goal.invariant-loop-chip
invariant-loop-chip l = record {
  whole : map lab_state l.flashes ++ map sim_state l.rest ≡ map sim_state l.fn.chips;
  buses : AreOnTheirBuses l.plan l.controller l.flashes;
}

abbrev pub decreases-loop-chip : goal.decreases-loop-chip
decreases-loop-chip l = length l.rest
