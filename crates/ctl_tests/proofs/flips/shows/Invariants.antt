use Rattle.std.proofs.Common.{◌≡◌, true}
use Rattle.nand_model.specs.Chip.{sim_faults}
use Rattle.chip_sim.specs.State.{sim_state}
use Rattle.ctl_core.specs.Past.{course_of, takes_turns}
use Rattle.ctl_tests.proofs.flips.shows.Given as goal

-- sessions may take turns
abbrev pub invariant-loop : goal.invariant-loop
invariant-loop l = takes_turns (course_of sim_faults sim_state l.core) ≡ true
