-- A flash that was told which of its calls to come fail, and its room.
use Rattle.std.specs.Prelude.{ℕ}
use Rattle.chip_sim.specs.State.{sim_bit_room, sim_room, sim_state}
use Rattle.nand_model.specs.Chip.{ChipState}
use Rattle.chip_tests.specs.Failures.{told_of}
use Rattle.chip_tests.specs.declared.failures.Failures.{Failures}
use Rattle.chip_tests.specs.declared.told.ToldChip.{ToldChip}

-- the state of a flash that was told
abbrev pub told_state : ToldChip → ChipState Failures
told_state chip = told_of (sim_state chip.chip) chip.failures chip.faults

-- its room
abbrev pub told_room : ToldChip → ℕ
told_room chip = sim_room chip.chip

-- its room for flips
abbrev pub told_bit_room : ToldChip → ℕ
told_bit_room chip = sim_bit_room chip.chip
