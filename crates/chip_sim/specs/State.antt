-- The state of a simulated chip, and its room.
use Rattle.std.specs.Prelude.{ℕ}
use Rattle.nand_model.specs.Chip.{ChipState, SimFaults}
use Rattle.nand_model.specs.Sizes.{raw_len}
use Rattle.chip_sim.specs.Store.{stored_pages}
use Rattle.chip_sim.specs.declared.chip.SimChip.{SimChip}

-- the pages as they are kept, the weak places with their calls, and the count of faults
abbrev pub sim_state : SimChip → ChipState SimFaults
sim_state chip =
    record {
      geometry = chip.store.geometry;
      pages = stored_pages chip.store;
      fault_state = record { raw = raw_len chip.store.geometry; weak = chip.weak };
      faults = chip.faults;
    }

-- the erased pages that are left in store
abbrev pub sim_room : SimChip → ℕ
sim_room chip = chip.store.blanks.left

-- the flips that the log has room for
abbrev pub sim_bit_room : SimChip → ℕ
sim_bit_room chip = chip.store.log.room
