-- The state and the room of a chip behind a bus.
use Rattle.std.specs.Prelude.{ℕ}
use Rattle.chip_sim.specs.State.{sim_bit_room, sim_room, sim_state}
use Rattle.nand_model.specs.Chip.{ChipState, SimFaults}
use Rattle.onfi_bus.specs.declared.chip.BusChip.{BusChip}

-- the state is that of the chip itself
abbrev pub bus_state : BusChip → ChipState SimFaults
bus_state bus = sim_state bus.chip

-- the room is that of the chip itself
abbrev pub bus_room : BusChip → ℕ
bus_room bus = sim_room bus.chip

-- the room for flips is that of the chip itself
abbrev pub bus_bit_room : BusChip → ℕ
bus_bit_room bus = sim_bit_room bus.chip
