-- The state and the room of a simulated chip, plain or behind a bus.
use Rattle.std.specs.Prelude.{ℕ}
use Rattle.chip_sim.specs.State.{sim_bit_room, sim_room, sim_state}
use Rattle.nand_model.specs.Chip.{ChipState, SimFaults}
use Rattle.onfi_bus.specs.Chips.{bus_bit_room, bus_room, bus_state}
use Rattle.onfi_bus.specs.declared.lab.LabChip.{LabChip}
use Rattle.onfi_bus.specs.declared.lab.LabChip.TheVariants.{Plain, Bus}

-- the state of the one or the other
abbrev pub lab_state : LabChip → ChipState SimFaults
lab_state (Plain chip) = sim_state chip
lab_state (Bus chip) = bus_state chip

-- its room
abbrev pub lab_room : LabChip → ℕ
lab_room (Plain chip) = sim_room chip
lab_room (Bus chip) = bus_room chip

-- its room for flips
abbrev pub lab_bit_room : LabChip → ℕ
lab_bit_room (Plain chip) = sim_bit_room chip
lab_bit_room (Bus chip) = bus_bit_room chip
