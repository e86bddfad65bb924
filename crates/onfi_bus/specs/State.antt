-- What a bus sees of its chip.
use Rattle.std.specs.Prelude.{◌≡◌, ℕ, Bool, List, Some}
use Rattle.nand_model.specs.Chip.{ChipState, FaultModel}
use Rattle.nand_model.specs.Sizes.{raw_len}
use Rattle.nand_model.specs.declared.geometry.Geometry.{Geometry}
use Rattle.onfi_bus.specs.Device.{Device, after_act}
use Rattle.onfi_bus.specs.Moves.{Move, step_of}
use Rattle.onfi_bus.specs.Registers.{front}
use Rattle.onfi_bus.specs.declared.cycle.Cycle.{Cycle}
use Rattle.onfi_bus.specs.declared.phase.Act.{Act}
use Rattle.onfi_bus.specs.declared.phase.Phase.{Phase}
use Rattle.onfi_bus.specs.declared.state.BusState.{BusState}

-- the sizes of the chip that a bus is for
abbrev pub sizes_of : BusState → Geometry
sizes_of bus = bus.geometry

-- how far the phrase under way has come
abbrev pub phase_of : BusState → Phase
phase_of bus = bus.phase

-- where a cycle leads, and what it does
abbrev pub move_of : BusState → Cycle → Move
move_of bus cycle = step_of bus.geometry bus.phase cycle

-- the bytes of a page with its spare in the page register
abbrev pub register_of : BusState → List ℕ
register_of bus = front (raw_len bus.geometry) bus.register

-- the fail bit
abbrev pub failed_of : BusState → Bool
failed_of bus = bus.failed

-- a chip with the page register and the fail bit of a bus
abbrev pub device_of : {W : Type 0} → ChipState W → BusState → Device W
device_of chip bus = record { chip = chip; register = register_of bus; failed = failed_of bus }

-- where a cycle leads on, the bus is at the phase to which it leads, and the device is the one after
-- its act
abbrev pub Follows : {W : Type 0} → FaultModel W → ChipState W → ChipState W → BusState → BusState → Cycle → Type 0
Follows model before after old new cycle =
    (next : Phase) (act : Act) → move_of old cycle ≡ Some (next, act) →
    (phase_of new ≡ next) × (device_of after new ≡ after_act model (device_of before old) act)
