-- What contracts see of a chip: the state of its flash, its stage, the pages and bits set aside,
-- and the pending note of its attach.
use Rattle.std.specs.Prelude.{ℕ, Option, Bool}
use Rattle.nand_model.specs.Chip.{ChipState}
use Rattle.chip_paths.specs.Attach.{Attaching}
use Rattle.chip_paths.specs.Stage.{Stage}
use Rattle.nand_iface.specs.declared.flash.Flash.{Ghosts}
use Rattle.chip_core.specs.Phase.{phase_stage, pending_note_in}
use Rattle.chip_core.specs.declared.chip.Chip.{Chip}

-- the state of its flash
abbrev pub chip_state : {F C : Type 0} {flash : Ghosts F} → Chip F C flash → ChipState flash.FaultState
chip_state {F} {C} {flash} chip = flash.state chip.flash

-- its stage
abbrev pub chip_stage : {F C : Type 0} {flash : Ghosts F} → Chip F C flash → Stage
chip_stage chip = phase_stage chip.known chip.phase

-- how many pages may be programmed or flipped beyond those that its attach or its operation in
-- flight may still program, before memory has to be asked for
abbrev pub chip_page_room : {F C : Type 0} {flash : Ghosts F} → Chip F C flash → ℕ
chip_page_room chip = chip.page_room

-- how many bits may be flipped before memory has to be asked for
abbrev pub chip_bits : {F C : Type 0} {flash : Ghosts F} → Chip F C flash → ℕ
chip_bits {F} {C} {flash} chip = flash.bit_room chip.flash

-- the attach whose note was not handed out yet, and whether it was quiet
abbrev pub chip_pending_note : {F C : Type 0} {flash : Ghosts F} → Chip F C flash → Option (Bool × Attaching)
chip_pending_note chip = pending_note_in chip.phase chip.finding
