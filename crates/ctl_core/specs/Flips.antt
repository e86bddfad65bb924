-- The flips of a controller's chips: which are due before an event, and what they make of the
-- chips.
use Rattle.std.specs.Prelude.{ℕ, List, length, sum_by, fold, filter, ◌≡◌, ◌==◌, slice_get, Some}
use Rattle.nand_model.specs.Chip.{FaultModel, after_trace, flip_events}
use Rattle.ctl_core.specs.SlotState.{SlotState}
use Rattle.command_model.specs.Boot.{change_at}
use Rattle.nand_model.specs.Flips.{due_flips, FitsBits}
use Rattle.nand_model.specs.declared.words.Flip.{Flip}

-- how many bits these flips turn
abbrev pub bit_count : List Flip → ℕ
bit_count flips = sum_by (λ (flip : Flip). length flip.bits) flips

-- those of these flips that are of a chip
abbrev pub flips_on : ℕ → List Flip → List Flip
flips_on chip flips = filter (λ (flip : Flip). flip.chip == chip) flips

-- a chip after its bits were turned
abbrev pub slot_with_flip : {W : Type 0} → FaultModel W → Flip → SlotState W → SlotState W
slot_with_flip model flip c = record c { state = after_trace model c.state (flip_events flip.page flip.bits) }

-- the chips after a flip
abbrev pub slot_flip : {W : Type 0} → FaultModel W → List (SlotState W) → Flip → List (SlotState W)
slot_flip model chips flip = change_at chips flip.chip (slot_with_flip model flip)

-- the chips after the flips that are due before an event
abbrev pub slot_flips_before : {W : Type 0} → FaultModel W → List Flip → ℕ → List (SlotState W) → List (SlotState W)
slot_flips_before model flips event chips = fold (slot_flip model) chips (due_flips flips event)

-- a flip turns bits of a page of a chip that is there
abbrev pub CanFlip : {W : Type 0} → List (SlotState W) → Flip → Type 0
CanFlip {W} chips flip = (c : SlotState W) × (slice_get chips flip.chip ≡ Some c)
    × FitsBits c.state.geometry flip.page flip.bits
