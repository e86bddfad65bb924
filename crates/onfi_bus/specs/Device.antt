-- What a bus has beside the phase under way, and what each act makes of it.
use Rattle.std.specs.Prelude.{ℕ, Bool, true, false, List, replicate, slice_index, slice_set, is_some, Option, Some, None}
use Rattle.nand_model.specs.Chip.{ChipState, FaultModel, ProgramCall, EraseCall, ProgramEvent, EraseEvent, Complete, failure_of, happens}
use Rattle.nand_model.specs.Sizes.{raw_len}
use Rattle.onfi_bus.specs.declared.phase.Act.{Act}
use Rattle.onfi_bus.specs.declared.phase.Act.TheVariants.{Wait, Clear, Put, ReadPage, ProgramPage, EraseBlock, GiveByte, GiveStatus, Reset}

-- a chip, its page register, and whether its last program or erase since the last reset failed
pub record Device (W : Type 0) : Type 0 where
  pub chip : ChipState W
  pub register : List ℕ
  pub failed : Bool

-- the status byte: ready, not protected, and whether the last program or erase failed
abbrev pub status_byte : Bool → ℕ
status_byte true = 0xe1
status_byte false = 0xe0

-- the byte that an act gives
abbrev pub answer : {W : Type 0} → Device W → Act → Option ℕ
answer d Wait = None
answer d Clear = None
answer d (Put column byte) = None
answer d (ReadPage page) = None
answer d (ProgramPage page) = None
answer d (EraseBlock block) = None
answer d (GiveByte column) = Some (slice_index d.register column)
answer d GiveStatus = Some (status_byte d.failed)
answer d Reset = None

module _ {W : Type 0} (model : FaultModel W) where
  -- the device after an act
  abbrev pub after_act : Device W → Act → Device W
  after_act d Wait = d
  after_act d Clear = record d { register = replicate (raw_len d.chip.geometry) 0xff }
  after_act d (Put column byte) = record d { register = slice_set d.register column byte }
  after_act d (ReadPage page) = record d { register = (d.chip.pages page).cells }
  after_act d (ProgramPage page) =
      record {
        chip = happens model d.chip (Complete (ProgramEvent page d.register));
        register = d.register;
        failed = is_some (failure_of model d.chip (ProgramCall page));
      }
  after_act d (EraseBlock block) =
      record {
        chip = happens model d.chip (Complete (EraseEvent block));
        register = d.register;
        failed = is_some (failure_of model d.chip (EraseCall block));
      }
  after_act d (GiveByte column) = d
  after_act d GiveStatus = d
  after_act d Reset = record d { failed = false }
