-- What a list of cycles comes to at a chip: the events done, the bytes given, and the chip after it.
use Rattle.std.specs.Prelude.{◌≡◌, ℕ, ◌+◌, false, List, [], ◌∷◌, ◌++◌, flat_map, length, map, replicate, Option, Some, None}
use Rattle.std.specs.List.{fold}
use Rattle.std.specs.Option.{option_to_list}
use Rattle.nand_model.specs.Chip.{ChipState, FaultModel}
use Rattle.nand_model.specs.Sizes.{raw_len}
use Rattle.nand_model.specs.declared.geometry.Geometry.{Geometry}
use Rattle.onfi_bus.specs.Device.{Device, after_act, answer}
use Rattle.onfi_bus.specs.Moves.{Move}
use Rattle.onfi_bus.specs.Phrases.{Beat, IsLegal}
use Rattle.onfi_bus.specs.declared.cycle.BusEvent.{BusEvent}
use Rattle.onfi_bus.specs.declared.cycle.BusEvent.TheVariants.{Read, Program, Erase}
use Rattle.onfi_bus.specs.declared.cycle.Cycle.{Cycle}
use Rattle.onfi_bus.specs.declared.phase.Act.{Act}
use Rattle.onfi_bus.specs.declared.phase.Act.TheVariants.{Wait, Clear, Put, ReadPage, ProgramPage, EraseBlock, GiveByte, GiveStatus, Reset}

-- the event that an act is
abbrev pub event_of : Act → Option BusEvent
event_of Wait = None
event_of Clear = None
event_of (Put column byte) = None
event_of (ReadPage page) = Some (Read page)
event_of (ProgramPage page) = Some (Program page)
event_of (EraseBlock block) = Some (Erase block)
event_of (GiveByte column) = None
event_of GiveStatus = None
event_of Reset = None

-- the event of a cycle that leads on; none where it is illegal
abbrev pub event_in : Move → Option BusEvent
event_in None = None
event_in (Some (next, act)) = event_of act

-- the cycles of a list
abbrev pub cycles_of : List Beat → List Cycle
cycles_of list = map (λ (beat : Beat). beat.0) list

-- the events that its cycles do
abbrev pub events_of : List Beat → List BusEvent
events_of list = flat_map (λ (beat : Beat). option_to_list (event_of beat.1)) list

-- these cycles begin a list of whole phrases
abbrev pub AreLegal : Geometry → List Cycle → Type 0
AreLegal g cycles = (list : List Beat) × (cycles_of list ≡ cycles) × IsLegal g list

-- the n-th of the cycles, counted from 1, is the first with which they begin no list of whole phrases
pub record IsFirstIllegal (g : Geometry) (cycles : List Cycle) (n : ℕ) : Type 0 where
  pub before : List Cycle
  pub cycle : Cycle
  pub later : List Cycle
  pub parts : cycles ≡ before ++ cycle ∷ later
  pub number : n ≡ length before + 1
  pub legal : AreLegal g before
  pub illegal : AreLegal g (before ++ cycle ∷ []) → ⊥

-- a chip behind a bus over which nothing went: its page register has 0xFF throughout
abbrev pub new_device : {W : Type 0} → ChipState W → Device W
new_device chip = record { chip = chip; register = replicate (raw_len chip.geometry) 0xff; failed = false }

module _ {W : Type 0} (model : FaultModel W) where
  -- the device after what the cycles of a list do
  abbrev pub after_beats : Device W → List Beat → Device W
  after_beats d list = fold (λ (so_far : Device W) (beat : Beat). after_act model so_far beat.1) d list

  -- the bytes that they give
  abbrev pub bytes_of : Device W → List Beat → List ℕ
  bytes_of d [] = []
  bytes_of d (beat ∷ later) = option_to_list (answer d beat.1) ++ bytes_of (after_act model d beat.1) later

  -- these cycles are the first ones of whole phrases, which do these events, give these bytes, and
  -- make of a chip another
  pub record HaveRun (old new : ChipState W) (cycles : List Cycle) (events : List BusEvent) (bytes : List ℕ)
      : Type 0 where
    pub list : List Beat
    pub cycles_are : cycles_of list ≡ cycles
    pub legal : IsLegal old.geometry list
    pub events_are : events ≡ events_of list
    pub bytes_are : bytes ≡ bytes_of (new_device old) list
    pub chip_is : new ≡ (after_beats (new_device old) list).chip
