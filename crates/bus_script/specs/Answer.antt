-- What a script comes to: its cycles at a new chip of its sizes.
use Rattle.std.specs.Prelude.{◌≡◌, ℕ, List, [], ◌++◌, flat_map, length, Result, Ok, Err, codes, decimal, ⊤}
use Rattle.chip_sim.specs.State.{sim_state}
use Rattle.nand_model.specs.Chip.{ChipState, FaultModel, SimFaults, new_chip, sim_faults}
use Rattle.onfi_bus.specs.Runs.{HaveRun, IsFirstIllegal}
use Rattle.onfi_bus.specs.declared.cycle.BusEvent.{BusEvent}
use Rattle.onfi_bus.specs.declared.cycle.BusEvent.TheVariants.{Read, Program, Erase}
use Rattle.onfi_bus.specs.declared.cycle.Cycle.{Cycle}
use Rattle.report_model.specs.Report.{line, rows_text}
use Rattle.bus_script.specs.Script.{reading}
use Rattle.bus_script.specs.declared.error.CycleError.{CycleError}
use Rattle.bus_script.specs.declared.error.CycleError.TheVariants.{Illegal as IllegalCycle, Memory as NoMemory}
use Rattle.bus_script.specs.declared.error.ScriptError.{ScriptError}
use Rattle.bus_script.specs.declared.error.ScriptError.TheVariants.{Refused, Illegal, Memory}
use Rattle.bus_script.specs.declared.script.Script.{Script}

-- the cycle of this number is the first illegal one, unless memory ran out
abbrev pub IsErrorOfCycles : {W : Type 0} → ChipState W → List Cycle → CycleError → Type 0
IsErrorOfCycles chip cycles (IllegalCycle n) = IsFirstIllegal chip.geometry cycles n
IsErrorOfCycles chip cycles NoMemory = ⊤

-- the line of an event
abbrev pub event_line : BusEvent → List ℕ
event_line (Read page) = line (codes "event read " ++ decimal page)
event_line (Program page) = line (codes "event program " ++ decimal page)
event_line (Erase block) = line (codes "event erase " ++ decimal block)

-- a line for each event, the number of the bytes given, and their rows
abbrev pub run_text : List BusEvent → List ℕ → List ℕ
run_text events bytes =
    flat_map event_line events ++ line (codes "bytes " ++ decimal (length bytes)) ++ rows_text bytes

-- the line that refuses a cycle of this number, counted from 1
abbrev pub illegal_line : ℕ → List ℕ
illegal_line n = line (codes "cycle " ++ decimal n ++ codes ": Illegal")

-- the text says what the script of these bytes does at a new chip, all of whose cycles are legal
pub record IsTextOf (bytes text : List ℕ) : Type 0 where
  pub script : Script
  pub read : reading bytes ≡ Ok script
  pub chip : ChipState SimFaults
  pub events : List BusEvent
  pub given : List ℕ
  pub run : HaveRun sim_faults (new_chip script.geometry [] []) chip script.cycles events given
  pub text_is : text ≡ run_text events given

-- the bytes are a script whose n-th cycle, counted from 1, is the first illegal one
pub record IsIllegalAt (bytes : List ℕ) (n : ℕ) : Type 0 where
  pub script : Script
  pub read : reading bytes ≡ Ok script
  pub first : IsFirstIllegal script.geometry script.cycles n

-- why a script is not run to its end, unless memory ran out
abbrev pub IsErrorOf : List ℕ → ScriptError → Type 0
IsErrorOf bytes (Refused at kind) = reading bytes ≡ Err (at, kind)
IsErrorOf bytes (Illegal n) = IsIllegalAt bytes n
IsErrorOf bytes Memory = ⊤

-- the same of bytes that were only read
abbrev pub IsReadingErrorOf : List ℕ → ScriptError → Type 0
IsReadingErrorOf bytes (Refused at kind) = reading bytes ≡ Err (at, kind)
IsReadingErrorOf bytes (Illegal n) = ⊥
IsReadingErrorOf bytes Memory = ⊤

-- an error of cycles as one of a script
abbrev pub script_error : CycleError → ScriptError
script_error (IllegalCycle n) = Illegal n
script_error NoMemory = Memory

-- the bytes are refused
abbrev pub IsRefusal : List ℕ → ScriptError → Type 0
IsRefusal bytes (Refused at kind) = IsErrorOf bytes (Refused at kind)
IsRefusal bytes (Illegal n) = IsErrorOf bytes (Illegal n)
IsRefusal bytes Memory = ⊥
