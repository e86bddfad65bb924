-- Boots of two chips with one device each: two sessions that erase, ask and mark, and one that
-- dumps a page.
use Rattle.std.specs.Prelude.{◌≡◌, ◌<◌, ℕ, true, false, List, [], ◌∷◌, All, refl, ◌≤◌, length, None}
use Rattle.nand_model.specs.Chip.{ChipState}
use Rattle.nand_model.specs.Partitions.{Partitions}
use Rattle.nand_model.specs.declared.geometry.Geometry.{Geometry}
use Rattle.nand_model.specs.declared.words.BadMode.TheVariants.{DumpBad}
use Rattle.nand_model.specs.declared.words.Command.{Command}
use Rattle.nand_model.specs.declared.words.Command.TheVariants.{FlashErase, IsBad, MarkBad, NandDump}
use Rattle.nand_model.specs.declared.words.Flip.{Flip}
use Rattle.nand_model.specs.declared.words.Part.{Part}
use Rattle.command_model.specs.Boot.{Boot}
use Rattle.fault_plan.specs.BootFaults.{BootFaults}
use Rattle.tool_steps.specs.Boot.{boot_with}

-- flash_erase -N of a device of one block
abbrev pub erasing : ℕ → Command
erasing dev = FlashErase dev 1 true 0 0

-- isbad of block 0 of a device of one block
abbrev pub asking : ℕ → Command
asking dev = IsBad dev 1 0

-- markbad of block 0 of a device of one block
abbrev pub marking : ℕ → Command
marking dev = MarkBad dev 1 0

-- nanddump -n of the first page of a device of one block, whatever its state
abbrev pub dumping : ℕ → Command
dumping dev = NandDump dev 1 0 2048 true false DumpBad

-- the first block of a chip
abbrev pub first_block : ℕ → Part
first_block chip = record { chip = chip; start = 0; count = 1 }

-- two devices of one block, on two chips
abbrev pub small_parts : Partitions
small_parts = record { first = 0; parts = first_block 0 ∷ first_block 1 ∷ [] }

-- two sessions, of which one erases and asks, and the other asks and marks
abbrev pub small_sessions : List (ℕ × List Command)
small_sessions = (0, erasing 0 ∷ asking 1 ∷ []) ∷ (1, asking 0 ∷ marking 1 ∷ []) ∷ []

-- a session that dumps a page three times
abbrev pub reading_sessions : List (ℕ × List Command)
reading_sessions = (0, dumping 0 ∷ dumping 0 ∷ dumping 0 ∷ []) ∷ []

-- chips of eight blocks without tables
abbrev pub small_sizes : Geometry
small_sizes = record { page = 2048; spare = 64; pages_per_block = 64; blocks = 8; t = 1; bbt = 0; threshold = 1; in_bounds = refl }

-- a chip of these sizes
abbrev pub IsSmall : {W : Type 0} → ChipState W → Type 0
IsSmall s = s.geometry ≡ small_sizes

-- two such chips
abbrev pub ArePairOfSmall : {W : Type 0} → List (ChipState W) → Type 0
ArePairOfSmall (s ∷ t ∷ []) = IsSmall s × IsSmall t
ArePairOfSmall _ = ⊥

-- a flip turns bits of a page of one of these chips
pub record IsSmallFlip (flip : Flip) : Type 0 where
  pub chip : flip.chip < 2
  pub page : flip.page < 512
  pub bits_there : All (λ bit. bit < 16896) flip.bits
  pub few : length flip.bits ≤ 32768

-- no fault
abbrev pub no_faults : BootFaults
no_faults = record { flips = []; cut = None }

-- a boot of these faults and sessions
abbrev pub boot_of : BootFaults → List (ℕ × List Command) → Boot
boot_of faults sessions = boot_with small_parts faults sessions
