-- When a controller can be started.
use Rattle.std.specs.Prelude.{ℕ, List, All, ◌≡◌, slice_get, Some, ◌≤◌, length}
use Rattle.nand_model.specs.Chip.{ChipState}
use Rattle.command_model.specs.Boot.{Boot}
use Rattle.run_model.specs.Course.{sizes_of}
use Rattle.command_model.specs.Cost.{sessions_cost}
use Rattle.command_model.specs.Runnable.{Fits}
use Rattle.nand_model.specs.Partitions.{LiesWithin, Partitions, part_of, command_device}
use Rattle.command_model.specs.Command.{command_blocks}
use Rattle.nand_model.specs.Flips.{FitsBits}
use Rattle.nand_model.specs.declared.words.Command.{Command}
use Rattle.nand_model.specs.declared.words.Part.{Part}
use Rattle.nand_model.specs.declared.words.Flip.{Flip}

-- the most operations of a boot of these chips
abbrev pub boot_cost : {W : Type 0} → Boot → List (ChipState W) → ℕ
boot_cost boot starts = sessions_cost (sizes_of boot starts) boot.sessions

-- each command of a boot of these chips can be run
abbrev pub CanRunBoot : {W : Type 0} → Boot → List (ChipState W) → Type 0
CanRunBoot boot starts = All (λ (s : ℕ × List Command). All (λ c. Fits (sizes_of boot starts c) c) s.1) boot.sessions

-- a partition lies on a chip that is there
abbrev pub IsOnChip : {W : Type 0} → List (ChipState W) → Part → Type 0
IsOnChip {W} starts part = (s : ChipState W) × (slice_get starts part.chip ≡ Some s) × LiesWithin s.geometry.blocks part

-- a command is of a device that is there, and names the number of its blocks
abbrev pub IsOfDevice : Partitions → Command → Type 0
IsOfDevice partitions command =
    (part : Part) × (part_of partitions (command_device command) ≡ Some part) × (command_blocks command ≡ part.count)

-- a flip turns bits of a page of a chip that is there
abbrev pub IsOnFlash : {W : Type 0} → List (ChipState W) → Flip → Type 0
IsOnFlash {W} starts flip = (s : ChipState W) × (slice_get starts flip.chip ≡ Some s)
    × FitsBits s.geometry flip.page flip.bits

-- flips that the room of a chip can hold at once: at most 65,536, of at most 32,768 bits each
pub record AreFewFlips (flips : List Flip) : Type 0 where
  pub count : length flips ≤ 65536
  pub bits : All (λ (flip : Flip). length flip.bits ≤ 32768) flips
