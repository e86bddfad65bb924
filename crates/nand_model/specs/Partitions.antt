-- The partitions of a controller, each of which is a device, and the devices that operations name.
use Rattle.std.specs.Prelude.{ℕ, List, ◌-◌, nat_lt, if◌then◌else◌, slice_get, Option, None, Some, ◌+◌, ◌<◌, ◌≤◌}
use Rattle.nand_model.specs.declared.words.Part.{Part}
use Rattle.nand_model.specs.declared.words.Op.{Op}
use Rattle.nand_model.specs.declared.words.Op.TheVariants.{Read, Write, RawRead, RawWrite, Erase, IsBad, Mark, Stats}
use Rattle.nand_model.specs.declared.words.Command.{Command}
use Rattle.nand_model.specs.declared.words.Command.TheVariants.{FlashErase, NandWrite, NandDump, NandTest, MarkBad, IsBad as AskBad, Stats as AskStats}

-- the partitions of one controller by device number, from a first number on
pub record Partitions : Type 0 where
  pub first : ℕ
  pub parts : List Part

-- the partition with a device number
abbrev pub part_of : Partitions → ℕ → Option Part
part_of partitions dev =
    if nat_lt dev partitions.first then None else slice_get partitions.parts (dev - partitions.first)

-- the device that an operation names
abbrev pub device_of : Op → ℕ
device_of (Read dev page) = dev
device_of (Write dev page body free) = dev
device_of (RawRead dev page) = dev
device_of (RawWrite dev page image) = dev
device_of (Erase dev block) = dev
device_of (IsBad dev block) = dev
device_of (Mark dev block) = dev
device_of (Stats dev) = dev

-- the chip of a device
abbrev pub chip_of_part : Option Part → Option ℕ
chip_of_part None = None
chip_of_part (Some part) = Some part.chip

-- the chip of a device number, where there is such a device
abbrev pub chip_of : Partitions → ℕ → Option ℕ
chip_of partitions dev = chip_of_part (part_of partitions dev)

-- a partition has at least one block, and all of its blocks are among so many of its chip
abbrev pub LiesWithin : ℕ → Part → Type 0
LiesWithin blocks part = (0 < part.count) × (part.start + part.count ≤ blocks)

-- the device that a command names
abbrev pub command_device : Command → ℕ
command_device (FlashErase dev blocks no_scan start count) = dev
command_device (NandWrite dev blocks mark raw oob pad off bytes) = dev
command_device (NandDump dev blocks off len raw oob bad) = dev
command_device (NandTest dev blocks keep mark seed passes off len) = dev
command_device (MarkBad dev blocks block) = dev
command_device (AskBad dev blocks block) = dev
command_device (AskStats dev blocks) = dev
