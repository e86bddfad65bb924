-- Which commands can be run.
use Rattle.std.specs.Prelude.{ℕ, ◌+◌, ◌≤◌, List, length, ◌<◌}
use Rattle.command_model.specs.Command.{device_bytes}
use Rattle.nand_model.specs.declared.geometry.Geometry.{Geometry}
use Rattle.nand_model.specs.declared.words.Command.{Command}
use Rattle.nand_model.specs.declared.words.Command.TheVariants.{FlashErase, NandWrite, NandDump, NandTest, MarkBad, IsBad, Stats}

-- the blocks that a device may have
abbrev pub IsDeviceSize : ℕ → Type 0
IsDeviceSize blocks = (1 ≤ blocks) × (blocks ≤ 32768)

-- flash_erase of blocks of the device, where count 0 means to the end
pub record ErasesBlocks (blocks start count : ℕ) : Type 0 where
  pub size : IsDeviceSize blocks
  pub first : start < blocks
  pub last : start + count ≤ blocks

-- nandwrite from a page of the device on, of data that a plan may have
pub record WritesPages (g : Geometry) (blocks off : ℕ) (bytes : List ℕ) : Type 0 where
  pub size : IsDeviceSize blocks
  pub first : off < device_bytes g blocks
  pub few : length bytes ≤ 4294967295

-- nanddump of pages of the device, where length 0 means to the end
pub record DumpsPages (g : Geometry) (blocks off len : ℕ) : Type 0 where
  pub size : IsDeviceSize blocks
  pub first : off < device_bytes g blocks
  pub last : off + len ≤ device_bytes g blocks

-- nandtest of blocks of the device, at least once, where length 0 means to the end
pub record TestsBlocks (g : Geometry) (blocks passes off len : ℕ) : Type 0 where
  pub size : IsDeviceSize blocks
  pub some : 1 ≤ passes
  pub first : off < device_bytes g blocks
  pub last : off + len ≤ device_bytes g blocks

-- the numbers of a command are such as a plan may have, on a device of a chip with these sizes
abbrev pub Fits : Geometry → Command → Type 0
Fits g (FlashErase dev blocks no_scan start count) = ErasesBlocks blocks start count
Fits g (NandWrite dev blocks mark raw oob pad off bytes) = WritesPages g blocks off bytes
Fits g (NandDump dev blocks off len raw oob bad) = DumpsPages g blocks off len
Fits g (NandTest dev blocks keep mark seed passes off len) = TestsBlocks g blocks passes off len
Fits g (MarkBad dev blocks block) = IsDeviceSize blocks
Fits g (IsBad dev blocks block) = IsDeviceSize blocks
Fits g (Stats dev blocks) = IsDeviceSize blocks
