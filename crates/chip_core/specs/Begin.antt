-- Which operations a chip takes.
use Rattle.std.specs.Prelude.{ℕ, ◌+◌, ◌≤◌, Option, Some, None, IsSome, IfSome}
use Rattle.nand_model.specs.Partitions.{Partitions, part_of, device_of}
use Rattle.nand_model.specs.declared.geometry.Geometry.{Geometry}
use Rattle.nand_model.specs.declared.words.Op.{Op}
use Rattle.nand_model.specs.declared.words.Op.TheVariants.{Read, Write, RawRead, RawWrite, Erase, IsBad, Mark, Stats}
use Rattle.chip_paths.specs.Stage.{Stage, stage_statistics}
use Rattle.command_model.specs.Taken.{IsTaken}
use Rattle.chip_core.specs.Sums.{AreSmall}

-- the device is there, and its partition ends within the chip
pub record HasDevice (g : Geometry) (partitions : Partitions) (dev : ℕ) : Type 0 where
  pub there : IsSome (part_of partitions dev)
  pub within : IfSome (part_of partitions dev) (λ part. part.start + part.count ≤ g.blocks)

-- the device whose statistics an operation adds to
abbrev pub read_device : Op → Option ℕ
read_device (Read dev page) = Some dev
read_device (Write dev page body free) = None
read_device (RawRead dev page) = None
read_device (RawWrite dev page image) = None
read_device (Erase dev block) = None
read_device (IsBad dev block) = None
read_device (Mark dev block) = None
read_device (Stats dev) = None

-- an operation that a chip of these sizes takes at this stage: its device is there, and the
-- statistics that a read adds to have room
pub record CanBegin (g : Geometry) (partitions : Partitions) (stage : Stage) (op : Op) : Type 0 where
  pub device : HasDevice g partitions (device_of op)
  pub taken : IsTaken g op
  pub sums : IfSome (read_device op) (λ dev. AreSmall (stage_statistics stage dev))
