-- The table in memory has one meaning, by a chip's stage and by its run.
use Rattle.std.proofs.Common.{◌≡◌, Option, Some, None, refl}
use Rattle.nand_model.specs.Partitions.{Partitions}
use Rattle.chip_paths.specs.Operation.{Known}
use Rattle.chip_paths.specs.ChipRun.{ChipRun, Pending, table_now}
use Rattle.chip_paths.specs.Stage.{stage_by, stage_table}

-- at each moment, also within a mark
pub one_table : {W : Type 0} (partitions : Partitions) (c : ChipRun W) (known : Option Known) (pending : Option Pending)
    → stage_table (stage_by partitions c known pending) ≡ table_now partitions (record c { known = known; pending = pending })
one_table partitions c None pending = refl
one_table partitions c (Some known) None = refl
one_table partitions c (Some known) (Some pending) = refl
