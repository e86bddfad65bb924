-- The ECC statistics of devices in a course.
use Rattle.std.specs.Prelude.{ℕ, Option, Some, None, slice_get, List, length, map}
use Rattle.chip_paths.specs.Operation.{Known}
use Rattle.chip_paths.specs.ChipRun.{ChipRun}
use Rattle.run_model.specs.Course.{Course}
use Rattle.nand_model.specs.Sizes.{numbers_from}
use Rattle.nand_model.specs.Partitions.{Partitions, chip_of}
use Rattle.nand_model.specs.declared.words.Stats.{Stats}

-- no bit corrected, no step failed
abbrev pub no_statistics : Stats
no_statistics = record { corrected = 0; failed = 0 }

-- the statistics of a device, by what is known of its chip
abbrev pub statistics_known : Option Known → ℕ → Stats
statistics_known None dev = no_statistics
statistics_known (Some known) dev = known.statistics dev

-- the statistics of a device of a chip, where the chip is there
abbrev pub statistics_on : {W : Type 0} → Option (ChipRun W) → ℕ → Stats
statistics_on None dev = no_statistics
statistics_on (Some c) dev = statistics_known c.known dev

-- the statistics of a device in a course, by the chip of the device
abbrev pub statistics_at : {W : Type 0} → Course W → Option ℕ → ℕ → Stats
statistics_at course None dev = no_statistics
statistics_at course (Some k) dev = statistics_on (slice_get course.chips k) dev

-- the numbers of the devices
abbrev pub device_numbers : Partitions → List ℕ
device_numbers partitions = numbers_from partitions.first (length partitions.parts)

-- the statistics of each device in a course
abbrev pub device_statistics : {W : Type 0} → Partitions → Course W → List (ℕ × Stats)
device_statistics partitions course =
    map (λ dev. (dev, statistics_at course (chip_of partitions dev) dev)) (device_numbers partitions)
