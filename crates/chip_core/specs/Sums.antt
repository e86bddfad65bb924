-- The statistics of devices, as the chip keeps them.
use Rattle.std.specs.Prelude.{ℕ, ◌<◌, ◌^◌, ◌==◌, if◌then◌else◌, List, [], ◌∷◌, Option, position}
use Rattle.nand_model.specs.declared.words.Stats.{Stats}
use Rattle.chip_core.specs.declared.sums.DeviceSums.{DeviceSums}

-- the statistics of a device: those of its entry, or 0 where it has none
abbrev pub stats_in : List DeviceSums → ℕ → Stats
stats_in [] dev = record { corrected = 0; failed = 0 }
stats_in (entry ∷ entries) dev = if entry.dev == dev then entry.stats else stats_in entries dev

-- the place of a device's entry
abbrev pub place_of : List DeviceSums → ℕ → Option ℕ
place_of entries dev = position (λ (entry : DeviceSums). entry.dev == dev) entries

-- there is room for the counts of one more page
pub record AreSmall (stats : Stats) : Type 0 where
  pub corrected : stats.corrected < 2 ^ 63
  pub failed : stats.failed < 2 ^ 63
