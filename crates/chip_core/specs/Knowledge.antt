-- What is known of a chip, as operations see it.
use Rattle.std.specs.Prelude.{◌≡◌, ℕ, List}
use Rattle.chip_paths.specs.Attach.{Attaching}
use Rattle.chip_paths.specs.Operation.{Known}
use Rattle.bbt_flash.specs.Copies.{places_in}
use Rattle.chip_core.specs.Sums.{stats_in}
use Rattle.chip_core.specs.declared.knowledge.Knowledge.{Knowledge}

-- what is known of a chip, with this table in memory
abbrev pub known_with : Knowledge → List ℕ → Known
known_with known table =
    record {
      table = table;
      version = known.version;
      places = places_in known.places;
      copies = known.copies;
      statistics = stats_in known.sums;
    }

-- what is known of a chip
abbrev pub known_in : Knowledge → Known
known_in known = known_with known known.table

-- from then on it is known of a chip what its attach found
pub record KnowsFound (old new : Knowledge) (found : Attaching) : Type 0 where
  pub table : new.table ≡ found.table
  pub version : new.version ≡ found.version
  pub places : places_in new.places ≡ found.places
  pub copies : new.copies ≡ found.copies
  pub sums : new.sums ≡ old.sums
  pub geometry : new.geometry ≡ old.geometry
