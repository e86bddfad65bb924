-- An update as a writing of a table: the table is handed to each of its calls.
use Rattle.std.specs.Prelude.{ℕ, true, List, [], ◌∷◌}
use Rattle.nand_model.specs.Path.{Path, Over}
use Rattle.chip_paths.specs.Writing.{Places, Writing, writing_of, writing_path}
use Rattle.nand_model.specs.declared.geometry.Geometry.{Geometry}
use Rattle.nand_model.specs.declared.words.Which.TheVariants.{Primary, Mirror}
use Rattle.bbt_flash.specs.Copies.{copies_in, places_in, whole_in}
use Rattle.bbt_flash.specs.declared.update.Update.{Update}

-- the sizes of its chip
abbrev pub update_sizes : Update → Geometry
update_sizes update = update.geometry

-- how far it has come, where this is the table
abbrev pub update_writing : Update → List ℕ → Writing
update_writing update table =
    record {
      table = table;
      version = update.version;
      places = places_in update.places;
      whole = whole_in update.whole;
      left = copies_in update.left;
      erased = update.erased;
      chances = update.chances;
      failed = update.failed;
    }

-- what is left of a writing, whose outcome is the writing at its end
abbrev pub writing_left : Geometry → Writing → Path Writing
writing_left g w = writing_path g w (λ end. Over end)

-- the writing of the primary and then the mirror, both of which are whole at its start
abbrev pub writing_of_both : List ℕ → ℕ → Places → Writing
writing_of_both table version places =
    writing_of table version places (record { primary = true; mirror = true }) (Primary ∷ Mirror ∷ [])
