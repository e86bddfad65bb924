-- The two copies of a table, as the code keeps their places, which of them are whole and which are
-- still to be written.
use Rattle.std.specs.Prelude.{List, [], ◌∷◌}
use Rattle.chip_paths.specs.Writing.{Places, WholeCopies, other_of}
use Rattle.nand_model.specs.declared.words.Which.{Which}
use Rattle.bbt_flash.specs.declared.copies.CopiesLeft.{CopiesLeft}
use Rattle.bbt_flash.specs.declared.copies.CopiesLeft.TheVariants.{Nothing, Last, Both}
use Rattle.bbt_flash.specs.declared.copies.Places.{Places as PlacesKept}
use Rattle.bbt_flash.specs.declared.copies.WholeCopies.{WholeCopies as WholeKept}

-- the blocks of the two copies
abbrev pub places_in : PlacesKept → Places
places_in places = record { primary = places.primary; mirror = places.mirror }

-- which of the two copies are whole
abbrev pub whole_in : WholeKept → WholeCopies
whole_in whole = record { primary = whole.primary; mirror = whole.mirror }

-- the copies that are still to be written, in their order
abbrev pub copies_in : CopiesLeft → List Which
copies_in Nothing = []
copies_in (Last which) = which ∷ []
copies_in (Both first) = first ∷ other_of first ∷ []
