-- A controller's part of a boot, and the geometry of the chip of each of its commands.
use Rattle.std.specs.Prelude.{ℕ, List, Option, zero, suc, [], ◌∷◌, slice_index_or, Some, None, ◌≡◌, ◌<◌, slice_get}
use Rattle.nand_model.specs.Partitions.{Partitions, chip_of, command_device}
use Rattle.nand_model.specs.Sizes.{small_chip}
use Rattle.nand_model.specs.declared.words.Flip.{Flip}
use Rattle.nand_model.specs.declared.words.CutAt.{CutAt}
use Rattle.nand_model.specs.declared.words.Command.{Command}
use Rattle.nand_model.specs.declared.geometry.Geometry.{Geometry}

-- a controller's part of a boot: its partitions, its sessions with their commands, its flips and
-- its cut
pub record Boot : Type 0 where
  pub partitions : Partitions
  pub sessions : List (ℕ × List Command)
  pub flips : List Flip
  pub cut : Option CutAt

-- the list with the item at a place changed
abbrev pub change_at : {A : Type 0} → List A → ℕ → (A → A) → List A
change_at [] n f = []
change_at (x ∷ xs) zero f = f x ∷ xs
change_at (x ∷ xs) (suc n) f = x ∷ change_at xs n f

-- the geometry of this chip (some geometry, where there is none)
abbrev pub geometry_of_chip : List Geometry → Option ℕ → Geometry
geometry_of_chip geometries None = small_chip
geometry_of_chip geometries (Some k) = slice_index_or geometries k small_chip

-- the geometry of the chip of a command's device (some geometry, where there is no such chip)
abbrev pub geometry_for : Partitions → List Geometry → Command → Geometry
geometry_for partitions geometries command = geometry_of_chip geometries (chip_of partitions (command_device command))

-- the numbers of a boot's sessions ascend
abbrev pub AreAscending : List (ℕ × List Command) → Type 0
AreAscending begun =
    (i j : ℕ) (a b : ℕ × List Command) → i < j → slice_get begun i ≡ Some a → slice_get begun j ≡ Some b → a.0 < b.0
