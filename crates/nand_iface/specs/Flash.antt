-- What the calls of a flash chip ask, and what their failures show.
use Rattle.std.specs.Prelude.{◌≡◌, ℕ, ◌<◌, List, length}
use Rattle.nand_model.specs.Sizes.{page_count, raw_len}
use Rattle.nand_model.specs.Chip.{ChipState}
use Rattle.nand_model.specs.declared.geometry.Geometry.{Geometry}

-- a page of the chip, and bytes for a whole page
pub record FitsPage (g : Geometry) (page : ℕ) (bytes : List ℕ) : Type 0 where
  pub page_there : page < page_count g
  pub length_right : length bytes ≡ raw_len g

-- the cells of each page of the chip are those of a whole page
abbrev pub HasWholePages : {W : Type 0} → ChipState W → Type 0
HasWholePages s = (page : ℕ) → page < page_count s.geometry → length (s.pages page).cells ≡ raw_len s.geometry
