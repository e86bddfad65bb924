-- The outcome of an attach by the markers alone.
use Rattle.std.specs.Prelude.{ℕ, List}
use Rattle.nand_model.specs.Chip.{ChipState}
use Rattle.nand_model.specs.Sizes.{first_page}
use Rattle.chip_paths.specs.ChipRun.{known_at_first}
use Rattle.chip_paths.specs.Operation.{Known}
use Rattle.bbt_flash.specs.Step.{attached_by_markers}

-- the cells of the page that has a block's marker
abbrev pub marker_page : {W : Type 0} → ChipState W → ℕ → List ℕ
marker_page s block = (s.pages (first_page s.geometry block)).cells

-- what is known of a chip without tables whose blocks have these states
abbrev pub known_by_markers : List ℕ → Known
known_by_markers states = known_at_first (attached_by_markers states)
