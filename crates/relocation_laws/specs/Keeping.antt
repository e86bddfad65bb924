-- What stays of the pages of a chip beside its table pages, and which of the last four blocks fail.
use Rattle.std.specs.Prelude.{◌≡◌, ℕ, ◌<◌, Bool, true, Option, Some, None, ⊤}
use Rattle.nand_model.specs.Sizes.{first_page}
use Rattle.nand_model.specs.Chip.{PageState, ChipState, FaultModel, ChipEvent, Complete, PageEvent, ReadEvent, EraseEvent, ProgramEvent, DoneBits, blank_page, good_program, torn_program, torn_erase, with_page, with_block}
use Rattle.nand_model.specs.Table.{table_blocks}
use Rattle.nand_model.specs.Path.{answer_to, is_failure}
use Rattle.nand_model.specs.declared.geometry.Geometry.{Geometry}
use Rattle.page_laws.specs.Keeping.{IsIn, KeepsMarker}

-- an event by which one of the last four blocks fails, in a writing: then its marking has begun
abbrev pub BlockFails : {W : Type 0} → FaultModel W → (ℕ → Type 0) → Geometry → ChipState W → ChipEvent → Type 0
BlockFails model Fails g s (Complete (EraseEvent b)) =
    is_failure (answer_to model s (EraseEvent b)) ≡ true → IsIn (table_blocks g) b → Fails b
BlockFails model Fails g s (Complete (ProgramEvent page image)) =
    is_failure (answer_to model s (ProgramEvent page image)) ≡ true
    → (b : ℕ) → page ≡ first_page g b → IsIn (table_blocks g) b → Fails b
BlockFails model Fails g s _ = ⊤

-- the markers of the blocks that hold data are those of a chip on which nothing was marked
abbrev pub DataMarkers : Geometry → (ℕ → Bool) → (ℕ → Type 0) → (ℕ → PageState) → Type 0
DataMarkers g is_good HoldsTables pages =
    (b : ℕ) → b < g.blocks → (HoldsTables b → ⊥) → KeepsMarker g (pages (first_page g b)) (is_good b)

-- the pages after a program or an erase that was good, or torn by these done bits
abbrev pub pages_after : Geometry → (ℕ → PageState) → PageEvent → Option DoneBits → ℕ → PageState
pages_after g pages (ReadEvent page) outcome = pages
pages_after g pages (EraseEvent block) None = with_block g pages block (λ q old. blank_page g)
pages_after g pages (EraseEvent block) (Some done) = with_block g pages block (torn_erase done)
pages_after g pages (ProgramEvent page image) None = with_page pages page (good_program (pages page) image)
pages_after g pages (ProgramEvent page image) (Some done) = with_page pages page (torn_program (pages page) image done)
