-- The blocks of a chip that are not quiet.
use Rattle.std.specs.Prelude.{ℕ, ◌+◌, Bool, not, ◌&&◌, ◌||◌, count_by}
use Rattle.nand_model.specs.Chip.{PageState}
use Rattle.nand_model.specs.Quiet.{has_no_flip_in, is_quiet_table_page, is_table_block}
use Rattle.nand_model.specs.Sizes.{first_page, numbers_from}
use Rattle.nand_model.specs.declared.geometry.Geometry.{Geometry}

-- the first page of a block: no flip in the marker, and quiet as a table page where it is one
abbrev pub is_quiet_first_page : Geometry → (is_table : Bool) → PageState → Bool
is_quiet_first_page g is_table page =
    has_no_flip_in page g.page (g.page + 1) && (not is_table || is_quiet_table_page g page)

-- a block whose marker is quiet, and whose table page where it is one of the last four with tables
abbrev pub is_quiet_block : Geometry → (ℕ → PageState) → ℕ → Bool
is_quiet_block g pages block = is_quiet_first_page g (is_table_block g block) (pages (first_page g block))

-- how many blocks are not quiet
abbrev pub unquiet_count : Geometry → (ℕ → PageState) → ℕ
unquiet_count g pages = count_by (λ block. not (is_quiet_block g pages block)) (numbers_from 0 g.blocks)
