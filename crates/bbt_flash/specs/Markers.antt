-- The state of a block by its marker.
use Rattle.std.specs.Prelude.{ℕ, ◌==◌, if◌then◌else◌, List}
use Rattle.nand_model.specs.Page.{marker_byte}
use Rattle.nand_model.specs.declared.geometry.Geometry.{Geometry}

-- 0 where the marker byte of the block's first page is 0xFF, else 3
abbrev pub marker_state : Geometry → List ℕ → ℕ
marker_state g cells = if marker_byte g cells == 0xff then 0 else 3
