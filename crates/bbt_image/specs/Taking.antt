-- What is answered to a page that may hold a copy of a table.
use Rattle.std.specs.Prelude.{◌≡◌, ◌≢◌, ℕ, true, false, ◌==◌, List, Some, Result, Ok, Err}
use Rattle.nand_model.specs.Page.{decoded}
use Rattle.nand_model.specs.Table.{copy_in, copy_of_kind, has_no_pattern}
use Rattle.nand_model.specs.declared.geometry.Geometry.{Geometry}
use Rattle.nand_model.specs.declared.words.Which.{Which}
use Rattle.bbt_image.specs.declared.errors.NoCopy.{NoCopy}
use Rattle.bbt_image.specs.declared.errors.NoCopy.TheVariants.{NoPattern, Unreadable}

-- the page holds no pattern where one is looked for, by the place of its header
abbrev pub HasNoPattern : Geometry → List ℕ → Type 0
HasNoPattern g cells = has_no_pattern (g.bbt == 1) g cells ≡ true

-- a step of the page cannot be decoded, and it is not that there is no pattern
abbrev pub IsUnreadable : Geometry → List ℕ → Type 0
IsUnreadable g cells =
    (has_no_pattern (g.bbt == 1) g cells ≡ false) × ((decoded g cells).failed ≢ 0)

-- the page holds a copy of this kind and version, with these states
abbrev pub HoldsCopy : Geometry → List ℕ → Which × ℕ → List ℕ → Type 0
HoldsCopy g cells found states =
    copy_in g cells ≡ Some (record { which = found.0; version = found.1; states = states })

-- the kind of the copy in a page, all of whose steps can be decoded, or why there is none
abbrev pub TellsKind : Geometry → List ℕ → Result Which NoCopy → Type 0
TellsKind g cells (Ok which) =
    (copy_in g cells ≡ copy_of_kind g (decoded g cells) (Some which))
    × ((decoded g cells).failed ≡ 0)
TellsKind g cells (Err NoPattern) = HasNoPattern g cells
TellsKind g cells (Err Unreadable) = IsUnreadable g cells
