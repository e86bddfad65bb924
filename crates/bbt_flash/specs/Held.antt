-- The copies that a search of the table blocks has read so far, and what follows from them.
use Rattle.std.specs.Prelude.{◌≡◌, ℕ, ◌<◌, Bool, not, ◌&&◌, ◌==◌, if◌then◌else◌, List, [], ◌∷◌, map, length, slice_get, Option, Some, None, option_map}
use Rattle.std.specs.List.{list_any}
use Rattle.nand_model.specs.Page.{marker_byte}
use Rattle.nand_model.specs.Path.{Path}
use Rattle.nand_model.specs.Table.{Copy, calls_bad, copy_in, same_which}
use Rattle.chip_paths.specs.Attach.{Attaching, use_found}
use Rattle.chip_paths.specs.Copies.{found_among, places_for, with_copy}
use Rattle.nand_model.specs.declared.geometry.Geometry.{Geometry}
use Rattle.nand_model.specs.declared.words.Which.{Which}
use Rattle.nand_model.specs.declared.words.Which.TheVariants.{Primary, Mirror}
use Rattle.bbt_flash.specs.declared.held.Held.{Held}

-- a copy with its block
abbrev pub held_copy : Held → ℕ × Copy
held_copy held = (held.block, record { which = held.which; version = held.version; states = held.table })

-- the copies with their blocks
abbrev pub copies_of : List Held → List (ℕ × Copy)
copies_of helds = map held_copy helds

-- a copy in a block that is there, with a state for each block
pub record HeldFits (blocks : ℕ) (held : Held) : Type 0 where
  pub there : held.block < blocks
  pub whole : length held.table ≡ blocks

-- the copy of another block calls this block bad
abbrev pub calls_other_bad : ℕ → Held → Bool
calls_other_bad block held = not (held.block == block) && calls_bad held.table block

-- a copy of this kind that no other one disowns
abbrev pub is_valid_held : List Held → Which → Held → Bool
is_valid_held helds which held =
    same_which held.which which && not (list_any (calls_other_bad held.block) helds)

-- the copy at this place of the list
abbrev pub copy_at : List Held → Option ℕ → Option (ℕ × Copy)
copy_at helds None = None
copy_at helds (Some place) = option_map held_copy (slice_get helds place)

-- what a block's first page adds to the candidates
abbrev pub new_candidates : Geometry → ℕ → List ℕ → List ℕ
new_candidates g block cells = if marker_byte g cells == 0xff then block ∷ [] else []

-- what a block's first page adds to the copies
abbrev pub new_copies : Geometry → ℕ → List ℕ → List (ℕ × Copy)
new_copies g block cells = if marker_byte g cells == 0xff then with_copy block (copy_in g cells) [] else []

-- what is left of an attach once all table blocks were read, by the copies and the candidates'
-- blocks
abbrev pub use_copies : Geometry → List (ℕ × Copy) → List ℕ → Path Attaching
use_copies g copies blocks =
    let primary : Option (ℕ × Copy) = found_among copies Primary in
    let mirror : Option (ℕ × Copy) = found_among copies Mirror in
    use_found g (places_for g blocks primary mirror) primary mirror
