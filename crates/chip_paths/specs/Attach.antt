-- Attaching a chip: the scan of the table blocks or of all markers, and the copies that are written
-- again (nand_bbt; which copy is written again and with which version is this project's own rule).
use Rattle.std.specs.Prelude.{ℕ, ◌==◌, if◌then◌else◌, List, map, ◌-◌, ◌++◌, take, drop, bit_or, [], ◌∷◌, true, false, not, Option, Some, None, Bool}
use Rattle.nand_model.specs.Page.{marker_byte}
use Rattle.chip_paths.specs.Writing.{Places, WholeCopies, Writing, whole_count, writing_of, writing_path}
use Rattle.nand_model.specs.Sizes.{first_page, numbers_from}
use Rattle.nand_model.specs.Chip.{ReadEvent}
use Rattle.nand_model.specs.Path.{Path, Then, cells_of, Over}
use Rattle.chip_paths.specs.Copies.{rewritten, version_found, choice_of, used_copy, candidates, found, places_of}
use Rattle.nand_model.specs.Table.{Copy, table_blocks, has_tables}
use Rattle.nand_model.specs.declared.words.Choice.{Choice}
use Rattle.nand_model.specs.declared.words.Choice.TheVariants.{Primary as UsePrimary, Mirror as UseMirror, Neither}
use Rattle.nand_model.specs.declared.words.Origin.{Origin}
use Rattle.nand_model.specs.declared.words.Origin.TheVariants.{Primary as FromPrimary, Mirror as FromMirror, Markers}
use Rattle.nand_model.specs.declared.geometry.Geometry.{Geometry}
use Rattle.nand_model.specs.declared.words.Which.TheVariants.{Primary, Mirror}

-- where the table of an attach comes from
abbrev pub origin_of : Choice → Origin
origin_of (UsePrimary rewrite) = FromPrimary
origin_of (UseMirror rewrite) = FromMirror
origin_of Neither = Markers

-- 3 for a block whose marker byte is not 0xFF, else 0, from the first pages of all blocks
abbrev pub marker_table : Geometry → List (List ℕ) → List ℕ
marker_table g pages = map (λ cells. if marker_byte g cells == 0xff then 0 else 3) pages

-- the states with 2 ORed into the last four
abbrev pub with_reserved : Geometry → List ℕ → List ℕ
with_reserved g states = take (g.blocks - 4) states ++ map (λ s. bit_or s 2) (drop (g.blocks - 4) states)

-- the outcome of an attach: the table, the copy that it came from, the version, the places, and how
-- many copies are whole
pub record Attaching : Type 0 where
  pub table : List ℕ
  pub origin : Origin
  pub version : ℕ
  pub places : Places
  pub copies : ℕ

-- the first pages of these blocks are read in order
abbrev pub read_first_pages : {A : Type 0} → Geometry → List ℕ → List (List ℕ) → (List (List ℕ) → Path A) → Path A
read_first_pages g [] pages go_on = go_on pages
read_first_pages g (block ∷ blocks) pages go_on =
    Then (ReadEvent (first_page g block)) (λ answer. read_first_pages g blocks (pages ++ cells_of answer ∷ []) go_on)

-- the found copies that are not to be written again are whole
abbrev pub whole_at_first : Choice → WholeCopies
whole_at_first (UsePrimary rewrite) = record { primary = true; mirror = not rewrite }
whole_at_first (UseMirror rewrite) = record { primary = not rewrite; mirror = true }
whole_at_first Neither = record { primary = false; mirror = false }

-- the outcome of an attach whose writing has ended so
abbrev pub attaching_of : Choice → Writing → Attaching
attaching_of choice w =
    record {
      table = w.table;
      origin = origin_of choice;
      version = w.version;
      places = w.places;
      copies = whole_count w.whole;
    }

-- the copies that need it are written, under this version, with this table and the last four blocks
-- reserved
abbrev pub rewrite_copies : Geometry → Places → Choice → ℕ → List ℕ → Path Attaching
rewrite_copies g places choice version states =
    writing_path g (writing_of (with_reserved g states) version places (whole_at_first choice) (rewritten choice))
    (λ w. Over (attaching_of choice w))

-- the copy that is used, or the markers of all blocks where there is none
abbrev pub use_copy : Geometry → Places → Choice → Option (ℕ × Copy) → Path Attaching
use_copy g places choice (Some (block, copy)) = rewrite_copies g places choice copy.version copy.states
use_copy g places choice None =
    read_first_pages g (numbers_from 0 g.blocks) [] (λ pages. rewrite_copies g places choice 1 (marker_table g pages))

-- the copies that were found lead to the choice of one of them and to the writing of the others
abbrev pub use_found : Geometry → Places → Option (ℕ × Copy) → Option (ℕ × Copy) → Path Attaching
use_found g places primary mirror =
    let choice : Choice = choice_of (version_found primary) (version_found mirror) in
    use_copy g places choice (used_copy choice primary mirror)

-- an attach: with tables the last four blocks are scanned for copies, without them the markers of
-- all blocks are the table
abbrev pub attach_by : Bool → Geometry → Path Attaching
attach_by true g =
    read_first_pages g (table_blocks g) [] (λ pages.
    let cs : List (ℕ × List ℕ) = candidates g pages in
    use_found g (places_of g cs) (found g Primary cs) (found g Mirror cs))
attach_by false g =
    read_first_pages g (numbers_from 0 g.blocks) [] (λ pages.
    Over (record {
      table = marker_table g pages;
      origin = Markers;
      version = 0;
      places = record { primary = 0; mirror = 0 };
      copies = 0;
    }))

-- an attach of a chip
abbrev pub attach_path : Geometry → Path Attaching
attach_path g = attach_by (has_tables g) g
