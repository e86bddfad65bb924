-- What an attach is at, and what is left of it.
use Rattle.std.specs.Prelude.{◌≡◌, ℕ, ◌-◌, ◌<◌, ⊤, Bool, true, false, List, [], ◌∷◌, ◌++◌, take, drop}
use Rattle.std.specs.Coded.{Unit-prop}
use Rattle.std.proofs.Props.{props}
use Rattle.nand_model.specs.Chip.{ReadEvent}
use Rattle.nand_model.specs.Path.{Path, Over, Then, cells_of}
use Rattle.nand_model.specs.Sizes.{first_page, numbers_from}
use Rattle.nand_model.specs.Table.{Copy, has_tables, table_blocks}
use Rattle.chip_paths.specs.Attach.{Attaching, rewrite_copies}
use Rattle.chip_paths.specs.Writing.{Places, Writing, whole_count, writing_path}
use Rattle.nand_model.specs.declared.geometry.Geometry.{Geometry}
use Rattle.nand_model.specs.declared.words.Choice.TheVariants.{Neither}
use Rattle.nand_model.specs.declared.words.Origin.{Origin}
use Rattle.nand_model.specs.declared.words.Origin.TheVariants.{Markers}
use Rattle.bbt_flash.specs.Copies.{places_in}
use Rattle.bbt_flash.specs.Held.{copies_of, new_candidates, new_copies, use_copies}
use Rattle.bbt_flash.specs.Markers.{marker_state}
use Rattle.bbt_flash.specs.Update.{update_sizes, update_writing}
use Rattle.bbt_flash.specs.declared.step.Scan.{Scan}
use Rattle.bbt_flash.specs.declared.step.Step.{Step}
use Rattle.bbt_flash.specs.declared.step.Step.TheVariants.{Searching, Scanning, Writing as IsWriting, Over as IsOver}
use Rattle.bbt_flash.specs.declared.search.Search.{Search}

-- the first pages of these blocks are still to be read for their markers, and those before them
-- gave these states
abbrev pub scan_left : {A : Type 0} → (List ℕ → Path A) → Geometry → List ℕ → List ℕ → Path A
scan_left go_on g states [] = go_on states
scan_left go_on g states (block ∷ blocks) =
    Then (ReadEvent (first_page g block)) (λ answer.
    scan_left go_on g (states ++ marker_state g (cells_of answer) ∷ []) blocks)

-- the first pages of these blocks are still to be searched, and those before them gave these copies
-- and candidates
abbrev pub search_left : Geometry → List (ℕ × Copy) → List ℕ → List ℕ → Path Attaching
search_left g copies candidates [] = use_copies g copies candidates
search_left g copies candidates (block ∷ blocks) =
    Then (ReadEvent (first_page g block)) (λ answer.
    search_left g (copies ++ new_copies g block (cells_of answer))
    (candidates ++ new_candidates g block (cells_of answer)) blocks)

-- an attach by the markers alone that found these states
abbrev pub attached_by_markers : List ℕ → Attaching
attached_by_markers states =
    record { table = states; origin = Markers; version = 0; places = record { primary = 0; mirror = 0 }; copies = 0 }

-- the states of all markers are known: with tables, both copies are written
abbrev pub after_markers : Bool → Geometry → Places → List ℕ → Path Attaching
after_markers true g places states = rewrite_copies g places Neither 1 states
after_markers false g places states = Over (attached_by_markers states)

-- the outcome of an attach from this origin whose writing has ended so
abbrev pub attaching_from : Origin → Writing → Attaching
attaching_from origin w =
    record {
      table = w.table;
      origin = origin;
      version = w.version;
      places = w.places;
      copies = whole_count w.whole;
    }

-- what is left at a step, where this is the table so far
abbrev pub step_left : Geometry → List ℕ → Step → Path Attaching
step_left g table (Searching search) =
    search_left g (copies_of search.helds.items) search.candidates.items (drop search.next (table_blocks g))
step_left g table (Scanning scan) =
    scan_left (after_markers (has_tables g) g (places_in scan.places)) g (take scan.next table)
    (numbers_from scan.next (g.blocks - scan.next))
step_left g table (IsWriting rewriting) =
    writing_path g (update_writing rewriting.update table) (λ w. Over (attaching_from rewriting.origin w))
step_left g table IsOver = Over (attached_by_markers table)

-- a block is still to be scanned, and the places are there
pub record ScanFits (g : Geometry) (scan : Scan) : Type 0 where
  pub next : scan.next < g.blocks
  pub primary : scan.places.primary < g.blocks
  pub mirror : scan.places.mirror < g.blocks

-- a block is still to be searched, on a chip of these sizes
pub record SearchFits (g : Geometry) (search : Search) : Type 0 where
  pub sizes : search.geometry ≡ g
  pub next : search.next < 4

-- what a step holds fits the chip
abbrev pub StepFits : Geometry → Step → Type 0
StepFits g (Searching search) = SearchFits g search
StepFits g (Scanning scan) = ScanFits g scan
StepFits g (IsWriting rewriting) = update_sizes rewriting.update ≡ g
StepFits g IsOver = ⊤

pub StepFits-prop : (g : Geometry) (step : Step) → IsProp (StepFits g step)
StepFits-prop g (Searching search) = hlevel props
StepFits-prop g (Scanning scan) = hlevel props
StepFits-prop g (IsWriting rewriting) = hlevel props
StepFits-prop g IsOver = Unit-prop
