-- A writing of copies of a table. A block that fails is called bad in the table, and another of the
-- last four takes its place (all rules here are this project's own).
use Rattle.std.specs.Prelude.{ℕ, zero, suc, ◌+◌, ◌*◌, ◌%◌, Bool, true, false, not, ◌&&◌, ◌==◌, List, [], ◌∷◌, length, find, slice_index, slice_set, Option, Some, None, bit_or}
use Rattle.nand_model.specs.Sizes.{first_page}
use Rattle.nand_model.specs.Table.{table_page, table_blocks}
use Rattle.nand_model.specs.Chip.{PageEvent, ProgramEvent, EraseEvent}
use Rattle.nand_model.specs.Path.{Answer, Path, Then, is_good}
use Rattle.nand_model.specs.declared.geometry.Geometry.{Geometry}
use Rattle.nand_model.specs.declared.words.Which.{Which}
use Rattle.nand_model.specs.declared.words.Which.TheVariants.{Primary, Mirror}

-- the blocks of the two copies
pub record Places : Type 0 where
  pub primary : ℕ
  pub mirror : ℕ

-- the place of a copy
abbrev pub place_of : Places → Which → ℕ
place_of places Primary = places.primary
place_of places Mirror = places.mirror

-- the table with 1 ORed into an entry
abbrev pub marked : List ℕ → ℕ → List ℕ
marked table block = slice_set table block (bit_or (slice_index table block) 1)

-- the next version: 255 becomes 0
abbrev pub next_version : ℕ → ℕ
next_version v = (v + 1) % 256

-- the other kind of copy
abbrev pub other_of : Which → Which
other_of Primary = Mirror
other_of Mirror = Primary

-- the places with the copy of this kind at another block
abbrev pub with_place : Places → Which → ℕ → Places
with_place places Primary block = record places { primary = block }
with_place places Mirror block = record places { mirror = block }

-- which of the two copies are whole
pub record WholeCopies : Type 0 where
  pub primary : Bool
  pub mirror : Bool

-- the copies with one of them whole or not
abbrev pub with_whole : WholeCopies → Which → Bool → WholeCopies
with_whole whole Primary is_whole = record whole { primary = is_whole }
with_whole whole Mirror is_whole = record whole { mirror = is_whole }

-- whether a copy is whole
abbrev pub is_whole : WholeCopies → Which → Bool
is_whole whole Primary = whole.primary
is_whole whole Mirror = whole.mirror

-- one where it is so
abbrev pub count_if : Bool → ℕ
count_if true = 1
count_if false = 0

-- how many copies are whole
abbrev pub whole_count : WholeCopies → ℕ
whole_count whole = count_if whole.primary + count_if whole.mirror

-- how far a writing has come: the table, the version and the places in force; which copies are
-- whole; the copies still to be written, and whether the block of the first of these was erased;
-- how many more blocks may take the place of one that failed; and the copy for which the writing
-- has failed
pub record Writing : Type 0 where
  pub table : List ℕ
  pub version : ℕ
  pub places : Places
  pub whole : WholeCopies
  pub left : List Which
  pub erased : Bool
  pub chances : ℕ
  pub failed : Option Which

-- a writing at its start. Two of the last four blocks are the places, so at most two more can take
-- the place of one that failed
abbrev pub writing_of : List ℕ → ℕ → Places → WholeCopies → List Which → Writing
writing_of table version places whole left =
    record {
      table = table;
      version = version;
      places = places;
      whole = whole;
      left = left;
      erased = false;
      chances = 2;
      failed = None;
    }

-- the block that takes the place of one that failed: the highest of the last four whose entry is 2
-- and that is not the other copy's place
abbrev pub next_place : Geometry → List ℕ → ℕ → Option ℕ
next_place g table other = find (λ block. slice_index table block == 2 && not (block == other)) (table_blocks g)

-- the copy goes to this block under the next version, and then the other one is written again
abbrev pub moved : Writing → Which → Option ℕ → ℕ → Writing
moved w which (Some block) (suc chances) =
    record w {
      version = next_version w.version;
      places = with_place w.places which block;
      left = which ∷ other_of which ∷ [];
      chances = chances;
    }
moved w which (Some block) zero = record w { left = []; failed = Some which }
moved w which None chances = record w { left = []; failed = Some which }

-- the block of a failed copy is retired: 1 is ORed into its entry, and the copy moves
abbrev pub with_retired : Geometry → Writing → Which → Writing
with_retired g w which =
    let table : List ℕ = marked w.table (place_of w.places which) in
    moved (record w { table = table; whole = with_whole w.whole which false; erased = false }) which
    (next_place g table (place_of w.places (other_of which))) w.chances

-- after a good erase the block is erased, and after a good program the copy is whole and leaves the
-- list
abbrev pub after_good : Writing → Which → List Which → Bool → Writing
after_good w which more false = record w { whole = with_whole w.whole which false; erased = true }
after_good w which more true = record w { whole = with_whole w.whole which true; left = more; erased = false }

-- a writing after its next event, which was good or failed
abbrev pub after_event : Geometry → Writing → Which → List Which → Bool → Writing
after_event g w which more true = after_good w which more w.erased
after_event g w which more false = with_retired g w which

-- a writing after its next event, where a copy is left
abbrev pub written_by : Geometry → Writing → List Which → Bool → Writing
written_by g w [] good = w
written_by g w (which ∷ more) good = after_event g w which more good

-- a writing after the answer to its next event
abbrev pub writing_after : Geometry → Writing → Answer → Writing
writing_after g w answer = written_by g w w.left (is_good answer)

-- the next event of a writing: the erase of the block of the first copy that is left, and, once it
-- is erased, the program of its first page with the table and the version
abbrev pub event_once : (erased : Bool) → Geometry → Writing → Which → PageEvent
event_once false g w which = EraseEvent (place_of w.places which)
event_once true g w which = ProgramEvent (first_page g (place_of w.places which)) (table_page g which w.version w.table)

-- and none where no copy is left: the writing is over
abbrev pub event_for : Geometry → Writing → List Which → Option PageEvent
event_for g w [] = None
event_for g w (which ∷ more) = Some (event_once w.erased g w which)

-- the next event of a writing
abbrev pub next_writing_event : Geometry → Writing → Option PageEvent
next_writing_event g w = event_for g w w.left

-- the next event of a writing with what follows it, or what follows the writing
abbrev pub writing_step : {A : Type 0} → Geometry → Writing → List Which → (Unit {0} → Path A) → (Answer → Path A)
    → Path A
writing_step g w [] over rest = over tt
writing_step g w (which ∷ more) over rest = Then (event_once w.erased g w which) rest

-- the rest of a writing, of at most so many events
abbrev pub writing_within : {A : Type 0} → ℕ → Geometry → Writing → (Writing → Path A) → Path A
writing_within zero g w go_on = go_on w
writing_within (suc n) g w go_on =
    writing_step g w w.left (λ u. go_on w) (λ answer. writing_within n g (writing_after g w answer) go_on)

-- two events for each copy that is left, and for both copies after each change of place
abbrev pub most_events : Writing → ℕ
most_events w = 2 * length w.left + 4 * w.chances

-- a writing, to its end
abbrev pub writing_path : {A : Type 0} → Geometry → Writing → (Writing → Path A) → Path A
writing_path g w go_on = writing_within (most_events w) g w go_on
