-- What the last four blocks of a chip may hold between any two events.
--
--   at rest           nothing is held and nothing was acknowledged; or one copy is the newest
--                     (Newest): every other one calls bad no more than it does, and stands in a
--                     block that it calls bad, but for at most one of the other kind, 0 to 3
--                     versions older
--   within a writing  the place that is written holds its old copy or nothing (Pending); every copy
--                     calls bad no more than the table that is written; outside the place, only the
--                     other place may hold a copy in a block that this table does not call bad
--   after a writing   both places hold the table under one version (HoldsBoth); or the writing has
--                     failed, and the chip is at rest
--
-- A copy has the table in memory that it was written from, its last four entries reserved.
use Rattle.std.specs.Prelude.{◌≡◌, ◌≢◌, ◌⊎◌, ℕ, ◌+◌, ◌%◌, ◌<◌, ◌≤◌, true, false, ◌==◌, if◌then◌else◌, List, [], ◌∷◌, Option, Some, None}
use Rattle.chip_paths.specs.Writing.{Places, place_of, marked, Writing, other_of, is_whole, next_place}
use Rattle.nand_model.specs.declared.geometry.Geometry.{Geometry}
use Rattle.nand_model.specs.declared.words.Which.{Which}
use Rattle.nand_model.specs.Table.{calls_bad}

-- a copy on flash, by the table in memory that it was written from
pub record Held : Type 0 where
  pub which : Which
  pub version : ℕ
  pub table : List ℕ

-- the copy that each block holds
abbrev pub Shelf : Type 0
Shelf = ℕ → Option Held

-- the shelf with another copy, or none, in this block
abbrev pub with_held : Shelf → ℕ → Option Held → Shelf
with_held holds block copy b = if b == block then copy else holds b

-- nothing is held
abbrev pub IsEmpty : Shelf → Type 0
IsEmpty holds = (b : ℕ) → holds b ≡ None

-- a block other than b holds a copy, and no copy calls that block bad
pub record HoldsBeside (holds : Shelf) (b : ℕ) : Type 0 where
  pub block : ℕ
  pub copy : Held
  pub apart : block ≢ b
  pub at : holds block ≡ Some copy
  pub uncalled : (x : ℕ) (other : Held) → holds x ≡ Some other → calls_bad other.table block ≡ false

-- while block b is changed nothing is lost: it holds nothing, or a block beside it holds a copy
abbrev pub IsAside : Shelf → ℕ → Type 0
IsAside holds b = (holds b ≡ None) ⊎ HoldsBeside holds b

-- the old copy is at most so many versions older, and of equal versions the tables are equal
pub record IsOlder (most : ℕ) (old new : Held) : Type 0 where
  pub steps : ℕ
  pub few : steps ≤ most
  pub version : new.version ≡ (old.version + steps) % 256
  pub same : steps ≡ 0 → old.table ≡ new.table

-- each block that the one table calls bad, the other does too
abbrev pub IsCovered : List ℕ → List ℕ → Type 0
IsCovered less more = (b : ℕ) → calls_bad less b ≡ true → calls_bad more b ≡ true

-- What is to be known of tables, where TB are the blocks that tables stand in, Failed those that
-- failed in a writing, Form says how a table in memory looks, and Good that it shows what it
-- should.
pub record TableLaws (g : Geometry) (TB Failed : ℕ → Type 0) (Form Good : List ℕ → Type 0) : Type 0 where
  -- the block that takes the place of a failed one is a table block, not called bad, and not the
  -- other place
  pub place : (table : List ℕ) (other b : ℕ) → Good table → next_place g table other ≡ Some b
      → TB b × (calls_bad table b ≡ false) × (b ≢ other)
  -- a table in which a failed block is called bad still has its form, and shows what it should
  pub form : (table : List ℕ) (b : ℕ) → TB b → Form table → Form (marked table b)
  pub good : (table : List ℕ) (b : ℕ) → TB b → Form table → Failed b → Good table → Good (marked table b)
  -- it calls that block bad, each block that it called bad before, and no other
  pub hit : (table : List ℕ) (b : ℕ) → TB b → Form table → calls_bad (marked table b) b ≡ true
  pub grows : (table : List ℕ) (b c : ℕ) → calls_bad table c ≡ true → calls_bad (marked table b) c ≡ true
  pub stays : (table : List ℕ) (b c : ℕ) → c ≢ b → calls_bad (marked table b) c ≡ calls_bad table c

module _ (TB : ℕ → Type 0) (Form Good : List ℕ → Type 0) where
  -- a copy stands in a table block, under a version of a byte, and calls no block bad that this
  -- table does not
  pub record IsBeneath (table : List ℕ) (b : ℕ) (c : Held) : Type 0 where
    pub inside : TB b
    pub version : c.version < 256
    pub form : Form c.table
    pub covered : IsCovered c.table table

  -- an older copy beside the newest one: it stands in the second place, is of the other kind, at
  -- most three versions older, and shows what it should
  abbrev pub IsSecond : Held → ℕ → ℕ → Held → Type 0
  IsSecond newest second b c = (b ≡ second) × (c.which ≡ other_of newest.which) × IsOlder 3 c newest × Good c.table

  -- There is a newest copy.
  pub record Newest (holds : Shelf) : Type 0 where
    -- it shows what it should, and does not call its own block bad
    pub place : ℕ
    pub copy : Held
    pub at : holds place ≡ Some copy
    pub own : calls_bad copy.table place ≡ false
    pub shows : Good copy.table
    pub second : ℕ
    -- there is one more block that it does not call bad
    pub spare : ℕ
    pub spare_inside : TB spare
    pub spare_apart : spare ≢ place
    pub spare_free : calls_bad copy.table spare ≡ false
    -- no copy calls bad what it does not
    pub beneath : (b : ℕ) (c : Held) → holds b ≡ Some c → IsBeneath copy.table b c
    -- it calls bad the block of every other copy but one
    pub others : (b : ℕ) (c : Held) → holds b ≡ Some c → b ≢ place
        → (calls_bad copy.table b ≡ true) ⊎ IsSecond copy second b c

  module _ (Fresh : Type 0) where
    -- The invariant between any two events: nothing is held yet, or there is a newest copy.
    abbrev pub Rests : Shelf → Type 0
    Rests holds = (IsEmpty holds × Fresh) ⊎ Newest holds

    -- the copy of this kind as the writing writes it
    abbrev pub image_of : Writing → Which → Held
    image_of w which = record { which = which; version = w.version; table = w.table }

    -- an older copy beside a writing: each change of place that is still to come may put one more
    -- version between them
    abbrev pub IsWithin : Writing → Held → Held → Type 0
    IsWithin w old new =
        (steps : ℕ) × (steps + w.chances ≤ 3) × (new.version ≡ (old.version + steps) % 256)
        × (steps ≡ 0 → old.table ≡ new.table)

    -- the places are two table blocks that the table does not call bad
    pub record PlacesFit (table : List ℕ) (places : Places) : Type 0 where
      pub inside : (which : Which) → TB (place_of places which)
      pub free : (which : Which) → calls_bad table (place_of places which) ≡ false
      pub apart : (which : Which) → place_of places which ≢ place_of places (other_of which)

    -- a table that may be written
    pub record Writable (table : List ℕ) (version : ℕ) : Type 0 where
      pub byte : version < 256
      pub form : Form table
      pub shows : Good table

    -- a copy in the other place of a writing, of the other kind and a few versions older
    abbrev pub IsOtherCopy : Writing → Which → ℕ → Held → Type 0
    IsOtherCopy w which b c =
        (b ≡ place_of w.places (other_of which)) × (c.which ≡ other_of which)
        × IsWithin w c (image_of w which) × Good c.table

    -- no copy comes after this one: the other copy is written already, with this table and version
    abbrev pub IsLastCopy : Writing → Which → List Which → Shelf → Type 0
    IsLastCopy w which more holds =
        (more ≡ []) × (holds (place_of w.places (other_of which)) ≡ Some (image_of w (other_of which)))
        × (is_whole w.whole (other_of which) ≡ true)

    -- A writing is at the copy of this kind, with these copies after it.
    pub record Pending (w : Writing) (which : Which) (more : List Which) (holds : Shelf) : Type 0 where
      pub writable : Writable w.table w.version
      pub places : PlacesFit w.table w.places
      pub few : w.chances ≤ 2
      -- the chip may rest as it is, and also without what the place holds
      pub resting : Rests holds
      pub clear : Rests (with_held holds (place_of w.places which) None)
      pub kept : IsEmpty (with_held holds (place_of w.places which) None) → IsEmpty holds
      -- no copy calls bad what the table does not
      pub beneath : (b : ℕ) (c : Held) → holds b ≡ Some c → IsBeneath w.table b c
      -- the table calls bad the block of every copy outside the place, but for the other copy
      pub others : (b : ℕ) (c : Held) → holds b ≡ Some c → b ≢ place_of w.places which
          → (calls_bad w.table b ≡ true) ⊎ IsOtherCopy w which b c
      -- the other copy comes next, or is written already
      pub goes_on : (more ≡ other_of which ∷ []) ⊎ IsLastCopy w which more holds
      pub going : w.failed ≡ None
      -- once the place is erased it holds nothing; while it holds a copy, the other place does too
      pub blank : w.erased ≡ true → holds (place_of w.places which) ≡ None
      pub aside : (holds (place_of w.places which) ≡ None)
          ⊎ ((c : Held) × (holds (place_of w.places (other_of which)) ≡ Some c))

    -- Both places hold the table, and every other copy stands in a block that it calls bad.
    pub record HoldsBoth (table : List ℕ) (version : ℕ) (places : Places) (holds : Shelf) : Type 0 where
      pub writable : Writable table version
      pub fit : PlacesFit table places
      pub at : (which : Which) → holds (place_of places which)
          ≡ Some (record { which = which; version = version; table = table })
      pub beneath : (b : ℕ) (c : Held) → holds b ≡ Some c → IsBeneath table b c
      pub others : (b : ℕ) (c : Held) → holds b ≡ Some c → b ≢ places.primary → b ≢ places.mirror
          → calls_bad table b ≡ true

    -- a writing that is over: it ended well, or it failed for one of the copies
    abbrev pub Ended : Writing → Option Which → Shelf → Type 0
    Ended w None holds =
        HoldsBoth w.table w.version w.places holds × ((which : Which) → is_whole w.whole which ≡ true)
    Ended w (Some which) holds = Rests holds × (is_whole w.whole which ≡ false) × Good w.table × Form w.table

    -- The invariant within a writing that has come so far.
    abbrev pub Keeps : Writing → List Which → Shelf → Type 0
    Keeps w [] holds = Ended w w.failed holds
    Keeps w (which ∷ more) holds = Pending w which more holds
