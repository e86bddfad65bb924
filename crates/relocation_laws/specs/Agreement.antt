-- What an attach finds of the copies that the last four blocks hold, and how these agree.
use Rattle.std.specs.Prelude.{◌≡◌, ◌⊎◌, ℕ, ◌+◌, ◌%◌, ◌≤◌, true, false, List, [], ◌∷◌, Option, Some, None, Contains}
use Rattle.nand_model.specs.Table.{Copy, calls_bad, read_again, table_blocks}
use Rattle.nand_model.specs.declared.geometry.Geometry.{Geometry}
use Rattle.nand_model.specs.declared.words.Which.TheVariants.{Primary, Mirror}
use Rattle.chip_paths.specs.Copies.{choice_of, found_among, is_disowned, used_copy, version_found, with_copy}
use Rattle.relocation_laws.specs.Shelves.{Held, Shelf}

-- a copy as its page holds it: reserved entries are read as good
abbrev pub copy_as : Held → Copy
copy_as c = record { which = c.which; version = c.version; states = read_again c.table }

-- the copy in a page, where it holds one
abbrev pub copy_of : Option Held → Option Copy
copy_of None = None
copy_of (Some c) = Some (copy_as c)

-- the copies that these blocks hold, in this order, each with its block
abbrev pub listed : Shelf → List ℕ → List (ℕ × Copy)
listed holds [] = []
listed holds (b ∷ bs) = with_copy b (copy_of (holds b)) (listed holds bs)

-- the copies that an attach sees
abbrev pub copies_on : Geometry → Shelf → List (ℕ × Copy)
copies_on g holds = listed holds (table_blocks g)

-- the copy that is used of the two that were found
abbrev pub used_of : Option (ℕ × Copy) → Option (ℕ × Copy) → Option (ℕ × Copy)
used_of primary mirror = used_copy (choice_of (version_found primary) (version_found mirror)) primary mirror

-- the copy that an attach uses of these
abbrev pub used_among : List (ℕ × Copy) → Option (ℕ × Copy)
used_among held = used_of (found_among held Primary) (found_among held Mirror)

-- the version of one copy is so many steps before that of the other: 255 comes before 0
abbrev pub IsBefore : ℕ → Copy → Copy → Type 0
IsBefore steps earlier later = later.version ≡ (earlier.version + steps) % 256

-- of two found copies, one has a version at most three steps before the other's
abbrev pub VersionsAreClose : List (ℕ × Copy) → Type 0
VersionsAreClose held =
    (p m : ℕ) (primary mirror : Copy) →
    found_among held Primary ≡ Some (p, primary) → found_among held Mirror ≡ Some (m, mirror) →
    (steps : ℕ) × (steps ≤ 3) × (IsBefore steps primary mirror ⊎ IsBefore steps mirror primary)

-- two found copies of one version have one table
abbrev pub EqualVersionsEqualTables : List (ℕ × Copy) → Type 0
EqualVersionsEqualTables held =
    (p m : ℕ) (primary mirror : Copy) →
    found_among held Primary ≡ Some (p, primary) → found_among held Mirror ≡ Some (m, mirror) →
    primary.version ≡ mirror.version → primary.states ≡ mirror.states

-- the copy that is used calls bad each block that any copy calls bad, found or disowned
abbrev pub UsedCoversAll : List (ℕ × Copy) → Type 0
UsedCoversAll held =
    (n b : ℕ) (used copy : Copy) → used_among held ≡ Some (n, used) → Contains held (b, copy) →
    (c : ℕ) → calls_bad copy.states c ≡ true → calls_bad used.states c ≡ true

-- a disowned copy stands in a block that the copy in use calls bad
abbrev pub DisownedAreCalledBad : List (ℕ × Copy) → Type 0
DisownedAreCalledBad held =
    (n b : ℕ) (used copy : Copy) → used_among held ≡ Some (n, used) → Contains held (b, copy) →
    is_disowned held b ≡ true → calls_bad used.states b ≡ true

-- the copy in use does not call its own block bad
abbrev pub UsedStandsWell : List (ℕ × Copy) → Type 0
UsedStandsWell held = (n : ℕ) (used : Copy) → used_among held ≡ Some (n, used) → calls_bad used.states n ≡ false
