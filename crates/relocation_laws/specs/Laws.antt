-- The invariant of the last four blocks of a chip, by the numbers of its bad blocks, and what
-- writings keep of it.
use Rattle.std.specs.Prelude.{ℕ, List, None}
use Rattle.nand_model.specs.Path.{Over}
use Rattle.nand_model.specs.declared.geometry.Geometry.{Geometry}
use Rattle.chip_paths.specs.Writing.{Writing, writing_path}
use Rattle.page_laws.specs.Keeping.{IsIn}
use Rattle.relocation_laws.specs.Shelves.{Shelf, Rests, Keeps, Ended}
use Rattle.relocation_laws.specs.Goes.{Goes}
use Rattle.relocation_laws.specs.Tables.{IsTable, IsTableBlock, Shows, is_good_of}

-- the tables show these factory-bad and acknowledged blocks, and none beyond factory-bad and begun
-- ones
abbrev pub ShowsThese : Geometry → (bad acked begun : List ℕ) → List ℕ → Type 0
ShowsThese g bad acked begun = Shows g (IsIn bad) (IsIn acked) (IsIn begun)

-- nothing was acknowledged
abbrev pub IsNew : List ℕ → Type 0
IsNew acked = (b : ℕ) → IsIn acked b → ⊥

-- The invariant between any two events: nothing is held and nothing was acknowledged, or there is a
-- newest copy.
abbrev pub RestsWith : Geometry → (bad acked begun : List ℕ) → Shelf → Type 0
RestsWith g bad acked begun =
    Rests (IsTableBlock g (is_good_of bad)) (IsTable g) (ShowsThese g bad acked begun) (IsNew acked)

-- The invariant within a writing that has come so far.
abbrev pub WritingKeeps : Geometry → (bad acked begun : List ℕ) → Writing → Shelf → Type 0
WritingKeeps g bad acked begun w =
    Keeps (IsTableBlock g (is_good_of bad)) (IsTable g) (ShowsThese g bad acked begun) (IsNew acked) w w.left

-- Once a writing is over: both places hold the table under one version; or it failed for one of the
-- copies, and the invariant between events holds.
abbrev pub WritingEnds : Geometry → (bad acked begun : List ℕ) → Writing → Shelf → Type 0
WritingEnds g bad acked begun w =
    Ended (IsTableBlock g (is_good_of bad)) (IsTable g) (ShowsThese g bad acked begun) (IsNew acked) w w.failed

-- The writing goes to its end and keeps the invariant, whichever of its events fails or is cut: a
-- block that fails has begun to be bad.
abbrev pub WritingGoesOn : Geometry → (bad acked begun : List ℕ) → Writing → Shelf → Type 0
WritingGoesOn g bad acked begun w holds =
    Goes g (IsTableBlock g (is_good_of bad)) (IsIn begun) (IsTable g) (RestsWith g bad acked begun)
    (WritingEnds g bad acked begun) None holds (writing_path g w Over)
