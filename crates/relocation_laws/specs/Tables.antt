-- Tables in memory, and what they are to show.
use Rattle.std.specs.Prelude.{◌≡◌, ◌⊎◌, ◌==◌, ℕ, ◌<◌, Bool, true, not, List, length, slice_index}
use Rattle.std.specs.List.{list_any}
use Rattle.nand_model.specs.Table.{calls_bad, read_again, table_blocks}
use Rattle.chip_paths.specs.Attach.{with_reserved}
use Rattle.nand_model.specs.declared.geometry.Geometry.{Geometry}
use Rattle.page_laws.specs.Keeping.{IsIn}

-- the block is not among the factory-bad ones
abbrev pub is_good_of : List ℕ → ℕ → Bool
is_good_of bad b = not (list_any (λ c. c == b) bad)

-- a table in memory has all blocks, comes back from its page once the last four blocks are
-- reserved, and has 2 or 3 for these
pub record IsTable (g : Geometry) (table : List ℕ) : Type 0 where
  pub long : length table ≡ g.blocks
  pub back : with_reserved g (read_again table) ≡ table
  pub reserved : (b : ℕ) → IsIn (table_blocks g) b → (slice_index table b ≡ 2) ⊎ (slice_index table b ≡ 3)

-- a table calls bad each factory-bad block and each one whose marking was acknowledged, and none
-- beyond factory-bad ones and those whose marking has begun
pub record Shows (g : Geometry) (Factory Acked Begun : ℕ → Type 0) (table : List ℕ) : Type 0 where
  pub factory : (b : ℕ) → b < g.blocks → Factory b → calls_bad table b ≡ true
  pub acked : (b : ℕ) → b < g.blocks → Acked b → calls_bad table b ≡ true
  pub no_other : (b : ℕ) → b < g.blocks → calls_bad table b ≡ true → Factory b ⊎ Begun b

-- the blocks that tables may stand in: those of the last four whose marker is good
abbrev pub IsTableBlock : Geometry → (ℕ → Bool) → ℕ → Type 0
IsTableBlock g is_good b = IsIn (table_blocks g) b × (is_good b ≡ true)
