-- Which blocks are in which partition.
use Rattle.std.specs.Prelude.{◌≡◌, ℕ, ◌+◌, ◌<◌, ◌≤◌, ◌⊎◌, List, slice_get, Some, ◌^◌, length, All, [], ◌∷◌, ◌++◌}
use Rattle.nand_model.specs.Partitions.{LiesWithin, Partitions}
use Rattle.nand_model.specs.declared.words.Part.{Part}

-- a block of a chip is in the partition
abbrev pub HasBlock : Part → (chip block : ℕ) → Type 0
HasBlock part chip block = (part.chip ≡ chip) × (part.start ≤ block) × (block < part.start + part.count)

-- some block is in both partitions
abbrev pub SharesBlock : Part → Part → Type 0
SharesBlock a b = (chip : ℕ) × (block : ℕ) × (HasBlock a chip block × HasBlock b chip block)

-- a partition has no block, or passes the end of a chip with so many blocks
abbrev pub LeavesChip : ℕ → Part → Type 0
LeavesChip blocks part = (part.count ≡ 0) ⊎ (blocks < part.start + part.count)

-- no block is in two partitions
abbrev pub AreApart : List Part → Type 0
AreApart parts = (i j : ℕ) (a b : Part) → slice_get parts i ≡ Some a → slice_get parts j ≡ Some b → SharesBlock a b → i ≡ j

-- the partitions of a controller: each lies within the largest chip, no block is in two of them,
-- and each has a device number
pub record ArePartitions (first : ℕ) (parts : List Part) : Type 0 where
  pub within : All (LiesWithin 4096) parts
  pub apart : AreApart parts
  pub numbered : first + length parts < 2 ^ 32

-- the partitions with one more at the end
abbrev pub with_part : Partitions → Part → Partitions
with_part partitions part = record partitions { parts = partitions.parts ++ part ∷ [] }
