-- The marks of a chip with tables: which block an operation marks, and what begins and is
-- acknowledged by it; which of the last four blocks fail in a writing.
use Rattle.std.specs.Prelude.{◌≡◌, ◌⊎◌, ℕ, ◌+◌, Bool, true, nat_lt, if◌then◌else◌, List, [], ◌∷◌, Option, Some, None}
use Rattle.nand_model.specs.Sizes.{first_page}
use Rattle.nand_model.specs.Chip.{ChipState, FaultModel, ChipEvent, Complete, EraseEvent, ProgramEvent, happens}
use Rattle.nand_model.specs.Path.{answer_to, is_failure}
use Rattle.nand_model.specs.Table.{table_blocks}
use Rattle.nand_model.specs.Partitions.{Partitions, part_of, device_of}
use Rattle.nand_model.specs.declared.words.Part.{Part}
use Rattle.nand_model.specs.declared.words.Op.{Op}
use Rattle.nand_model.specs.declared.words.Op.TheVariants.{Mark}
use Rattle.nand_model.specs.declared.geometry.Geometry.{Geometry}
use Rattle.nand_model.specs.declared.words.Reply.{Reply}
use Rattle.nand_model.specs.declared.words.Reply.TheVariants.{Done}
use Rattle.run_model.specs.Marking.{begins}
use Rattle.page_laws.specs.Keeping.{IsIn}

-- a marking has begun with this reply
abbrev pub is_begun : Reply → Bool
is_begun reply = begins (Some reply)

-- the chip's block with this number of the partition
abbrev pub block_in : Option Part → ℕ → Option ℕ
block_in None block = None
block_in (Some part) block = if nat_lt block part.count then Some (part.start + block) else None

-- the block that an operation on this partition marks
abbrev pub block_of : Option Part → Op → Option ℕ
block_of part (Mark dev block) = block_in part block
block_of part _ = None

-- the block that an operation marks, if it is a mark of one
abbrev pub block_marked : Partitions → Op → Option ℕ
block_marked partitions op = block_of (part_of partitions (device_of op)) op

-- the block's marking is acknowledged by this reply
abbrev pub NowAcked : Partitions → Op → Option Reply → ℕ → Type 0
NowAcked partitions op reply b = (block_marked partitions op ≡ Some b) × (reply ≡ Some Done)

-- the block's marking has begun with this reply or the lack of one
abbrev pub NowBegun : Partitions → Op → Option Reply → ℕ → Type 0
NowBegun partitions op reply b = (block_marked partitions op ≡ Some b) × (begins reply ≡ true)

module _ {W : Type 0} (model : FaultModel W) (g : Geometry) where
  -- an erase of the block, or a program of its first page, failed in this trace
  abbrev pub FailsIn : ChipState W → List ChipEvent → ℕ → Type 0
  FailsIn s [] b = ⊥
  FailsIn s (Complete (EraseEvent x) ∷ trace) b =
      ((is_failure (answer_to model s (EraseEvent x)) ≡ true) × (b ≡ x))
      ⊎ FailsIn (happens model s (Complete (EraseEvent x))) trace b
  FailsIn s (Complete (ProgramEvent page image) ∷ trace) b =
      ((is_failure (answer_to model s (ProgramEvent page image)) ≡ true) × (page ≡ first_page g b))
      ⊎ FailsIn (happens model s (Complete (ProgramEvent page image))) trace b
  FailsIn s (e ∷ trace) b = FailsIn (happens model s e) trace b

  -- one of the last four blocks failed in a writing of this trace
  abbrev pub TableBlockFails : ChipState W → List ChipEvent → ℕ → Type 0
  TableBlockFails s trace b = IsIn (table_blocks g) b × FailsIn s trace b
