-- Markings of blocks: begun and acknowledged, by the notes of all boots so far.
use Rattle.std.specs.Prelude.{ℕ, ◌+◌, Bool, false, ◌&&◌, ◌==◌, nat_lt, Option, Some, None, if◌then◌else◌, List, [], ◌∷◌, ◌++◌, true, ◌||◌, ◌<◌, ◌⊎◌, Contains, IsTrue}
use Rattle.std.specs.List.{list_any}
use Rattle.nand_model.specs.Partitions.{Partitions, part_of}
use Rattle.nand_model.specs.Sizes.{first_page}
use Rattle.nand_model.specs.Quiet.{is_table_block}
use Rattle.nand_model.specs.Table.{calls_bad}
use Rattle.nand_model.specs.declared.words.Part.{Part}
use Rattle.nand_model.specs.declared.words.Op.{Op}
use Rattle.nand_model.specs.declared.words.Op.TheVariants.{Mark}
use Rattle.nand_model.specs.declared.words.Reply.{Reply}
use Rattle.nand_model.specs.declared.words.Note.{Note}
use Rattle.nand_model.specs.declared.words.Note.TheVariants.{Answered, Began, Torn}
use Rattle.nand_model.specs.declared.words.Reply.TheVariants.{OutOfRange, Reserved, Copies, Done}
use Rattle.nand_model.specs.declared.geometry.Geometry.{Geometry}
use Rattle.nand_model.specs.declared.words.Event.{Event}
use Rattle.nand_model.specs.declared.words.Event.TheVariants.{Read as ReadOf, Program as ProgramOf, Erase as EraseOf}

-- block n of the partition is block b of chip k
abbrev pub is_block_of : Option Part → ℕ → ℕ → ℕ → Bool
is_block_of None block k b = false
is_block_of (Some part) block k b = part.chip == k && nat_lt block part.count && part.start + block == b

-- the operation is a mark of block b of chip k
abbrev pub is_mark_of : Partitions → ℕ → ℕ → Op → Bool
is_mark_of partitions k b (Mark dev block) = is_block_of (part_of partitions dev) block k b
is_mark_of partitions k b _ = false

-- the first answer to a session in these notes
abbrev pub answer_in : ℕ → List Note → Option Reply
answer_in session [] = None
answer_in session (Answered s reply ∷ notes) = if s == session then Some reply else answer_in session notes
answer_in session (_ ∷ notes) = answer_in session notes

-- what came of each mark of the block
abbrev pub marks_in : Partitions → ℕ → ℕ → List Note → List (Option Reply)
marks_in partitions k b [] = []
marks_in partitions k b (Began session op ∷ notes) =
    (if is_mark_of partitions k b op then answer_in session notes ∷ [] else []) ++ marks_in partitions k b notes
marks_in partitions k b (_ ∷ notes) = marks_in partitions k b notes

-- a marking begins, unless it is answered out of range, reserved or too few copies
abbrev pub begins : Option Reply → Bool
begins None = true
begins (Some OutOfRange) = false
begins (Some Reserved) = false
begins (Some (Copies n)) = false
begins (Some _) = true

-- an erase of the block, or a program of its first page, failed: of one of the last four blocks
-- that is in a writing of tables, since nothing else erases or programs these
abbrev pub is_failure_at : Geometry → ℕ → Event → Bool
is_failure_at g b (ReadOf page) = false
is_failure_at g b (ProgramOf page) = page == first_page g b
is_failure_at g b (EraseOf block) = block == b

-- the note says that an erase of the block, or a program of its first page, failed
abbrev pub is_failure_note : Geometry → ℕ → ℕ → Note → Bool
is_failure_note g k b (Torn chip number event false fairness) = chip == k && is_failure_at g b event
is_failure_note g k b _ = false

-- the block is one of the last four of a chip with tables, and failed in a writing of these notes
abbrev pub failed_in_writing : Geometry → ℕ → ℕ → List Note → Bool
failed_in_writing g k b notes = is_table_block g b && list_any (is_failure_note g k b) notes

-- a mark was done
abbrev pub is_acknowledgement : Option Reply → Bool
is_acknowledgement (Some Done) = true
is_acknowledgement _ = false

-- the marking of block b of chip k has begun, and was acknowledged, in the notes of one boot. A
-- block of the last four that failed in a writing counts as begun
abbrev pub marking_began : Geometry → Partitions → ℕ → ℕ → List Note → Bool
marking_began g partitions k b notes = list_any begins (marks_in partitions k b notes) || failed_in_writing g k b notes

-- the marking of block b of chip k was acknowledged in the notes of one boot
abbrev pub marking_acknowledged : Partitions → ℕ → ℕ → List Note → Bool
marking_acknowledged partitions k b notes = list_any is_acknowledgement (marks_in partitions k b notes)

-- an attach's table shows bad each factory-bad block and each whose marking was acknowledged in the
-- boots before, and none beyond these and those whose marking has begun, in these boots or in the
-- notes of this boot before the attach's own
pub record ShowsMarks (g : Geometry) (partitions : Partitions) (k : ℕ) (factory_bad : List ℕ)
    (boots : List (List Note)) (before : List Note) (states : List ℕ) : Type 0 where
  pub factory : (b : ℕ) → b < g.blocks → Contains factory_bad b → IsTrue (calls_bad states b)
  pub acknowledged : (b : ℕ) → b < g.blocks → IsTrue (list_any (marking_acknowledged partitions k b) boots)
      → IsTrue (calls_bad states b)
  pub no_other : (b : ℕ) → b < g.blocks → IsTrue (calls_bad states b) → Contains factory_bad b
      ⊎ IsTrue (list_any (marking_began g partitions k b) (boots ++ before ∷ []))
