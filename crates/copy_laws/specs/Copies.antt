-- How many of the two copies of a chip's table are whole, at each moment of a boot, and what the
-- next attach comes to.
use Rattle.std.specs.Prelude.{◌≡◌, ◌⊎◌, ℕ, ◌+◌, true, IsTrue, List, ◌∷◌, ◌++◌, length, drop, Some, None, slice_get}
use Rattle.nand_model.specs.Chip.{ChipState, FaultModel, SimFaults, sim_faults}
use Rattle.nand_model.specs.Partitions.{Partitions}
use Rattle.nand_model.specs.Table.{has_tables}
use Rattle.nand_model.specs.declared.geometry.Geometry.{Geometry}
use Rattle.nand_model.specs.declared.words.Note.{Note}
use Rattle.nand_model.specs.declared.words.Note.TheVariants.{Attached}
use Rattle.nand_model.specs.declared.words.Origin.{Origin}
use Rattle.nand_model.specs.declared.words.Origin.TheVariants.{Primary as FromPrimary}
use Rattle.nand_model.specs.declared.words.Weak.{Weak}
use Rattle.nand_model.specs.declared.words.Which.{Which}
use Rattle.chip_paths.specs.ChipRun.{ChipRun}
use Rattle.chip_paths.specs.Operation.{Known}
use Rattle.chip_paths.specs.Writing.{next_place, other_of, place_of}
use Rattle.command_model.specs.Boot.{Boot}
use Rattle.run_model.specs.Course.{Course, course_after, end_states}
use Rattle.run_model.specs.Marking.{failed_in_writing}
use Rattle.run_model.specs.Run.{HasTableBlocks, HoldsTheTable, IsFairAndQuietNow}
use Rattle.crash_laws.specs.Theorem.{IsNextBoot, IsRunOfNewChip, ends_of}

-- in these notes a writing has failed for one of the copies: the block in its place has failed, and
-- no other of the last four was left for it
pub record HasFailedForACopy (g : Geometry) (k : ℕ) (known : Known) (notes : List Note) : Type 0 where
  pub which : Which
  pub place_failed : IsTrue (failed_in_writing g k (place_of known.places which) notes)
  pub none_left : next_place g known.table (place_of known.places (other_of which)) ≡ None

-- a moment of a course at which chip k, which has tables, is attached: this is known of it then
pub record IsAttachedAt {W : Type 0} (course : Course W) (k : ℕ) (c : ChipRun W) (known : Known) : Type 0 where
  pub is_chip : slice_get course.chips k ≡ Some c
  pub is_known : c.known ≡ Some known
  pub tables : has_tables c.chip.geometry ≡ true

-- At each such moment of a boot: two copies are whole, or a writing of this boot has failed for one
-- of them.
abbrev pub TooFewCopiesFollowAFailure : {W : Type 0} → FaultModel W → Boot → List (ChipState W) → Type 0
TooFewCopiesFollowAFailure {W} model boot starts =
    (attaches k : ℕ) (turns : List ℕ) (c : ChipRun W) (known : Known) →
    IsAttachedAt (course_after model boot starts attaches turns) k c known →
    (known.copies ≡ 2)
    ⊎ HasFailedForACopy c.chip.geometry k known (course_after model boot starts attaches turns).notes

-- the notes of the second course that the first, from which it goes on, does not have
abbrev pub notes_since : {W : Type 0} → (first second : Course W) → List Note
notes_since first second = drop (length first.notes) second.notes

-- From each such moment at which two copies are whole and nothing is pending to each later one of
-- the boot: two copies are whole, or a writing has failed for one of them since.
abbrev pub OperationsKeepCopies : {W : Type 0} → FaultModel W → Boot → List (ChipState W) → Type 0
OperationsKeepCopies {W} model boot starts =
    (attaches more k : ℕ) (turns later : List ℕ) (before now : ChipRun W) (known after : Known) →
    IsAttachedAt (course_after model boot starts attaches turns) k before known →
    before.pending ≡ None → known.copies ≡ 2 →
    IsAttachedAt (course_after model boot starts (attaches + more) (turns ++ later)) k now after →
    (after.copies ≡ 2)
    ⊎ HasFailedForACopy now.chip.geometry k after
    (notes_since (course_after model boot starts attaches turns)
    (course_after model boot starts (attaches + more) (turns ++ later)))

-- In a further boot of a run since the chip was new: at each such moment at which nothing is
-- pending on the chip, both places hold the table in memory, or a writing of this boot has failed
-- for one of the copies.
abbrev pub WritingsEndWhole : Type 0
WritingsEndWhole =
    (partitions : Partitions) (news : List (ChipState SimFaults)) (boots : List Boot) (turns : List (List ℕ))
    (past : List (Course SimFaults)) (boot : Boot) (k : ℕ) (g : Geometry) (bad : List ℕ) (weak : List Weak) →
    IsRunOfNewChip partitions news boots turns past k g bad weak → IsNextBoot partitions k g boot (ends_of news past) →
    has_tables g ≡ true → HasTableBlocks g bad →
    (attaches : ℕ) (taken : List ℕ) (c : ChipRun SimFaults) (known : Known) →
    IsFairAndQuietNow k past (course_after sim_faults boot (ends_of news past) attaches taken) c →
    c.known ≡ Some known → c.pending ≡ None →
    HoldsTheTable c.chip known
    ⊎ HasFailedForACopy g k known (course_after sim_faults boot (ends_of news past) attaches taken).notes

-- what an attach came to: it took the primary, two copies are whole, and the table and the version
-- are those that were known
pub record ComesToTwo (known : Known) (origin : Origin) (version copies : ℕ) (states : List ℕ) : Type 0 where
  pub origin_is : origin ≡ FromPrimary
  pub version_is : version ≡ known.version
  pub copies_are : copies ≡ 2
  pub states_are : states ≡ known.table

-- Where such a boot ends at a moment at which two copies are whole and nothing is pending, so does
-- the attach of the next one, if it is quiet and comes to its end.
abbrev pub AttachesFindTwo : Type 0
AttachesFindTwo =
    (partitions : Partitions) (news : List (ChipState SimFaults)) (boots : List Boot) (turns : List (List ℕ))
    (past : List (Course SimFaults)) (boot next : Boot) (k : ℕ) (g : Geometry) (bad : List ℕ) (weak : List Weak) →
    IsRunOfNewChip partitions news boots turns past k g bad weak → IsNextBoot partitions k g boot (ends_of news past) →
    has_tables g ≡ true → HasTableBlocks g bad →
    (attaches : ℕ) (taken : List ℕ) (c : ChipRun SimFaults) (known : Known) →
    IsFairAndQuietNow k past (course_after sim_faults boot (ends_of news past) attaches taken) c →
    c.known ≡ Some known → c.pending ≡ None → known.copies ≡ 2 →
    (steps : ℕ) (later : List ℕ) (before after : List Note) (origin : Origin) (version copies : ℕ) (states : List ℕ) →
    (course_after sim_faults next (end_states (course_after sim_faults boot (ends_of news past) attaches taken))
    steps later).notes ≡ before ++ Attached k origin version copies true states ∷ after →
    ComesToTwo known origin version copies states
