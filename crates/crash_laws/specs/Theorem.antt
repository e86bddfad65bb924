-- Runs of boots of one controller that a chip went through since it was new, and what is kept of
-- it.
use Rattle.std.specs.Prelude.{◌≡◌, ℕ, List, [], ◌∷◌, Some, slice_get, Contains}
use Rattle.nand_model.specs.Chip.{ChipState, SimFaults, sim_faults, new_chip}
use Rattle.nand_model.specs.Partitions.{Partitions}
use Rattle.nand_model.specs.declared.geometry.Geometry.{Geometry}
use Rattle.nand_model.specs.declared.words.Weak.{Weak}
use Rattle.command_model.specs.Boot.{Boot}
use Rattle.run_model.specs.Course.{Course, course_after, end_states}
use Rattle.run_model.specs.History.{notes_of_chip}
use Rattle.run_model.specs.Run.{AreBoots, MarksSurvive, OneCopyStays, WholeCopiesHoldTheTable}
use Rattle.crash_laws.specs.Marked.{WritesFill}

-- a run of boots with these partitions, in which chip k was new at first and each body that was
-- written to it fills its page
pub record IsRunOfNewChip (partitions : Partitions) (news : List (ChipState SimFaults)) (boots : List Boot)
    (turns : List (List ℕ)) (courses : List (Course SimFaults)) (k : ℕ) (g : Geometry) (bad : List ℕ)
    (weak : List Weak) : Type 0 where
  pub one_list : (boot : Boot) → Contains boots boot → boot.partitions ≡ partitions
  pub runs : AreBoots sim_faults news boots turns courses
  pub new : slice_get news k ≡ Some (new_chip g bad weak)
  pub fills : (course : Course SimFaults) → Contains courses course
      → WritesFill g (notes_of_chip partitions k course.notes)

-- the states in which these courses leave the chips
abbrev pub ends_of : {W : Type 0} → List (ChipState W) → List (Course W) → List (ChipState W)
ends_of starts [] = starts
ends_of starts (course ∷ courses) = ends_of (end_states course) courses

-- a further boot from these states, with the same partitions and bodies that fill their pages,
-- whatever its turns
pub record IsNextBoot (partitions : Partitions) (k : ℕ) (g : Geometry) (boot : Boot)
    (starts : List (ChipState SimFaults)) : Type 0 where
  pub one_list : boot.partitions ≡ partitions
  pub fills : (attaches : ℕ) (turns : List ℕ)
      → WritesFill g (notes_of_chip partitions k (course_after sim_faults boot starts attaches turns).notes)

-- In every such run the marks of the chip survive.
abbrev pub MarksSurviveRuns : Type 0
MarksSurviveRuns =
    (partitions : Partitions) (news : List (ChipState SimFaults)) (boots : List Boot) (turns : List (List ℕ))
    (courses : List (Course SimFaults)) (k : ℕ) (g : Geometry) (bad : List ℕ) (weak : List Weak) →
    IsRunOfNewChip partitions news boots turns courses k g bad weak → MarksSurvive partitions k g bad courses

-- In each further boot, once an attach would use a copy, at each moment a whole copy stays that the
-- next event does not touch, and the newest copy has every acknowledged mark.
abbrev pub OneCopyStaysInRuns : Type 0
OneCopyStaysInRuns =
    (partitions : Partitions) (news : List (ChipState SimFaults)) (boots : List Boot) (turns : List (List ℕ))
    (past : List (Course SimFaults)) (boot : Boot) (k : ℕ) (g : Geometry) (bad : List ℕ) (weak : List Weak) →
    IsRunOfNewChip partitions news boots turns past k g bad weak → IsNextBoot partitions k g boot (ends_of news past) →
    OneCopyStays sim_faults k g bad past boot (ends_of news past)

-- In each further boot, while the chip is attached and rests, two whole copies hold the table in
-- memory.
abbrev pub WholeCopiesHoldInRuns : Type 0
WholeCopiesHoldInRuns =
    (partitions : Partitions) (news : List (ChipState SimFaults)) (boots : List Boot) (turns : List (List ℕ))
    (past : List (Course SimFaults)) (boot : Boot) (k : ℕ) (g : Geometry) (bad : List ℕ) (weak : List Weak) →
    IsRunOfNewChip partitions news boots turns past k g bad weak → IsNextBoot partitions k g boot (ends_of news past) →
    WholeCopiesHoldTheTable sim_faults k g bad past boot (ends_of news past)
