-- What stays of a chip's copies after each boot of its life, whatever the done bits of each cut.
use Rattle.std.specs.Prelude.{◌≡◌, ℕ, ◌<◌, true, List, [], ◌∷◌, ◌++◌, map, is_some, Some, IsTrue, ⊤}
use Rattle.std.specs.List.{list_any}
use Rattle.nand_model.specs.Chip.{ChipState, FaultModel, sim_faults, new_chip, after_trace}
use Rattle.nand_model.specs.Partitions.{Partitions}
use Rattle.nand_model.specs.Quiet.{is_quiet}
use Rattle.nand_model.specs.Table.{Copy, calls_bad, has_tables}
use Rattle.nand_model.specs.declared.geometry.Geometry.{Geometry}
use Rattle.nand_model.specs.declared.words.Note.{Note}
use Rattle.nand_model.specs.declared.words.Weak.{Weak}
use Rattle.chip_paths.specs.Attach.{Attaching}
use Rattle.chip_paths.specs.ChipRun.{known_at_first}
use Rattle.chip_paths.specs.Operation.{Known, operation_path}
use Rattle.nand_model.specs.Path.{after_answers, answers_of, result_of}
use Rattle.run_model.specs.History.{ChipBoot, IsChipLife, OperationTrace, attach_outcome, events_in, known_then, notes_of_chip, trace_of, was_quiet}
use Rattle.run_model.specs.Marking.{marking_acknowledged}
use Rattle.run_model.specs.Run.{CopiesAgree, HasTableBlocks, HoldsTheTable, copy_in_use, is_fair}
use Rattle.run_model.specs.Survival.{AllWritePages}

-- an attach would use a copy, and that copy calls block b bad
pub record UsesACopyWith {W : Type 0} (s : ChipState W) (b : ℕ) : Type 0 where
  pub newest : ℕ × Copy
  pub used : copy_in_use s ≡ Some newest
  pub bad : calls_bad newest.1.states b ≡ true

-- the copies agree, and the copy that an attach would use has every mark that was acknowledged in
-- these notes: so there is one, once any mark was acknowledged
pub record KeepsCopies {W : Type 0} (partitions : Partitions) (k : ℕ) (g : Geometry) (s : ChipState W)
    (boots : List (List Note)) : Type 0 where
  pub agree : CopiesAgree s
  pub marks : (b : ℕ) → b < g.blocks → IsTrue (list_any (marking_acknowledged partitions k b) boots)
      → UsesACopyWith s b

-- as far as the attaches of a chip were quiet and its torn events fair: after each boot that leaves
-- it quiet, also one that a cut ended at any event of an attach or an operation, it keeps its
-- copies. The notes are those of the chip alone, a list for each boot
abbrev pub LifeKeepsCopies : {W : Type 0} → FaultModel W → Partitions → ℕ → Geometry → ChipState W → List ChipBoot
    → List (List Note) → (before : List (List Note)) → Type 0
LifeKeepsCopies model partitions k g s (b ∷ bs) (notes ∷ more) before =
    was_quiet model s (events_in b.attach) ≡ true → IsTrue (is_fair k notes) →
    (is_quiet g (after_trace model s (trace_of b)).pages ≡ true
    → KeepsCopies partitions k g (after_trace model s (trace_of b)) (before ++ notes ∷ []))
    × LifeKeepsCopies model partitions k g (after_trace model s (trace_of b)) bs more (before ++ notes ∷ [])
LifeKeepsCopies model partitions k g s _ _ before = ⊤

-- each of these operations was answered
abbrev pub AreAnswered : List OperationTrace → Type 0
AreAnswered [] = ⊤
AreAnswered (o ∷ later) = (is_some o.reply ≡ true) × AreAnswered later

-- what is known of a chip after these operations
abbrev pub known_after : {W : Type 0} → FaultModel W → Partitions → ChipState W → Known → List OperationTrace → Known
known_after model partitions s known [] = known
known_after model partitions s known (o ∷ later) =
    known_after model partitions (after_trace model s (events_in o.trace))
    (known_then known (result_of (after_answers (answers_of model s (events_in o.trace))
    (operation_path s.geometry partitions known o.op)))) later

-- after a boot whose attach came to its end and whose operations were all answered: where the whole
-- copies are two and the chip is quiet, both places hold the table in memory
abbrev pub BootHoldsTheTable : {W : Type 0} → FaultModel W → Partitions → Geometry → ChipState W → ChipBoot → Type 0
BootHoldsTheTable model partitions g s b =
    (attaching : Attaching) → attach_outcome model s (events_in b.attach) ≡ Some attaching → AreAnswered b.operations →
    let known : Known =
    known_after model partitions (after_trace model s (events_in b.attach)) (known_at_first attaching) b.operations in
    known.copies ≡ 2 → is_quiet g (after_trace model s (trace_of b)).pages ≡ true
    → HoldsTheTable (after_trace model s (trace_of b)) known

-- and so in each boot of a life, as far as its attaches were quiet and its torn events fair
abbrev pub LifeHoldsTheTable : {W : Type 0} → FaultModel W → Partitions → ℕ → Geometry → ChipState W → List ChipBoot
    → List (List Note) → Type 0
LifeHoldsTheTable model partitions k g s (b ∷ bs) (notes ∷ more) =
    was_quiet model s (events_in b.attach) ≡ true → IsTrue (is_fair k notes) →
    BootHoldsTheTable model partitions g s b
    × LifeHoldsTheTable model partitions k g (after_trace model s (trace_of b)) bs more
LifeHoldsTheTable model partitions k g s _ _ = ⊤

-- Two whole copies hold the table in every life of a new chip with tables.
abbrev pub TwoCopiesHoldTheTable : Partitions → ℕ → Geometry → List ℕ → List Weak → Type 0
TwoCopiesHoldTheTable partitions k g factory_bad weak =
    has_tables g ≡ true → HasTableBlocks g factory_bad →
    (life : List ChipBoot) (notes : List (List Note)) → AllWritePages g life →
    IsChipLife sim_faults partitions k (new_chip g factory_bad weak) life notes →
    LifeHoldsTheTable sim_faults partitions k g (new_chip g factory_bad weak) life
    (map (notes_of_chip partitions k) notes)

-- The copies outlive cuts in every life of a new chip with tables.
abbrev pub CopiesOutliveCuts : Partitions → ℕ → Geometry → List ℕ → List Weak → Type 0
CopiesOutliveCuts partitions k g factory_bad weak =
    has_tables g ≡ true → HasTableBlocks g factory_bad →
    (life : List ChipBoot) (notes : List (List Note)) → AllWritePages g life →
    IsChipLife sim_faults partitions k (new_chip g factory_bad weak) life notes →
    LifeKeepsCopies sim_faults partitions k g (new_chip g factory_bad weak) life
    (map (notes_of_chip partitions k) notes) []
