-- The life of one chip, with or without tables: its attaches and operations, boot after boot.
use Rattle.std.specs.Prelude.{◌≡◌, ◌⊎◌, ℕ, true, List, [], ◌∷◌, is_none, Option, Some, None, ⊤}
use Rattle.nand_model.specs.Chip.{ChipState, FaultModel, ChipEvent, after_trace}
use Rattle.nand_model.specs.Path.{answers_of, after_answers, result_of}
use Rattle.chip_paths.specs.Attach.{Attaching}
use Rattle.nand_model.specs.Table.{has_tables}
use Rattle.chip_paths.specs.ChipRun.{known_at_first}
use Rattle.nand_model.specs.Partitions.{Partitions}
use Rattle.chip_paths.specs.Operation.{Known, operation_path}
use Rattle.nand_model.specs.declared.geometry.Geometry.{Geometry}
use Rattle.run_model.specs.History.{OperationTrace, IsOperationTrace, events_in, known_then}
use Rattle.page_laws.specs.Keeping.{IsFairEvent, IsQuietEvent, EachStep}
use Rattle.relocation_laws.specs.Life.{TableBlockFails, NowAcked, NowBegun}
use Rattle.run_model.specs.Survival.{WritesAPage}

-- the block's marking was acknowledged by these operations
abbrev pub AckedIn : Partitions → List OperationTrace → ℕ → Type 0
AckedIn partitions [] b = ⊥
AckedIn partitions (o ∷ later) b = NowAcked partitions o.op o.reply b ⊎ AckedIn partitions later b

module _ {W : Type 0} (model : FaultModel W) where
  -- the block is one of the last four of a chip with tables, and failed in a writing of this trace
  abbrev pub TableFails : Geometry → ChipState W → List ChipEvent → ℕ → Type 0
  TableFails g s trace b = (has_tables g ≡ true) × TableBlockFails model g s trace b

  -- no torn event of these operations was foul
  abbrev pub AreFair : ChipState W → List OperationTrace → Type 0
  AreFair s [] = ⊤
  AreFair s (o ∷ later) =
      EachStep model (IsFairEvent model) s (events_in o.trace) × AreFair (after_trace model s (events_in o.trace)) later

  -- no torn event of an attach was foul, and each of its events found the chip quiet
  abbrev pub IsFairAndQuietAttach : ChipState W → List ChipEvent → Type 0
  IsFairAndQuietAttach s trace = EachStep model (λ s e. IsFairEvent model s e × IsQuietEvent s e) s trace

  module _ (partitions : Partitions) where
    -- the block's marking has begun by these operations, or the block failed in one of their
    -- writings
    abbrev pub BegunIn : Geometry → ChipState W → List OperationTrace → ℕ → Type 0
    BegunIn g s [] b = ⊥
    BegunIn g s (o ∷ later) b =
        (NowBegun partitions o.op o.reply b ⊎ TableFails g s (events_in o.trace) b)
        ⊎ BegunIn g (after_trace model s (events_in o.trace)) later b

    -- one operation after another, of which only the last may lack its reply
    abbrev pub AreOperations : ChipState W → Known → List OperationTrace → Type 0
    AreOperations s known [] = ⊤
    AreOperations s known (o ∷ later) =
        WritesAPage s.geometry o.op
        × IsOperationTrace model partitions s known o.op (events_in o.trace) o.reply
        × (is_none o.reply ≡ true → later ≡ [])
        × AreOperations (after_trace model s (events_in o.trace))
        (known_then known (result_of (after_answers (answers_of model s (events_in o.trace))
        (operation_path s.geometry partitions known o.op)))) later

    -- operations come only after an attach that came to its end
    abbrev pub FollowAttach : Option Attaching → ChipState W → List OperationTrace → Type 0
    FollowAttach None s operations = operations ≡ []
    FollowAttach (Some a) s operations = AreOperations s (known_at_first a) operations
