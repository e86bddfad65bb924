-- Marks that outlive cuts, said of one chip by its own notes and of any done bits: a cut of a
-- course has a tear of a plan, a chip's own trace may be cut with any bits done.
use Rattle.std.specs.Prelude.{◌≡◌, true, ℕ, List, [], ◌∷◌, ◌++◌, length, map, IsTrue, Some, ⊤, All}
use Rattle.nand_model.specs.Chip.{ChipState, FaultModel, sim_faults, new_chip, after_trace}
use Rattle.nand_model.specs.Partitions.{Partitions}
use Rattle.chip_paths.specs.Attach.{Attaching}
use Rattle.run_model.specs.History.{ChipBoot, OperationTrace, IsChipLife, attach_outcome, events_in, notes_of_chip, notes_of_trace, trace_of, was_quiet}
use Rattle.run_model.specs.Marking.{ShowsMarks}
use Rattle.run_model.specs.Run.{HasTableBlocks, is_fair}
use Rattle.nand_model.specs.declared.geometry.Geometry.{Geometry}
use Rattle.nand_model.specs.declared.words.Note.{Note}
use Rattle.nand_model.specs.declared.words.Op.{Op}
use Rattle.nand_model.specs.declared.words.Op.TheVariants.{Write}
use Rattle.nand_model.specs.declared.words.Weak.{Weak}

-- a write has a body of one page: a longer or shorter one could shift a byte of parity onto the
-- marker
abbrev pub WritesAPage : Geometry → Op → Type 0
WritesAPage g (Write dev page body free) = length body ≡ g.page
WritesAPage g _ = ⊤

-- all writes of a life have such bodies
abbrev pub AllWritePages : Geometry → List ChipBoot → Type 0
AllWritePages g life =
    All (λ (b : ChipBoot). All (λ (operation : OperationTrace). WritesAPage g operation.op) b.operations) life

-- as far as the attaches of a chip were quiet and its torn events fair: each attach that came to
-- its end shows the marks of the boots before it. The notes are those of the chip alone, a list for
-- each boot: among them an answer is that of the operation which began last
abbrev pub LifeShowsMarks : {W : Type 0} → FaultModel W → Partitions → ℕ → Geometry → List ℕ → ChipState W
    → List ChipBoot
    → List (List Note) → (before : List (List Note)) → Type 0
LifeShowsMarks model partitions k g factory_bad s (b ∷ bs) (notes ∷ more) before =
    was_quiet model s (events_in b.attach) ≡ true → IsTrue (is_fair k (notes_of_trace model k s b.attach)) →
    ((attaching : Attaching) → attach_outcome model s (events_in b.attach) ≡ Some attaching
    → ShowsMarks g partitions k factory_bad before (notes_of_trace model k s b.attach) attaching.table)
    × (IsTrue (is_fair k notes) →
    LifeShowsMarks model partitions k g factory_bad (after_trace model s (trace_of b)) bs more (before ++ notes ∷ []))
LifeShowsMarks model partitions k g factory_bad s _ _ before = ⊤

-- The marks outlive cuts in every life of a new chip, whatever the done bits of
-- each cut, by the notes that are of this chip.
abbrev pub MarksOutliveCuts : Partitions → ℕ → Geometry → List ℕ → List Weak → Type 0
MarksOutliveCuts partitions k g factory_bad weak =
    HasTableBlocks g factory_bad → (life : List ChipBoot) (notes : List (List Note)) → AllWritePages g life →
    IsChipLife sim_faults partitions k (new_chip g factory_bad weak) life notes →
    LifeShowsMarks sim_faults partitions k g factory_bad (new_chip g factory_bad weak) life
    (map (notes_of_chip partitions k) notes) []
