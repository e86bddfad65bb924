-- What the laws say of pages that one program has filled, and of whole courses and runs.
use Rattle.std.specs.Prelude.{◌≡◌, ℕ, ◌<◌, ◌≤◌, List, [], ◌∷◌, length, Some, slice_get}
use Rattle.nand_model.specs.Sizes.{step_count, raw_len}
use Rattle.nand_model.specs.Page.{page_image, FillsPage}
use Rattle.nand_model.specs.Chip.{ChipState, FaultModel, ChipEvent, after_trace}
use Rattle.nand_model.specs.Quiet.{word_flips}
use Rattle.nand_model.specs.Partitions.{Partitions, part_of}
use Rattle.chip_paths.specs.Operation.{chip_page, Known, Performs}
use Rattle.nand_model.specs.declared.words.Part.{Part}
use Rattle.nand_model.specs.declared.words.Op.TheVariants.{Write}
use Rattle.nand_model.specs.declared.words.Reply.TheVariants.{Done}
use Rattle.command_model.specs.Boot.{Boot}
use Rattle.run_model.specs.Course.{Course}
use Rattle.run_model.specs.History.{ChipBoot}
use Rattle.run_model.specs.ReadBack.{Erased, Programmed, page_past, wrong_bits, ReadsBack, HasFewFlips, ReadsBackAlong}
use Rattle.run_model.specs.Run.{CoursesAreFaithful, RunsAreFaithful}
use Rattle.read_laws.specs.Fresh.{IsFreshPage, IsFresh}

-- From a page that is fresh, after any trace: where one good program gave it an image, a step's
-- word differs from it in no more bits than were flipped there.
abbrev pub WrongBitsWereFlipped : {W : Type 0} → FaultModel W → ChipState W → Type 0
WrongBitsWereFlipped model s =
    (trace : List ChipEvent) (page : ℕ) (image : List ℕ) → IsFreshPage s.geometry (s.pages page)
    → length image ≡ raw_len s.geometry →
    page_past model s page Erased trace ≡ Programmed image → (step : ℕ) → step < step_count s.geometry →
    wrong_bits s.geometry image ((after_trace model s trace).pages page).cells step
    ≤ word_flips s.geometry ((after_trace model s trace).pages page).flips step

-- From a page that is fresh, after any trace: where one good program has filled it, with few flips,
-- it is read back.
abbrev pub FilledPagesReadBack : {W : Type 0} → FaultModel W → ChipState W → Type 0
FilledPagesReadBack model s =
    (trace : List ChipEvent) (page : ℕ) (body free : List ℕ) → IsFreshPage s.geometry (s.pages page)
    → FillsPage s.geometry body free →
    page_past model s page Erased trace ≡ Programmed (page_image s.geometry body free) →
    HasFewFlips s.geometry ((after_trace model s trace).pages page).flips →
    ReadsBack s.geometry (page_image s.geometry body free) ((after_trace model s trace).pages page).cells

-- A write that was answered done leaves its image in a page that was erased: the page's past is
-- that one good program.
abbrev pub DoneWritesFillPages : {W : Type 0} → FaultModel W → ChipState W → Type 0
DoneWritesFillPages model s =
    (partitions : Partitions) (known : Known) (dev page : ℕ) (body free : List ℕ) (trace : List ChipEvent)
    (after : Known) (part : Part) →
    part_of partitions dev ≡ Some part → Performs model partitions s known (Write dev page body free) trace Done after →
    page_past model s (chip_page s.geometry part page) Erased trace ≡ Programmed (page_image s.geometry body free)

-- the notes of a course are a history of one thread, along which each answered read of a chip that
-- was fresh gives back what was written
pub record CoursesReadBack {W : Type 0} (model : FaultModel W) (boot : Boot) (starts : List (ChipState W))
    (attaches : ℕ) (turns : List ℕ) : Type 0 where
  pub faithful : CoursesAreFaithful model boot starts attaches turns
  pub reads_back : (k : ℕ) (s : ChipState W) (b : ChipBoot) → slice_get starts k ≡ Some s → IsFresh s
      → slice_get faithful.lives k ≡ Some b
      → ReadsBackAlong model s [] (b ∷ [])

-- the same over all boots of a run
pub record RunsReadBack {W : Type 0} (model : FaultModel W) (partitions : Partitions) (starts : List (ChipState W))
    (boots : List Boot)
    (courses : List (Course W)) : Type 0 where
  pub faithful : RunsAreFaithful model partitions starts boots courses
  pub reads_back : (k : ℕ) (s : ChipState W) (life : List ChipBoot) → slice_get starts k ≡ Some s → IsFresh s
      → slice_get faithful.lives k ≡ Some life
      → ReadsBackAlong model s [] life
