-- What is read back from a page that was programmed once.
use Rattle.std.specs.Prelude.{ℕ, List, Bool, true, false, ◌/◌, ◌==◌, if◌then◌else◌, [], ◌∷◌, is_none, ◌≡◌, ◌<◌, max, map, fold, sum, ◌≤◌, Option, Some, None, nat_le, ⊤, ◌++◌}
use Rattle.nand_model.specs.Chip.{ChipState, FaultModel, ChipEvent, Complete, PowerCut, Flipped, ReadEvent, ProgramEvent, EraseEvent, ProgramCall, EraseCall, failure_of, happens, after_trace, new_chip, sim_faults}
use Rattle.code_model.specs.Word.{distance}
use Rattle.nand_model.specs.Page.{step_word, decoded, step_body, page_image, FillsPage}
use Rattle.nand_model.specs.Sizes.{step_count, numbers_from}
use Rattle.nand_model.specs.Quiet.{word_flips}
use Rattle.run_model.specs.History.{OperationTrace, events_in, ChipBoot, trace_of}
use Rattle.nand_model.specs.declared.geometry.Geometry.{Geometry}
use Rattle.nand_model.specs.declared.words.Weak.{Weak}
use Rattle.nand_model.specs.declared.words.PageKind.TheVariants.{Bitflips, Clean}
use Rattle.nand_model.specs.declared.words.Reply.{Reply}
use Rattle.nand_model.specs.declared.words.Reply.TheVariants.{Page}
use Rattle.nand_model.specs.declared.words.Op.{Op}
use Rattle.nand_model.specs.declared.words.Op.TheVariants.{Read}

-- what a page has been through since it was made or last erased well: nothing, one good program, or
-- anything else
pub data PagePast : Type 0 where
  Erased : PagePast
  Programmed : (image : List ℕ) → PagePast
  Unknown : PagePast

-- the past of a page after a program of it
abbrev pub after_program : PagePast → List ℕ → Bool → PagePast
after_program Erased image true = Programmed image
after_program Erased image false = Unknown
after_program (Programmed old) image good = Unknown
after_program Unknown image good = Unknown

module _ {W : Type 0} (model : FaultModel W) where
  -- the past of a page after an event of its chip
  abbrev pub page_past_after : ChipState W → ℕ → PagePast → ChipEvent → PagePast
  page_past_after s page past (Complete (ReadEvent p)) = past
  page_past_after s page past (Complete (ProgramEvent p image)) =
      if p == page then after_program past image (is_none (failure_of model s (ProgramCall p))) else past
  page_past_after s page past (Complete (EraseEvent block)) =
      if page / s.geometry.pages_per_block == block then (if is_none (failure_of model s (EraseCall block))
      then Erased else Unknown) else past
  page_past_after s page past (PowerCut (ReadEvent p) done) = past
  page_past_after s page past (PowerCut (ProgramEvent p image) done) = if p == page then Unknown else past
  page_past_after s page past (PowerCut (EraseEvent block) done) =
      if page / s.geometry.pages_per_block == block then Unknown else past
  page_past_after s page past (Flipped p bit) = past

  -- the past of a page after a trace
  abbrev pub page_past : ChipState W → ℕ → PagePast → List ChipEvent → PagePast
  page_past s page past [] = past
  page_past s page past (e ∷ trace) = page_past (happens model s e) page (page_past_after s page past e) trace

-- in how many bits of a step's word the cells stand different from the image
abbrev pub wrong_bits : Geometry → List ℕ → List ℕ → ℕ → ℕ
wrong_bits g image cells s = distance (step_word g cells s) (step_word g image s)

-- a read gives the written body and parity bits, and counts exactly the bits that stand different
pub record ReadsBack (g : Geometry) (image cells : List ℕ) : Type 0 where
  pub bodies : (s : ℕ) → s < step_count g → step_body g (decoded g cells).image s ≡ step_body g image s
  pub words : (s : ℕ) → s < step_count g → step_word g (decoded g cells).image s ≡ step_word g image s
  pub corrected : (decoded g cells).corrected ≡ sum (map (wrong_bits g image cells) (numbers_from 0 (step_count g)))
  pub greatest : (decoded g cells).greatest
      ≡ fold max 0 (map (wrong_bits g image cells) (numbers_from 0 (step_count g)))
  pub failed : (decoded g cells).failed ≡ 0

-- each step's word has had at most as many flips as the code corrects
abbrev pub HasFewFlips : Geometry → List ℕ → Type 0
HasFewFlips g flips = (s : ℕ) → s < step_count g → word_flips g flips s ≤ g.t

-- From a new chip, after any trace: a page that one program has filled, with few flips, is read
-- back.
abbrev pub ProgrammedPagesReadBack : Geometry → List ℕ → List Weak → Type 0
ProgrammedPagesReadBack g bad weak =
    (trace : List ChipEvent) (page : ℕ) (body free : List ℕ) → FillsPage g body free →
    page_past sim_faults (new_chip g bad weak) page Erased trace ≡ Programmed (page_image g body free) →
    HasFewFlips g ((after_trace sim_faults (new_chip g bad weak) trace).pages page).flips →
    ReadsBack g (page_image g body free) ((after_trace sim_faults (new_chip g bad weak) trace).pages page).cells

-- the answer to a read of such a page: the written body and parity bits, all else as the cells have
-- it, and the exact counts; a read that is not answered says nothing, and no other answer is right
abbrev pub IsReadBack : Geometry → List ℕ → List ℕ → Option Reply → Type 0
IsReadBack g image cells (Some (Page kind read got)) =
    ReadsBack g image cells × (got ≡ (decoded g cells).image) × (read.corrected ≡ (decoded g cells).corrected)
    × (read.greatest ≡ (decoded g cells).greatest) × (read.failed ≡ 0)
    × (kind ≡ (if nat_le g.threshold read.greatest then Bitflips else Clean))
IsReadBack g image cells None = ⊤
IsReadBack g image cells (Some _) = ⊥

-- the operation is a read that decodes
abbrev pub is_read : Op → Bool
is_read (Read dev page) = true
is_read _ = false

-- an answered read, after all that befell its chip before: if one program filled its page, with few
-- flips, it gives that page back with exact counts
abbrev pub OperationReadsBack : {W : Type 0} → FaultModel W → ChipState W → List ChipEvent → OperationTrace → Type 0
OperationReadsBack {W} model fresh before operation =
    (flips rest : List ChipEvent) (page : ℕ) (body free : List ℕ) → FillsPage fresh.geometry body free →
    is_read operation.op ≡ true → events_in operation.trace ≡ flips ++ Complete (ReadEvent page) ∷ rest →
    page_past model fresh page Erased (before ++ flips) ≡ Programmed (page_image fresh.geometry body free) →
    HasFewFlips fresh.geometry ((after_trace model fresh (before ++ flips)).pages page).flips →
    IsReadBack fresh.geometry (page_image fresh.geometry body free) ((after_trace model fresh (before ++ flips)).pages
    page).cells operation.reply

-- all answered reads among these operations
abbrev pub OperationsReadBack : {W : Type 0} → FaultModel W → ChipState W → List ChipEvent → List OperationTrace
    → Type 0
OperationsReadBack model fresh before [] = ⊤
OperationsReadBack model fresh before (operation ∷ later) =
    OperationReadsBack model fresh before operation
    × OperationsReadBack model fresh (before ++ events_in operation.trace) later

-- all answered reads of a chip, over all boots
abbrev pub ReadsBackAlong : {W : Type 0} → FaultModel W → ChipState W → List ChipEvent → List ChipBoot → Type 0
ReadsBackAlong model fresh before [] = ⊤
ReadsBackAlong model fresh before (b ∷ bs) =
    OperationsReadBack model fresh (before ++ events_in b.attach) b.operations
    × ReadsBackAlong model fresh (before ++ trace_of b) bs
