-- What marks change: the table has the mark of a block exactly once its marker is on the chip.
use Rattle.std.proofs.Common.{◌≡◌, ℕ, Bool, true, false, List, Option, Some, None, refl, ap, sym, subst, ◌∙◌}
use Rattle.std.specs.Prelude.{IsSome, IfSome, SomeIff, ◌<◌, ◌≤◌, ◌+◌, ◌==◌, ◌||◌, if◌then◌else◌, is_none, nat_le, not}
use Rattle.std.proofs.lemmas.Bool.{le-leb}
use Rattle.chip_paths.specs.ChipRun.{AtStart}
use Rattle.chip_paths.specs.Operation.{Known, after_marker_alone, answer, entry_of, is_good_block, mark_block, mark_path, only_if, operation_by, with_mark, write_tables}
use Rattle.nand_model.specs.Chip.{ChipState, FaultModel, PageEvent}
use Rattle.nand_model.specs.Path.{Answer, answer_to, either}
use Rattle.nand_model.specs.Table.{has_tables}
use Rattle.nand_model.specs.declared.words.Reply.TheVariants.{Copies, Done, MarkerFailed as MarkerHasFailed, Reserved}
use Rattle.nand_model.specs.declared.words.Fairness.{Fairness}
use Rattle.bbt_flash.specs.Events.{answer_of}
use Rattle.nand_model.specs.declared.geometry.Geometry.{Geometry}
use Rattle.nand_model.specs.declared.words.Op.TheVariants.{Mark}
use Rattle.nand_model.specs.declared.words.Part.{Part}
use Rattle.chip_core.specs.Beginning.{StandsFor, in_range, on_block}
use Rattle.chip_core.specs.Events.{IsDone}
use Rattle.chip_core.specs.Knowledge.{known_in, known_with}
use Rattle.chip_core.specs.Task.{Advances, FollowsMarker, HasMarked, after_marker, mark_programs, marker_event, table_before, task_left, task_progress}
use Rattle.chip_core.specs.declared.knowledge.Knowledge.{Knowledge}
use Rattle.chip_core.specs.declared.task.Task.{Task}
use Rattle.chip_core.specs.declared.task.Task.TheVariants.{Reading, Decoding as IsDecoding, Programming, Erasing, Marking, Marker, Writing as IsWriting, Marked, MarkerFailed, Decoded, AtOnce, Ended}
use Rattle.chip_core.proofs.Ranges.{block_place, goes_as}
use Rattle.chip_core.proofs.Scanning.{no_tables}

-- at the start of an operation no block is marked yet
pub fresh_has_no_mark : (table : List ℕ) (task : Task) → task_progress task ≡ AtStart → HasMarked table task
fresh_has_no_mark table (Reading page cells) fresh = tt
fresh_has_no_mark table (IsDecoding dev page cells) fresh = tt
fresh_has_no_mark table (Programming page image) fresh = tt
fresh_has_no_mark table (Erasing block) fresh = tt
fresh_has_no_mark table (Marking block image) fresh = tt
fresh_has_no_mark table (Marker block image) fresh = tt
fresh_has_no_mark table (IsWriting w) fresh = tt
fresh_has_no_mark table (Marked block before) fresh = cc
fresh_has_no_mark table MarkerFailed fresh = tt
fresh_has_no_mark table (Decoded dev kind read image) fresh = tt
fresh_has_no_mark table (AtOnce reply) fresh = tt
fresh_has_no_mark table (Ended reply) fresh = tt

pub fresh_table : (table : List ℕ) (task : Task) → task_progress task ≡ AtStart → table_before table task ≡ table
fresh_table table (Reading page cells) fresh = refl
fresh_table table (IsDecoding dev page cells) fresh = refl
fresh_table table (Programming page image) fresh = refl
fresh_table table (Erasing block) fresh = refl
fresh_table table (Marking block image) fresh = refl
fresh_table table (Marker block image) fresh = refl
fresh_table table (IsWriting w) fresh = cc
fresh_table table (Marked block before) fresh = cc
fresh_table table MarkerFailed fresh = refl
fresh_table table (Decoded dev kind read image) fresh = refl
fresh_table table (AtOnce reply) fresh = refl
fresh_table table (Ended reply) fresh = refl

mark_is : (g : Geometry) (k : Known) (found : Option Part) (dev block : ℕ) → on_block k found block (mark_block g k) ≡ operation_by g k found (Mark dev block)
mark_is g k None dev block = refl
mark_is g k (Some part) dev block = refl

-- a mark of a block of a device that was found
pub mark_goes : (known : Knowledge) (found : Option Part) (dev block : ℕ) (place : Option ℕ) → IsSome found
    → IfSome found (λ part. SomeIff place (block < part.count) (part.start + block))
    → (task : Task) → StandsFor known (λ k. in_range k place (mark_block known.geometry k)) None task
    → StandsFor known (λ k. operation_by known.geometry k found (Mark dev block)) None task
mark_goes known found dev block place there gave =
    let g = known.geometry in
    let k = known_in known in
    goes_as known (λ k. in_range k place (mark_block g k)) (λ k. operation_by g k found (Mark dev block)) None
    (block_place found block place there gave k (mark_block g k) ∙ mark_is g k found dev block)

-- without tables the mark is over once the marker was good or failed
module _ (g : Geometry) (k : Known) (block : ℕ) (outcome : Answer) (none : g.bbt ≡ 0) where
  alone : after_marker g k block outcome ≡ after_marker_alone g k block outcome
  alone = ap (λ b. either b (λ u. write_tables g (with_mark g k block) outcome) (λ u. after_marker_alone g k block outcome)) (no_tables g none)

  pub marker_failed : outcome ≡ answer_of false → answer k MarkerHasFailed ≡ after_marker g k block outcome
  marker_failed is = sym (alone ∙ ap (after_marker_alone g k block) is)

  pub marker_done : outcome ≡ answer_of true → answer (with_mark g k block) Done ≡ after_marker g k block outcome
  marker_done is = sym (alone ∙ ap (after_marker_alone g k block) is)

-- and a mark programs one page then, or seven
pub alone-programs : (g : Geometry) → g.bbt ≡ 0 → mark_programs g ≡ 1
alone-programs g none = ap (λ b. if b then 7 else 1) (no_tables g none)

pub tables-programs : (g : Geometry) → has_tables g ≡ true → mark_programs g ≡ 7
tables-programs g tables = ap (λ b. if b then 7 else 1) tables

-- a mark that is not refused and whose block is good begins
pub marks-good : (g : Geometry) (k : Known) (block : ℕ) → (entry_of k block == 2) ≡ false → (not (has_tables g) || nat_le 2 k.copies) ≡ true
    → (entry_of k block == 0) ≡ true → mark_path g k block ≡ mark_block g k block
marks-good g k block free copies good =
    sym (ap (λ b. only_if (not b) k Reserved (λ u. only_if (not (has_tables g) || nat_le 2 k.copies) k (Copies k.copies)
    (λ u. only_if (is_good_block k block) k Done (λ u. mark_path g k block)))) free
    ∙ ap (λ b. only_if b k (Copies k.copies) (λ u. only_if (is_good_block k block) k Done (λ u. mark_path g k block))) copies
    ∙ ap (λ b. only_if b k Done (λ u. mark_path g k block)) good)

pub two-copies : (g : Geometry) (copies : ℕ) → 2 ≤ copies → (not (has_tables g) || nat_le 2 copies) ≡ true
two-copies g copies both = rw (le-leb 2 copies both) (or-true (not (has_tables g)))
  where
    or-true : (b : Bool) → (b || true) ≡ true
    or-true true = refl
    or-true false = refl

pub no-copies : (g : Geometry) (copies : ℕ) → g.bbt ≡ 0 → (not (has_tables g) || nat_le 2 copies) ≡ true
no-copies g copies none = ap (λ b. not b || nat_le 2 copies) (no_tables g none)

-- the marker of a block was programmed
pub marker-advances : {W : Type 0} (model : FaultModel W) (s after : ChipState W) (old new : Knowledge) (block : ℕ) (image other : List ℕ) (task : Task)
    (told : Option Fairness) (ok : Bool) → s.geometry ≡ old.geometry → (e : PageEvent) → e ≡ marker_event old.geometry block
    → IsDone model s after e told → ok ≡ is_none told → FollowsMarker old new block other ok task
    → Advances model s after old new (Marker block image) task told (marker_event old.geometry block)
marker-advances model s after old new block image other task told ok sizes e is done none follows =
    let marker = marker_event old.geometry block in
    let now : IsDone model s after marker told = subst (λ e. IsDone model s after e told) is done in
    let k = known_with old old.table in
    let Goes : Geometry → Type 0 = λ g. task_left g new.table (known_with new (table_before new.table task)) task ≡ after_marker g k block (answer_to model s marker) in
    record {
      state = now.state;
      left = subst Goes (sym sizes) (follows.left (answer_to model s marker) (now.answer ∙ ap answer_of (sym none)));
      progress = follows.progress;
      told = now.told;
      risen = now.risen;
    }
