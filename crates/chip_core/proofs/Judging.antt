-- What is judged of a failed erase, and the tables that judging fills.
use Rattle.std.proofs.Common.{◌≡◌, ℕ, Bool, true, false, List, length, Option, Some, None, Ok, Err, Result, refl, ap, sym, subst, inl, ◌∙◌, arith}
use Rattle.std.specs.Prelude.{IfOk, OnErr, OnOk, is_none}
use Rattle.nand_model.specs.Chip.{ChipState, Complete, DoneBits, EraseCall, EraseEvent, FaultModel, failure_of, happens, saturating_increment}
use Rattle.nand_model.specs.Page.{decoded}
use Rattle.nand_model.specs.Path.{Failed, good_or_failed, is_failure}
use Rattle.nand_model.specs.Quiet.{fairness_if, fairness_of, is_table_block}
use Rattle.nand_model.specs.Sizes.{first_page, raw_len}
use Rattle.nand_model.specs.declared.geometry.Geometry.{Geometry}
use Rattle.nand_model.specs.declared.words.Fairness.{Fairness}
use Rattle.nand_model.specs.declared.words.Which.{Which}
use Rattle.chip_paths.specs.Stage.{failure_told, fairness_where_failed}
use Rattle.nand_model.specs.Counts.{HasRisen}
use Rattle.bbt_flash.proofs.Lengths.{copy-length}
use Rattle.bbt_image.specs.Taking.{HoldsCopy}
use Rattle.chip_core.specs.Events.{IsDone}
use Rattle.chip_core.proofs.Faults.{count_after, faults_after, rises}
use Rattle.bbt_image.specs.declared.errors.NoCopy.{NoCopy}

-- a table into which a copy was taken has a state for each block, and so has one that stays
pub taken-whole : (g : Geometry) (cells after : List ℕ) (result : Result (Which × ℕ) NoCopy) (old new : List ℕ) → length old ≡ g.blocks
    → IfOk result (λ found. HoldsCopy g cells found new) → OnOk result (after ≡ (decoded g cells).image) → OnErr result (new ≡ old)
    → length after ≡ raw_len g → length new ≡ g.blocks
taken-whole g cells after (Ok found) old new all holds image stays whole =
    copy-length g cells _ holds (ap (λ (xs : List ℕ). length xs) (sym image) ∙ whole)
taken-whole g cells after (Err why) old new all holds image stays whole = ap (λ (xs : List ℕ). length xs) stays ∙ all

failed-answer : (failure : Option DoneBits) → false ≡ is_none failure → good_or_failed failure ≡ Failed
failed-answer None is = cc
failed-answer (Some done) is = refl

-- only of a table page it matters what was wanted
wanted-alike : (is_table : Bool) (g : Geometry) (seen wanted other : List ℕ) → (is_table ≡ true → wanted ≡ other)
    → fairness_if is_table g seen wanted ≡ fairness_if is_table g seen other
wanted-alike true g seen wanted other same = ap (fairness_if true g seen) (same refl)
wanted-alike false g seen wanted other same = refl

-- what is judged of an erase
pub erase-judged : {W : Type 0} (s after : ChipState W) (g : Geometry) → g ≡ s.geometry → (block : ℕ) (wanted : List ℕ) (left : Fairness)
    → (is_table_block g block ≡ true → wanted ≡ (s.pages (first_page g block)).cells)
    → left ≡ fairness_if (is_table_block g block) g (after.pages (first_page g block)).cells wanted
    → left ≡ fairness_of s.geometry s.pages (EraseEvent block) after.pages
erase-judged s after g sizes block wanted left kept judged =
    judged
    ∙ wanted-alike (is_table_block g block) g (after.pages (first_page g block)).cells wanted (s.pages (first_page g block)).cells kept
    ∙ ap (λ (h : Geometry). fairness_if (is_table_block h block) h (after.pages (first_page h block)).cells (s.pages (first_page h block)).cells) sizes

-- and told where it failed
pub erase-told : {W : Type 0} (model : FaultModel W) (s after : ChipState W) (block : ℕ) (left : Fairness)
    → left ≡ fairness_of s.geometry s.pages (EraseEvent block) after.pages
    → after ≡ happens model s (Complete (EraseEvent block)) → false ≡ is_none (failure_of model s (EraseCall block))
    → Some left ≡ failure_told model s (EraseEvent block)
erase-told {W} model s after block left judged same failed =
    ap Some (judged ∙ ap (λ (t : ChipState W). fairness_of s.geometry s.pages (EraseEvent block) t.pages) same)
    ∙ sym (ap (λ a. fairness_where_failed (is_failure a) (fairness_of s.geometry s.pages (EraseEvent block) (happens model s (Complete (EraseEvent block))).pages))
    (failed-answer (failure_of model s (EraseCall block)) failed))

-- an erase that failed is done so
pub erase-failed : {W : Type 0} (model : FaultModel W) (s after : ChipState W) (block : ℕ) (left : Fairness)
    → after ≡ happens model s (Complete (EraseEvent block)) → false ≡ is_none (failure_of model s (EraseCall block))
    → Some left ≡ failure_told model s (EraseEvent block) → IsDone model s after (EraseEvent block) (Some left)
erase-failed {W} model s after block left same failed told = record {
  state = same;
  answer = failed-answer (failure_of model s (EraseCall block)) failed;
  told = told;
  risen = subst (HasRisen s.faults) (sym (ap (λ (t : ChipState W). t.faults) same ∙ counts)) (rises s.faults s.faults (inl (omega arith)));
}
  where
    counts : (happens model s (Complete (EraseEvent block))).faults ≡ saturating_increment s.faults
    counts = faults_after model s (EraseEvent block) ∙ ap (λ a. count_after (is_failure a) s.faults) (failed-answer (failure_of model s (EraseCall block)) failed)
