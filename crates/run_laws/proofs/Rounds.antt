-- Turns one after the other, and rounds.
use Rattle.std.proofs.Common.{◌≡◌, ℕ, zero, suc, ◌+◌, List, ◌++◌, ap, sym, ◌∙◌, replicate, append_assoc, append-nil, zero-add, suc-add}
use Rattle.std.specs.List.{concat}
use Rattle.std.proofs.lemmas.List.Sums.{fold-append}
use Rattle.nand_model.specs.Chip.{ChipState, FaultModel}
use Rattle.command_model.specs.Boot.{Boot}
use Rattle.run_model.specs.Course.{course_after, turns_taken, turn_step, sizes_of}
use Rattle.run_laws.specs.Replay.{rounds_after}

-- one more round stands at the end
round-last : (numbers : List ℕ) (n : ℕ) → concat (replicate (suc n) numbers) ≡ concat (replicate n numbers) ++ numbers
round-last numbers zero = append-nil numbers
round-last numbers (suc n) = ap (λ rest. numbers ++ rest) (round-last numbers n) ∙ sym (append_assoc numbers _ numbers)

pub rounds_after-suc : (schedule numbers : List ℕ) (n : ℕ) → rounds_after schedule numbers (suc n) ≡ rounds_after schedule numbers n ++ numbers
rounds_after-suc schedule numbers n = ap (λ rest. schedule ++ rest) (round-last numbers n) ∙ sym (append_assoc schedule _ numbers)

-- rounds in a row
concat-rounds : (numbers : List ℕ) (m n : ℕ) → concat (replicate (m + n) numbers) ≡ concat (replicate m numbers) ++ concat (replicate n numbers)
concat-rounds numbers zero n = ap (λ k. concat (replicate k numbers)) (zero-add n)
concat-rounds numbers (suc m) n =
    ap (λ k. concat (replicate k numbers)) (suc-add m n) ∙ ap (λ rest. numbers ++ rest) (concat-rounds numbers m n) ∙ sym (append_assoc numbers _ _)

pub rounds_after-add : (schedule numbers : List ℕ) (m n : ℕ) → rounds_after schedule numbers (m + n) ≡ rounds_after schedule numbers m ++ concat (replicate n numbers)
rounds_after-add schedule numbers m n = ap (λ rest. schedule ++ rest) (concat-rounds numbers m n) ∙ sym (append_assoc schedule _ _)

pub rounds_after-zero : (schedule numbers : List ℕ) → rounds_after schedule numbers 0 ≡ schedule
rounds_after-zero schedule numbers = append-nil schedule

-- turns in a row are those of the first list, and then those of the second
pub course_after-append : {W : Type 0} (model : FaultModel W) (boot : Boot) (starts : List (ChipState W)) (attaches : ℕ) (xs ys : List ℕ)
    → course_after model boot starts attaches (xs ++ ys) ≡ turns_taken model boot starts ys (course_after model boot starts attaches xs)
course_after-append model boot starts attaches xs ys = fold-append (turn_step model boot (sizes_of boot starts)) _ xs ys
