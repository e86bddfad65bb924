-- The course of a past with one more step, and how far it can have come.
use Rattle.std.proofs.Common.{◌≡◌, ◌+◌, ℕ, zero, suc, false, List, [], ◌∷◌, ◌++◌, refl, ap, sym, ◌∙◌, append_assoc, add-one}
use Rattle.std.specs.Prelude.{if◌then◌else◌}
use Rattle.std.proofs.lemmas.List.Sums.{fold-append}
use Rattle.nand_model.specs.Chip.{ChipState, FaultModel}
use Rattle.command_model.specs.Boot.{Boot}
use Rattle.run_model.specs.Course.{Course, attach_step, attach_steps, turn_step, turns_taken, course_after, start_of_boot, sizes_of, is_idle}
use Rattle.run_laws.specs.Turns.{busy_turns}

module _ {W : Type 0} (model : FaultModel W) (boot : Boot) (starts : List (ChipState W)) where
  -- one more turn is one more step
  pub one_more_turn : (attaches : ℕ) (turns : List ℕ) (session : ℕ)
      → course_after model boot starts attaches (turns ++ session ∷ []) ≡ turn_step model boot (sizes_of boot starts)
      (course_after model boot starts attaches turns) session
  one_more_turn attaches turns session = fold-append (turn_step model boot (sizes_of boot starts))
      (attach_steps model boot starts attaches (start_of_boot boot starts)) turns (session ∷ [])

  attach_later : (n : ℕ) (course : Course W) → attach_steps model boot starts (suc n) course
      ≡ attach_step model boot (sizes_of boot starts) (attach_steps model boot starts n course)
  attach_later zero course = refl
  attach_later (suc n) course = attach_later n (attach_step model boot (sizes_of boot starts) course)

  -- one more attach step
  pub one_more_attach : (attaches : ℕ) → course_after model boot starts (attaches + 1) []
      ≡ attach_step model boot (sizes_of boot starts) (course_after model boot starts attaches [])
  one_more_attach attaches = ap (λ n. attach_steps model boot starts n (start_of_boot boot starts)) (add-one attaches)
      ∙ attach_later attaches (start_of_boot boot starts)

  -- one more turn that is not idle
  pub one_more_busy : (turns : List ℕ) (session : ℕ) (course : Course W) → is_idle boot.partitions (sizes_of boot starts)
      (turns_taken model boot starts turns course) session ≡ false
      → busy_turns model boot starts (turns ++ session ∷ []) course ≡ busy_turns model boot starts turns course ++ session ∷ []
  one_more_busy [] session course h = ap (λ b. (if b then [] else session ∷ []) ++ []) h
  one_more_busy (turn ∷ turns) session course h =
      ap (λ zs. (if is_idle boot.partitions (sizes_of boot starts) course turn then [] else turn ∷ []) ++ zs)
      (one_more_busy turns session (turn_step model boot (sizes_of boot starts) course turn) h)
      ∙ sym (append_assoc (if is_idle boot.partitions (sizes_of boot starts) course turn then [] else turn ∷ [])
      (busy_turns model boot starts turns (turn_step model boot (sizes_of boot starts) course turn)) (session ∷ []))
