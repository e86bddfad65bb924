-- Programs and erases that were done, and how many programs are left on a path.
use Rattle.std.specs.Prelude.{◌≡◌, ℕ, ◌-◌, ◌≤◌, Option, IfSome, is_none, ⊤}
use Rattle.std.specs.Coded.{Unit-prop}
use Rattle.std.proofs.Props.{props}
use Rattle.nand_model.specs.Chip.{ChipState, Complete, EraseEvent, FaultModel, PageEvent, ProgramEvent, ReadEvent, happens}
use Rattle.nand_model.specs.Counts.{HasRisen}
use Rattle.nand_model.specs.Path.{Answer, Path, Over, Then, answer_to}
use Rattle.nand_model.specs.declared.words.Fairness.{Fairness}
use Rattle.chip_paths.specs.Stage.{failure_told}
use Rattle.bbt_flash.specs.Events.{answer_of}

-- a program or an erase is done: the chip is as after it, and a failure is told and counted
pub record IsDone {W : Type 0} (model : FaultModel W) (before after : ChipState W) (e : PageEvent)
    (failure : Option Fairness) : Type 0 where
  pub state : after ≡ happens model before (Complete e)
  pub answer : answer_to model before e ≡ answer_of (is_none failure)
  pub told : failure ≡ failure_told model before e
  pub risen : IfSome failure (λ fairness. HasRisen before.faults after.faults)

-- how many pages an event programs
abbrev pub programs_in : PageEvent → ℕ
programs_in (ReadEvent page) = 0
programs_in (ProgramEvent page image) = 1
programs_in (EraseEvent block) = 0

-- whatever the answers, a path programs at most so many pages
abbrev pub ProgramsAtMost : {A : Type 0} → ℕ → Path A → Type 0
ProgramsAtMost n (Over result) = ⊤
ProgramsAtMost n (Then event rest) =
    (programs_in event ≤ n) × ((answer : Answer) → ProgramsAtMost (n - programs_in event) (rest answer))

pub ProgramsAtMost-prop : {A : Type 0} (n : ℕ) (path : Path A) → IsProp (ProgramsAtMost n path)
ProgramsAtMost-prop n (Over result) = Unit-prop
ProgramsAtMost-prop n (Then event rest) =
    let later = λ (answer : Answer). ProgramsAtMost-prop (n - programs_in event) (rest answer) in hlevel (props, later)
