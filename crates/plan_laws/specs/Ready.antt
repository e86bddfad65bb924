-- A controller's part of a boot of a plan, and what it gives the controller at its start.
use Rattle.std.specs.Prelude.{◌≡◌, ℕ, ◌≤◌, List, [], length, map, slice_index_or, All}
use Rattle.nand_model.specs.Chip.{ChipState}
use Rattle.nand_model.specs.declared.words.Command.{Command}
use Rattle.command_model.specs.Boot.{Boot, AreAscending}
use Rattle.command_model.specs.Runnable.{Fits}
use Rattle.run_model.specs.Course.{sizes_of}
use Rattle.run_model.specs.Start.{AreFewFlips, IsOfDevice, IsOnChip, IsOnFlash, boot_cost}
use Rattle.plan_model.specs.Plan.{PlanData, ChipPlan, BootPlan, boot_part}

-- a boot without lines
abbrev pub no_boot : BootPlan
no_boot = record { flips = []; cuts = []; sessions = []; schedule = [] }

-- the boot of this number (one without lines, where there is none)
abbrev pub boot_at : PlanData → ℕ → BootPlan
boot_at plan n = slice_index_or plan.boots n no_boot

-- the chips of the controller of this number
abbrev pub chips_at : PlanData → ℕ → List ChipPlan
chips_at plan c = slice_index_or plan.controllers c []

-- a controller's part of a boot of the plan
abbrev pub part_at : PlanData → (boot controller : ℕ) → Boot
part_at plan n c = boot_part plan c (chips_at plan c) (boot_at plan n)

-- these chips have the sizes that the plan gives them
abbrev pub HaveSizes : {W : Type 0} → List ChipPlan → List (ChipState W) → Type 0
HaveSizes {W} chips starts =
    map (λ (s : ChipState W). s.geometry) starts ≡ map (λ (chip : ChipPlan). chip.geometry) chips

-- each command of a boot of these chips has such numbers as its chip's sizes ask for
abbrev pub AllFit : {W : Type 0} → Boot → List (ChipState W) → Type 0
AllFit {W} boot starts =
    All (λ (s : ℕ × List Command). All (λ (c : Command). Fits (sizes_of boot starts c) c) s.1) boot.sessions

-- what a controller of chips in these states needs of its part of a boot, beside which commands and
-- cuts are built
pub record IsReady {W : Type 0} (boot : Boot) (starts : List (ChipState W)) : Type 0 where
  pub few : length starts ≤ 8
  pub parts : All (IsOnChip starts) boot.partitions.parts
  pub flips : All (IsOnFlash starts) boot.flips
  pub few_flips : AreFewFlips boot.flips
  pub devices : All (λ (s : ℕ × List Command). All (IsOfDevice boot.partitions) s.1) boot.sessions
  pub fits : AllFit boot starts
  pub ascending : AreAscending boot.sessions
  pub cheap : boot_cost boot starts ≤ 16777216
