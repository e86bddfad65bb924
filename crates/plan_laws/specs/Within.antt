-- What a plan that was read keeps: its limits, and that what its lines name is there.
use Rattle.std.specs.Prelude.{◌≡◌, ℕ, ◌<◌, ◌≤◌, true, List, length, sum_by, All}
use Rattle.nand_model.specs.Chip.{ChipState}
use Rattle.nand_model.specs.declared.words.Weak.{Weak}
use Rattle.plan_model.specs.Plan.{PlanData, ChipPlan, BootPlan, SessionPlan, part_count}
use Rattle.plan_grammar.specs.declared.lines.PlanLines.{PlanLines}
use Rattle.plan_grammar.specs.Limits.{most_controllers, most_chips, most_boots, most_sessions, most_bytes}
use Rattle.plan_grammar.specs.Devices.{are_different}
use Rattle.plan_grammar.specs.Hardware.{leaves_table_blocks, place_count}
use Rattle.plan_grammar.specs.Grammar.{IsPlan}
use Rattle.plan_grammar.specs.Meaning.{plan_of}
use Rattle.plan_laws.specs.Ready.{HaveSizes, IsReady, chips_at, part_at}

-- a chip whose bad blocks and weak places are there, and whose tables find enough good blocks
pub record IsGoodChip (chip : ChipPlan) : Type 0 where
  pub bad : All (λ block. block < chip.geometry.blocks) chip.bad
  pub different : are_different chip.bad ≡ true
  pub tables : leaves_table_blocks chip.geometry chip.bad ≡ true
  pub weak : All (λ (w : Weak). w.at < place_count chip.geometry w.kind) chip.weak

-- the chips of a controller
pub record AreGoodChips (chips : List ChipPlan) : Type 0 where
  pub some : 0 < length chips
  pub few : length chips ≤ most_chips
  pub good : All IsGoodChip chips

-- a boot whose sessions are few and of these controllers, and whose schedule names them
pub record IsGoodBoot (controllers : ℕ) (boot : BootPlan) : Type 0 where
  pub few : length boot.sessions ≤ most_sessions
  pub own : All (λ (s : SessionPlan). s.controller < controllers) boot.sessions
  pub schedule : All (λ s. s < length boot.sessions) boot.schedule

-- what a plan that was read keeps
pub record IsWithinLimits (plan : PlanData) : Type 0 where
  pub some : 0 < length plan.boots
  pub few_boots : length plan.boots ≤ most_boots
  pub few_controllers : length plan.controllers ≤ most_controllers
  pub few_devices : sum_by part_count plan.controllers ≤ most_bytes
  pub chips : All AreGoodChips plan.controllers
  pub boots : All (IsGoodBoot (length plan.controllers)) plan.boots

-- each controller can be given its part of each boot, on chips of the plan's sizes
abbrev pub IsReadyThroughout : (W : Type 0) → PlanData → Type 0
IsReadyThroughout W plan =
    (starts : List (ChipState W)) (n c : ℕ) → n < length plan.boots → c < length plan.controllers →
    HaveSizes (chips_at plan c) starts → IsReady (part_at plan n c) starts

-- plans keep their limits
abbrev pub PlansKeepLimits : Type 0
PlansKeepLimits = (bytes : List ℕ) (plan : PlanLines) → IsPlan bytes plan → IsWithinLimits (plan_of plan)

-- and give each controller at its start what it needs
abbrev pub PlansAreReady : (W : Type 0) → Type 0
PlansAreReady W = (bytes : List ℕ) (plan : PlanLines) → IsPlan bytes plan → IsReadyThroughout W (plan_of plan)
