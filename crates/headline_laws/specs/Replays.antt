-- Replays of the boots of each controller of a plan, each boot with a number of rounds of its own.
use Rattle.std.specs.Prelude.{◌≡◌, ℕ, List, [], ◌∷◌, length, filter, slice_get, Some, ⊤}
use Rattle.nand_model.specs.Chip.{ChipState, SimFaults, sim_faults}
use Rattle.run_model.specs.Course.{Course, IsWholeCourse, end_states}
use Rattle.plan_model.specs.Plan.{BootPlan, ChipPlan, PlanData, boot_part, new_chips}
use Rattle.headline_model.specs.Headline.{Courses, is_own, replay_turns}

-- the turns of a schedule that are of this controller's sessions
abbrev pub own_schedule : BootPlan → ℕ → List ℕ
own_schedule boot c = filter (is_own boot c) boot.schedule

-- the course is a controller's in a replay of a boot that begins in these states
pub record IsReplayOfBoot (plan : PlanData) (c : ℕ) (chips : List ChipPlan) (boot : BootPlan)
    (starts : List (ChipState SimFaults)) (course : Course SimFaults) : Type 0 where
  pub rounds : ℕ
  pub whole : IsWholeCourse sim_faults (boot_part plan c chips boot) starts (replay_turns boot rounds c) course

-- the courses are a controller's in replays of these boots, each from the states that the one
-- before it left
abbrev pub AreReplaysOfBoots : PlanData → ℕ → List ChipPlan → List (ChipState SimFaults) → List BootPlan
    → List (Course SimFaults) → Type 0
AreReplaysOfBoots plan c chips starts [] [] = ⊤
AreReplaysOfBoots plan c chips starts (boot ∷ boots) (course ∷ courses) =
    IsReplayOfBoot plan c chips boot starts course
    × AreReplaysOfBoots plan c chips (end_states course) boots courses
AreReplaysOfBoots plan c chips starts _ _ = ⊥

-- each controller of the plan has such courses of all boots, from its new chips on
pub record AreReplaysOfAll (plan : PlanData) (courses : Courses) : Type 0 where
  pub controllers : length courses ≡ length plan.controllers
  pub boots : (c : ℕ) (chips : List ChipPlan) (own : List (Course SimFaults))
      → slice_get plan.controllers c ≡ Some chips → slice_get courses c ≡ Some own
      → AreReplaysOfBoots plan c chips (new_chips chips) plan.boots own
