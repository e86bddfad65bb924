-- What the controllers of a plan leave of a boot, and where they stand between boots.
use Rattle.std.specs.Prelude.{◌≡◌, ℕ, List, ◌++◌, length, map, flat_map, take, slice_get, Some}
use Rattle.nand_model.specs.Chip.{ChipState, SimFaults, sim_faults}
use Rattle.nand_model.specs.Sizes.{numbers_from}
use Rattle.nand_model.specs.declared.words.Note.{Note}
use Rattle.nand_model.specs.declared.words.Stats.{Stats}
use Rattle.command_model.specs.Boot.{Boot}
use Rattle.run_model.specs.Course.{Course, end_states}
use Rattle.run_model.specs.Statistics.{device_statistics}
use Rattle.plan_model.specs.Plan.{PlanData, devices_of, new_chips}
use Rattle.plan_laws.specs.Ready.{HaveSizes, boot_at, chips_at}
use Rattle.report_model.specs.Report.{boot_text, boots_text, controller_lines}
use Rattle.session_steps.specs.Ended.{EndOfSession}
use Rattle.ctl_core.specs.Ended.{all_bad_blocks, ends_by_notes}
use Rattle.session_run.specs.Replay.{IsReplayed}
use Rattle.headline_model.specs.Headline.{Courses, notes_in, starts_at}
use Rattle.headline_laws.specs.Replays.{AreReplaysOfBoots, IsReplayOfBoot}
use Rattle.onfi_bus.specs.Lab.{lab_state}
use Rattle.plan_replay.specs.declared.controller.EndedController.{EndedController}
use Rattle.plan_replay.specs.Ends.{device_text, ends_in, sums_in}

-- what a controller leaves of a boot that it began in these states, by this schedule
pub record EndsReplay (boot : Boot) (starts : List (ChipState SimFaults)) (schedule : List ℕ)
    (flashes : List (ChipState SimFaults)) (notes : List Note) (ends : List EndOfSession) (sums : List (ℕ × Stats))
    (bad : ℕ) : Type 0 where
  pub course : Course SimFaults
  pub replayed : IsReplayed sim_faults boot starts schedule course
  pub flashes_are : flashes ≡ end_states course
  pub notes_are : notes ≡ course.notes
  pub ends_are : ends ≡ ends_by_notes boot starts course.notes
  pub sums_are : sums ≡ device_statistics boot.partitions course
  pub bad_are : bad ≡ all_bad_blocks boot.partitions course

-- the notes of a controller that went through a boot
abbrev pub notes_of : EndedController → List Note
notes_of ended = ended.notes.value.notes

-- how the sessions of controller c ended in boot n and what its devices counted is as its notes say
pub record EndsByNotes (plan : PlanData) (n c : ℕ) (ended : EndedController) : Type 0 where
  pub ends_are : ended.outcomes ≡ ends_in plan c (boot_at plan n) (notes_of ended)
  pub sums_are : ended.stats ≡ sums_in plan c (boot_at plan n) (notes_of ended)

-- the same of all controllers
pub record EndByNotes (plan : PlanData) (n : ℕ) (ends : List EndedController) : Type 0 where
  pub many : length ends ≡ length plan.controllers
  pub each : (c : ℕ) (ended : EndedController) → slice_get ends c ≡ Some ended → EndsByNotes plan n c ended

-- controller c went through boot n of the plan from these states, on this course
pub record EndsBoot (plan : PlanData) (n c : ℕ) (starts : List (ChipState SimFaults)) (course : Course SimFaults)
    (ended : EndedController) : Type 0 where
  pub replay : IsReplayOfBoot plan c (chips_at plan c) (boot_at plan n) starts course
  pub flashes_are : map lab_state ended.flashes ≡ end_states course
  pub notes_are : notes_of ended ≡ course.notes
  pub by_notes : EndsByNotes plan n c ended
  pub bad_are : ended.bad ≡ all_bad_blocks (devices_of plan c (chips_at plan c)) course

-- the lines of its devices
abbrev pub devices_text : EndedController → List ℕ
devices_text ended = flat_map device_text ended.stats

-- a controller that goes through a boot: the states in which it begins, its course, and what it
-- leaves
pub record Through : Type 0 where
  pub starts : List (ChipState SimFaults)
  pub course : Course SimFaults
  pub ended : EndedController

-- these controllers, the first ones of the plan, went through boot n
abbrev pub AreThrough : PlanData → ℕ → List Through → Type 0
AreThrough plan n through =
    (c : ℕ) (t : Through) → slice_get through c ≡ Some t → EndsBoot plan n c t.starts t.course t.ended

-- the states in which they began
abbrev pub starts_of : List Through → List (List (ChipState SimFaults))
starts_of through = map (λ (t : Through). t.starts) through

-- what they left
abbrev pub ends_of : List Through → List EndedController
ends_of through = map (λ (t : Through). t.ended) through

-- all controllers went through boot n from these states, and their notes were added to the text
pub record GoThroughBoot (plan : PlanData) (n : ℕ) (starts : List (List (ChipState SimFaults)))
    (ends : List EndedController) (before text : List ℕ) : Type 0 where
  pub through : List Through
  pub are_through : AreThrough plan n through
  pub starts_are : starts_of through ≡ starts
  pub ends_are : ends_of through ≡ ends
  pub many : length ends ≡ length plan.controllers
  pub printed : text ≡ before ++ controller_lines 0 (map notes_of ends)

-- the states of the flashes that controllers left
abbrev pub states_left : List EndedController → List (List (ChipState SimFaults))
states_left ends = map (λ (ended : EndedController). map lab_state ended.flashes) ends

-- all controllers went through boot n from these states to those, and its text was added
pub record EndBoot (plan : PlanData) (n : ℕ) (starts after : List (List (ChipState SimFaults))) (before text : List ℕ)
    : Type 0 where
  pub through : List Through
  pub are_through : AreThrough plan n through
  pub starts_are : starts_of through ≡ starts
  pub after_are : after ≡ states_left (ends_of through)
  pub many : length through ≡ length plan.controllers
  pub printed : text ≡ before ++ boot_text plan n (boot_at plan n) (map notes_of (ends_of through))

-- the flashes of each controller have the sizes that the plan gives its chips
pub record AllHaveSizes (plan : PlanData) (states : List (List (ChipState SimFaults))) : Type 0 where
  pub many : length states ≡ length plan.controllers
  pub each : (c : ℕ) (own : List (ChipState SimFaults)) → slice_get states c ≡ Some own
      → HaveSizes (chips_at plan c) own

-- a controller between boots: its courses so far, and the states of its flashes
pub record Standing : Type 0 where
  pub own : List (Course SimFaults)
  pub states : List (ChipState SimFaults)

-- controller c has been through the first n boots of the plan
pub record HasBeenThrough (plan : PlanData) (n c : ℕ) (s : Standing) : Type 0 where
  pub replays : AreReplaysOfBoots plan c (chips_at plan c) (new_chips (chips_at plan c)) (take n plan.boots) s.own
  pub states_are : s.states ≡ starts_at (new_chips (chips_at plan c)) s.own n

-- the notes of the first n boots
abbrev pub notes_before : ℕ → Courses → List (List (List Note))
notes_before n courses = map (λ k. map (notes_in k) courses) (numbers_from 0 n)

-- the courses of controllers
abbrev pub courses_of : List Standing → Courses
courses_of standing = map (λ (s : Standing). s.own) standing

-- the states of their flashes
abbrev pub states_of : List Standing → List (List (ChipState SimFaults))
states_of standing = map (λ (s : Standing). s.states) standing

-- all controllers have been through the first n boots, which left these states and this text
pub record HaveBeenThrough (plan : PlanData) (n : ℕ) (states : List (List (ChipState SimFaults))) (text : List ℕ)
    : Type 0 where
  pub standing : List Standing
  pub many : length standing ≡ length plan.controllers
  pub each : (c : ℕ) (s : Standing) → slice_get standing c ≡ Some s → HasBeenThrough plan n c s
  pub states_are : states ≡ states_of standing
  pub printed : text ≡ boots_text plan 0 (take n plan.boots) (notes_before n (courses_of standing))
