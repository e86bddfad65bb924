-- What a report of a run says: histories of one thread, pages that read back, and marks that
-- survive cuts.
use Rattle.std.specs.Prelude.{◌≡◌, ℕ, zero, suc, Bool, false, ◌==◌, List, [], ◌∷◌, ◌++◌, length, map, filter, replicate, take, slice_get, slice_index_or, Option, Some, None}
use Rattle.std.specs.List.{AllZip, concat}
use Rattle.nand_model.specs.Sizes.{numbers_from}
use Rattle.nand_model.specs.Chip.{ChipState, SimFaults, sim_faults}
use Rattle.command_model.specs.Boot.{Boot}
use Rattle.run_model.specs.Course.{Course, end_states}
use Rattle.run_model.specs.History.{ChipBoot, AreOneThread}
use Rattle.run_model.specs.ReadBack.{ReadsBackAlong}
use Rattle.run_model.specs.Log.{Log, AreOfLogs}
use Rattle.run_model.specs.Run.{AreBoots, AreInOrder, AreComplete, MarksSurvive, OneCopyStays, WholeCopiesHoldTheTable}
use Rattle.plan_model.specs.Plan.{PlanData, ChipPlan, BootPlan, SessionPlan, devices_of, new_chips, boot_part}
use Rattle.report_model.specs.Report.{report_text}
use Rattle.nand_model.specs.declared.words.Note.{Note}

-- the courses of a run: a list for each controller, and in it one for each boot
abbrev pub Courses : Type 0
Courses = List (List (Course SimFaults))

-- a controller's part of each boot
abbrev pub boot_parts : PlanData → ℕ → List ChipPlan → List Boot
boot_parts plan c chips = map (boot_part plan c chips) plan.boots

-- A legal run of the plan: each controller goes through its boots, each from the states that the
-- one before it left, by these turns. Nothing more is asked, so that a judge of reports needs no
-- more than this.
pub record IsRun (plan : PlanData) (turns : List (List (List ℕ))) (courses : Courses) : Type 0 where
  pub controllers : length courses ≡ length plan.controllers
  pub boots : (c : ℕ) (chips : List ChipPlan) (own : List (Course SimFaults))
      → slice_get plan.controllers c ≡ Some chips → slice_get courses c ≡ Some own
      → AreBoots sim_faults (new_chips chips) (boot_parts plan c chips) (slice_index_or turns c []) own

-- the notes of a course, where there is one
abbrev pub notes_of_course : Option (Course SimFaults) → List Note
notes_of_course None = []
notes_of_course (Some course) = course.notes

-- the notes of a controller in boot n
abbrev pub notes_in : ℕ → List (Course SimFaults) → List Note
notes_in n own = notes_of_course (slice_get own n)

-- the notes of a run: a list for each boot, and in it one for each controller
abbrev pub notes_of_run : PlanData → Courses → List (List (List Note))
notes_of_run plan courses = map (λ n. map (notes_in n) courses) (numbers_from 0 (length plan.boots))

-- the states in which boot n begins
abbrev pub starts_at : List (ChipState SimFaults) → List (Course SimFaults) → ℕ → List (ChipState SimFaults)
starts_at starts courses zero = starts
starts_at starts [] (suc n) = starts
starts_at starts (course ∷ courses) (suc n) = starts_at (end_states course) courses n

-- the first part of the headline, of one controller with these lives of its chips: its notes are a
-- history of one thread
pub record IsHistoryOfRun (plan : PlanData) (c : ℕ) (chips : List ChipPlan) (own : List (Course SimFaults))
    (lives : List (List ChipBoot)) : Type 0 where
  -- the chips' lives are what befell them by one list of page events in each boot, with the boot's
  -- flips and cut
  pub logs : List Log
  pub counted : map (λ (course : Course SimFaults). course.events) own ≡ map (λ (log : Log). length log) logs
  pub of_logs : AreOfLogs sim_faults (new_chips chips) (boot_parts plan c chips) own lives logs
  -- each chip did one operation after another
  pub one_thread : AreOneThread sim_faults (devices_of plan c chips) (new_chips chips) lives
      (map (λ (course : Course SimFaults). course.notes) own)
  -- each session's operations stand once and in order, and on a controller that was not cut nothing
  -- is left
  pub in_order : AllZip (λ boot (course : Course SimFaults). AreInOrder boot (new_chips chips) course.notes)
      (boot_parts plan c chips) own
  pub complete : AllZip (λ boot (course : Course SimFaults). course.dark ≡ false
      → AreComplete boot (new_chips chips) course.notes)
      (boot_parts plan c chips) own

-- the second part: a programmed page with few flips reads back its bytes and exact counts, over all
-- boots
abbrev pub ReadsBackInRun : List ChipPlan → List (List ChipBoot) → Type 0
ReadsBackInRun chips lives =
    (k : ℕ) (s : ChipState SimFaults) (life : List ChipBoot) →
    slice_get (new_chips chips) k ≡ Some s → slice_get lives k ≡ Some life → ReadsBackAlong sim_faults s [] life

-- what is true of a controller's courses in a legal run: the first two parts, of the same lives of
-- its chips
pub record IsTrueHistory (plan : PlanData) (c : ℕ) (chips : List ChipPlan) (own : List (Course SimFaults)) : Type 0
  where
    pub lives : List (List ChipBoot)
    pub history : IsHistoryOfRun plan c chips own lives
    pub reads_back : ReadsBackInRun chips lives

-- the same of each controller
abbrev pub AreTrueHistories : PlanData → Courses → Type 0
AreTrueHistories plan courses =
    (c : ℕ) (chips : List ChipPlan) (own : List (Course SimFaults)) →
    slice_get plan.controllers c ≡ Some chips → slice_get courses c ≡ Some own → IsTrueHistory plan c chips own

-- the third part: after any cut, rescanning shows bad what was acknowledged, and nothing whose
-- marking had not begun; and at each moment of each boot one whole copy of a table stays, and two
-- whole copies hold the table in memory
pub record KeepsMarks (plan : PlanData) (c : ℕ) (chips : List ChipPlan) (own : List (Course SimFaults)) : Type 0 where
  pub marks : (k : ℕ) (chip : ChipPlan) → slice_get chips k ≡ Some chip
      → MarksSurvive (devices_of plan c chips) k chip.geometry chip.bad own
  pub copies_stay : (k n : ℕ) (chip : ChipPlan) (boot : Boot) → slice_get chips k ≡ Some chip
      → slice_get (boot_parts plan c chips) n ≡ Some boot
      → OneCopyStays sim_faults k chip.geometry chip.bad (take n own) boot (starts_at (new_chips chips) own n)
  pub copies_hold : (k n : ℕ) (chip : ChipPlan) (boot : Boot) → slice_get chips k ≡ Some chip
      → slice_get (boot_parts plan c chips) n ≡ Some boot
      → WholeCopiesHoldTheTable sim_faults k chip.geometry chip.bad (take n own) boot
      (starts_at (new_chips chips) own n)

-- the same of each controller
abbrev pub KeepMarks : PlanData → Courses → Type 0
KeepMarks plan courses =
    (c : ℕ) (chips : List ChipPlan) (own : List (Course SimFaults)) →
    slice_get plan.controllers c ≡ Some chips → slice_get courses c ≡ Some own → KeepsMarks plan c chips own

-- whether a session is there and is this controller's
abbrev pub is_session_of : ℕ → Option SessionPlan → Bool
is_session_of c None = false
is_session_of c (Some session) = session.controller == c

-- a session of this controller
abbrev pub is_own : BootPlan → ℕ → ℕ → Bool
is_own boot c s = is_session_of c (slice_get boot.sessions s)

-- the turns of a replay: those of the schedule, and then so many rounds of all sessions, as far as
-- they are this controller's
abbrev pub replay_turns : BootPlan → ℕ → ℕ → List ℕ
replay_turns boot rounds c =
    filter (is_own boot c) (boot.schedule ++ concat (replicate rounds (numbers_from 0 (length boot.sessions))))

-- the turns of a replay: a list for each controller, and in it one for each boot
abbrev pub all_replay_turns : PlanData → ℕ → List (List (List ℕ))
all_replay_turns plan rounds =
    map (λ c. map (λ (boot : BootPlan). replay_turns boot rounds c) plan.boots)
    (numbers_from 0 (length plan.controllers))

-- the courses of a replay of the plan
pub record AreReplay (plan : PlanData) (courses : Courses) : Type 0 where
  pub rounds : ℕ
  pub run : IsRun plan (all_replay_turns plan rounds) courses

-- the text is the report of the plan's replay, with all three parts of the headline; the plan has
-- no other replay
pub record IsReplayOf (plan : PlanData) (text : List ℕ) : Type 0 where
  pub courses : Courses
  pub replay : AreReplay plan courses
  pub only : (other : Courses) → AreReplay plan other → other ≡ courses
  pub histories : AreTrueHistories plan courses
  pub marks : KeepMarks plan courses
  pub printed : text ≡ report_text plan (notes_of_run plan courses)

-- the text is the report of a run of the plan, whichever turns the threads took, with all three
-- parts
pub record IsReportOfRun (plan : PlanData) (text : List ℕ) : Type 0 where
  pub turns : List (List (List ℕ))
  pub courses : Courses
  pub run : IsRun plan turns courses
  pub histories : AreTrueHistories plan courses
  pub marks : KeepMarks plan courses
  pub printed : text ≡ report_text plan (notes_of_run plan courses)

-- a report is legal where it is that of a legal run of the plan
pub record IsLegalReport (plan : PlanData) (text : List ℕ) : Type 0 where
  pub turns : List (List (List ℕ))
  pub courses : Courses
  pub run : IsRun plan turns courses
  pub printed : text ≡ report_text plan (notes_of_run plan courses)
