-- What a chip is at, as its stage.
use Rattle.std.specs.Prelude.{◌≡◌, ℕ, List, length, ⊤, Option, Some, None, IsSome, IfSome, option_map, Bool}
use Rattle.std.specs.Coded.{Unit-prop}
use Rattle.std.proofs.Props.{props}
use Rattle.nand_model.specs.Chip.{ChipState, Complete, FaultModel, PageEvent, happens}
use Rattle.nand_model.specs.Counts.{HasRisen}
use Rattle.nand_model.specs.Path.{answer_to}
use Rattle.nand_model.specs.Quiet.{is_quiet}
use Rattle.nand_model.specs.declared.geometry.Geometry.{Geometry}
use Rattle.nand_model.specs.declared.words.Fairness.{Fairness}
use Rattle.chip_paths.specs.Attach.{Attaching}
use Rattle.chip_paths.specs.Operation.{Known}
use Rattle.chip_paths.specs.Stage.{Stage, Attaches, Rests, Works, failure_told, pending_note_after, stage_after}
use Rattle.bbt_flash.specs.Attach.{attach_left}
use Rattle.chip_core.specs.AttachRun.{RunFits, RunFits-prop, Watches, attaching_found}
use Rattle.chip_core.specs.Knowledge.{known_in, known_with}
use Rattle.chip_core.specs.Sums.{AreSmall, place_of, stats_in}
use Rattle.chip_core.specs.Task.{HasMarked, HasMarked-prop, TaskFits, TaskFits-prop, counted_by, programs_of, table_before, task_left, task_progress}
use Rattle.chip_core.specs.declared.attach_run.AttachRun.{AttachRun}
use Rattle.chip_core.specs.declared.attach_run.Finding.{Finding}
use Rattle.chip_core.specs.declared.knowledge.Knowledge.{Knowledge}
use Rattle.chip_core.specs.declared.phase.Phase.{Phase}
use Rattle.chip_core.specs.declared.phase.Phase.TheVariants.{Attaching as IsAttaching, Resting, Working}
use Rattle.chip_core.specs.declared.sums.DeviceSums.{DeviceSums}
use Rattle.chip_core.specs.declared.task.Task.{Task}

-- what was known before the operation of a task
abbrev pub known_before : Knowledge → Task → Known
known_before known task = known_with known (table_before known.table task)

-- the stage of a chip of which this is known
abbrev pub phase_stage : Knowledge → Phase → Stage
phase_stage known (IsAttaching run) = Attaches (attach_left run.attach) run.watch.so_far
phase_stage known Resting = Rests (known_in known)
phase_stage known (Working task) =
    let k : Known = known_before known task in
    Works k (task_progress task) (task_left known.geometry known.table k task)

-- an attach fits, and no device has statistics yet
pub record AttachFits (g : Geometry) (sums : List DeviceSums) (run : AttachRun) : Type 0 where
  pub run_fits : RunFits g run
  pub fresh : length sums ≡ 0

pub AttachFits-prop : (g : Geometry) (sums : List DeviceSums) (run : AttachRun) → IsProp (AttachFits g sums run)
AttachFits-prop g sums run = let fits = RunFits-prop g run in hlevel (props, fits)

-- a task fits, the table has its mark, and the statistics that it adds to have an entry and room
pub record WorkFits (g : Geometry) (table : List ℕ) (sums : List DeviceSums) (task : Task) : Type 0 where
  pub task_fits : TaskFits g table task
  pub marked : HasMarked table task
  pub there : (dev : ℕ) → counted_by task ≡ Some dev → IsSome (place_of sums dev)
  pub small : (dev : ℕ) → counted_by task ≡ Some dev → AreSmall (stats_in sums dev)

pub WorkFits-prop : (g : Geometry) (table : List ℕ) (sums : List DeviceSums) (task : Task)
    → IsProp (WorkFits g table sums task)
WorkFits-prop g table sums task =
    let fits = TaskFits-prop g table task in let has = HasMarked-prop table task in hlevel (props, fits, has)

-- what a phase holds fits the chip
abbrev pub PhaseFits : Geometry → List ℕ → List DeviceSums → Phase → Type 0
PhaseFits g table sums (IsAttaching run) = AttachFits g sums run
PhaseFits g table sums Resting = ⊤
PhaseFits g table sums (Working task) = WorkFits g table sums task

pub PhaseFits-prop : (g : Geometry) (table : List ℕ) (sums : List DeviceSums) (phase : Phase)
    → IsProp (PhaseFits g table sums phase)
PhaseFits-prop g table sums (IsAttaching run) = AttachFits-prop g sums run
PhaseFits-prop g table sums Resting = Unit-prop
PhaseFits-prop g table sums (Working task) = WorkFits-prop g table sums task

-- the pages that may still be programmed
abbrev pub programs_left : Geometry → Phase → ℕ
programs_left g (IsAttaching run) = run.programs
programs_left g Resting = 0
programs_left g (Working task) = programs_of g task

-- the greatest page room: what may still be programmed in flight fits beside it in 32 bits
abbrev pub most_page_room : ℕ
most_page_room = 4294967288

-- an attach knows how many blocks are not quiet
abbrev pub KnowsQuiet : {W : Type 0} → ChipState W → Phase → Type 0
KnowsQuiet s (IsAttaching run) = Watches s run
KnowsQuiet s Resting = ⊤
KnowsQuiet s (Working task) = ⊤

pub KnowsQuiet-prop : {W : Type 0} (s : ChipState W) (phase : Phase) → IsProp (KnowsQuiet s phase)
KnowsQuiet-prop s (IsAttaching run) = hlevel props
KnowsQuiet-prop s Resting = Unit-prop
KnowsQuiet-prop s (Working task) = Unit-prop

-- the attach whose note is still to be handed out, by what it found
abbrev pub pending_note_of : Finding → Bool × Attaching
pending_note_of finding = (finding.quiet, attaching_found finding)

-- the same of a chip in this phase; one that still attaches has none
abbrev pub pending_note_in : Phase → Option Finding → Option (Bool × Attaching)
pending_note_in (IsAttaching run) finding = None
pending_note_in Resting finding = option_map pending_note_of finding
pending_note_in (Working task) finding = option_map pending_note_of finding

-- an event of an attach is done: the chip is as after it, the stage and the pending note are those
-- after it, and a failure is told and counted
pub record AttachGoesOn {W : Type 0} (model : FaultModel W) (before after : ChipState W) (run : AttachRun)
    (stage : Stage) (pending_note : Option (Bool × Attaching)) (failure : Option Fairness) (e : PageEvent)
    : Type 0 where
  pub state : after ≡ happens model before (Complete e)
  pub stage_is : stage ≡ stage_after (is_quiet before.geometry before.pages) (answer_to model before e)
      (Attaches (attach_left run.attach) run.watch.so_far)
  pub note_is : (earlier : Option (Bool × Attaching)) → pending_note
      ≡ pending_note_after (is_quiet before.geometry before.pages) (answer_to model before e)
      (Attaches (attach_left run.attach) run.watch.so_far) earlier
  pub told : failure ≡ failure_told model before e
  pub risen : IfSome failure (λ fairness. HasRisen before.faults after.faults)
