-- A chip whose next event was torn.
use Rattle.std.proofs.Common.{◌≡◌, Option, ap, sym, subst, ◌∙◌}
use Rattle.std.specs.Prelude.{IsSome, IfSome}
use Rattle.nand_iface.proofs.FlashLemmas.{happens-geometry}
use Rattle.nand_model.specs.Chip.{ChipState, FaultModel, PageEvent, PowerCut, done_bits}
use Rattle.nand_model.specs.Sizes.{raw_len}
use Rattle.nand_model.specs.declared.tear.Tear.{Tear}
use Rattle.nand_model.specs.declared.words.Fairness.{Fairness}
use Rattle.chip_paths.specs.Stage.{Stage, Works, stage_event}
use Rattle.chip_core.specs.Knowledge.{known_with}
use Rattle.chip_core.specs.Phase.{phase_stage}
use Rattle.chip_core.specs.Task.{StaysSo, table_before, task_event, task_left, task_progress}
use Rattle.chip_core.specs.Torn.{IsTorn}
use Rattle.chip_core.specs.declared.knowledge.Knowledge.{Knowledge}
use Rattle.chip_core.specs.declared.phase.Phase.{Phase}
use Rattle.chip_core.specs.declared.phase.Phase.TheVariants.{Working}
use Rattle.chip_core.specs.declared.task.Task.{Task}
use Rattle.chip_core.proofs.Advancing.{task_event_is}
use Rattle.chip_core.proofs.Named.{from_some}

-- a torn event leaves the sizes of a chip
pub torn-sizes : {W : Type 0} (model : FaultModel W) (tear : Tear) (s after : ChipState W) (told : Fairness) (event : Option PageEvent) → IsSome event
    → IfSome event (IsTorn model tear s after told) → after.geometry ≡ s.geometry
torn-sizes {W} model tear s after told event there torn =
    from_some (IsTorn model tear s after told) (after.geometry ≡ s.geometry) event there torn
    (λ e is. ap (λ (t : ChipState W). t.geometry) is.state ∙ happens-geometry model s (PowerCut e (done_bits (raw_len s.geometry) tear)))

-- what holds at the event of a task holds at that of its stage
pub of_work : (known : Knowledge) (phase : Phase) (task : Task) → phase ≡ Working task → (P : Stage → PageEvent → Type 0)
    → IfSome (task_event known.geometry known.table task) (P (phase_stage known (Working task)))
    → IfSome (stage_event (phase_stage known phase)) (P (phase_stage known phase))
of_work known phase task is P holds =
    let At : Phase → Type 0 = λ p. IfSome (stage_event (phase_stage known p)) (P (phase_stage known p)) in
    subst At (sym is) (subst (λ event. IfSome event (P (phase_stage known (Working task)))) (task_event_is known task) holds)

-- a task that stays as it is stays at its stage
pub work-stays : (known : Knowledge) (old new : Task) → StaysSo known.geometry known.table old new
    → phase_stage known (Working new) ≡ phase_stage known (Working old)
work-stays known old new stays =
    (λ i. Works (known_with known (stays.before i)) (stays.progress i) (task_left known.geometry known.table (known_with known (stays.before i)) new))
    ∙ ap (Works (known_with known (table_before known.table old)) (task_progress old)) (stays.left (known_with known (table_before known.table old)))
