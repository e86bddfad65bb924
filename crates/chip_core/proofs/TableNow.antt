-- The table in memory within an operation.
use Rattle.std.proofs.Common.{◌≡◌, Some, refl, ap, sym}
use Rattle.chip_paths.specs.ChipRun.{table_at}
use Rattle.chip_paths.specs.Stage.{stage_table}
use Rattle.bbt_flash.specs.Update.{update_writing}
use Rattle.chip_core.specs.Phase.{PhaseFits, known_before, phase_stage}
use Rattle.chip_core.specs.Task.{HasMarked, task_left, task_progress}
use Rattle.chip_core.specs.declared.attach_run.AttachRun.{AttachRun}
use Rattle.chip_core.specs.declared.knowledge.Knowledge.{Knowledge}
use Rattle.chip_core.specs.declared.phase.Phase.{Phase}
use Rattle.chip_core.specs.declared.phase.Phase.TheVariants.{Attaching, Resting, Working}
use Rattle.chip_core.specs.declared.task.Task.{Task}
use Rattle.chip_core.specs.declared.task.Task.TheVariants.{Reading, Decoding as IsDecoding, Programming, Erasing, Marking, Marker, Writing as IsWriting, Marked, MarkerFailed, Decoded, AtOnce, Ended}
use Rattle.chip_core.proofs.WritingTables.{table-then}

-- it is that of the stage
during : (known : Knowledge) (task : Task) → HasMarked known.table task
    → table_at (task_progress task) (task_left known.geometry known.table (known_before known task) task) (known_before known task).table ≡ known.table
during known (Reading page cells) has = refl
during known (IsDecoding dev page cells) has = refl
during known (Programming page image) has = refl
during known (Erasing block) has = refl
during known (Marking block image) has = refl
during known (Marker block image) has = refl
during known (IsWriting w) has =
    table-then known.geometry (known_before known (IsWriting w)) w.marker (update_writing w.update known.table)
during known (Marked block before) has = sym has
during known MarkerFailed has = refl
during known (Decoded dev kind read image) has = refl
during known (AtOnce reply) has = refl
during known (Ended reply) has = refl

pub table-now : (known : Knowledge) (phase : Phase) → PhaseFits known.geometry known.table known.sums phase
    → ((run : AttachRun) → phase ≡ Attaching run → ⊥) → stage_table (phase_stage known phase) ≡ Some known.table
table-now known (Attaching run) fits attached = absurd (attached run refl)
table-now known Resting fits attached = refl
table-now known (Working task) fits attached = ap Some (during known task fits.marked)
