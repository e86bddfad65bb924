-- An operation that begins on a chip at rest.
use Rattle.std.proofs.Common.{◌≡◌, true, Result, Ok, Err, ap, ◌∙◌}
use Rattle.std.specs.Prelude.{OnErr}
use Rattle.std.proofs.lemmas.Bool.{false≢true}
use Rattle.nand_model.specs.Partitions.{Partitions}
use Rattle.nand_model.specs.declared.geometry.Geometry.{Geometry}
use Rattle.nand_model.specs.declared.words.Op.{Op}
use Rattle.chip_paths.specs.ChipRun.{AtStart}
use Rattle.chip_paths.specs.Operation.{operation_path}
use Rattle.chip_paths.specs.Stage.{Rests, Works, is_resting, stage_begun}
use Rattle.chip_core.specs.Beginning.{Begins}
use Rattle.chip_core.specs.Knowledge.{known_in, known_with}
use Rattle.chip_core.specs.Phase.{phase_stage}
use Rattle.chip_core.specs.Task.{task_left}
use Rattle.chip_core.specs.declared.knowledge.Knowledge.{Knowledge}
use Rattle.chip_core.specs.declared.phase.Phase.{Phase}
use Rattle.chip_core.specs.declared.phase.Phase.TheVariants.{Attaching, Resting, Working}
use Rattle.chip_core.specs.declared.task.Task.{Task}
use Rattle.chip_core.proofs.Marking.{fresh_table}

module _ (known later : Knowledge) (same : known_with later ≡ known_with known) (table : later.table ≡ known.table) where
  abbrev kept : known_in later ≡ known_in known
  kept = (λ i. same i (table i))

  -- a chip at rest stays where nothing else is known of it
  pub rests_so : (phase : Phase) → is_resting (phase_stage known phase) ≡ true → phase_stage later phase ≡ phase_stage known phase
  rests_so Resting rests = ap Rests kept
  rests_so (Attaching run) rests = absurd (false≢true rests)
  rests_so (Working task) rests = absurd (false≢true rests)

  -- and works at the path of its operation once that has begun
  pub begun_so : (g : Geometry) (partitions : Partitions) (op : Op) (task : Task) → later.geometry ≡ g → Begins later partitions op task
      → (phase : Phase) → is_resting (phase_stage known phase) ≡ true
      → phase_stage later (Working task) ≡ stage_begun g partitions op (phase_stage known phase)
  begun_so g partitions op task sizes begins (Attaching run) rests = absurd (false≢true rests)
  begun_so g partitions op task sizes begins (Working other) rests = absurd (false≢true rests)
  begun_so g partitions op task sizes begins Resting rests =
      let fresh = fresh_table later.table task begins.fresh in
      (λ i. Works (known_with later (fresh i)) (begins.fresh i) (task_left later.geometry later.table (known_with later (fresh i)) task))
      ∙ ap (Works (known_in later) AtStart) begins.follows
      ∙ (λ i. Works (kept i) AtStart (operation_path (sizes i) partitions (kept i) op))

-- what holds in any case holds after a refusal
pub after_refusal : {A E : Type 0} (result : Result A E) (P : Type 0) → P → OnErr result P
after_refusal (Ok x) P holds = tt
after_refusal (Err e) P holds = holds
