-- What an event does to a chip, said of what it was at.
use Rattle.std.proofs.Common.{◌≡◌, ℕ, Bool, true, false, List, Option, Some, None, refl, ap, sym, subst, ◌∙◌}
use Rattle.std.specs.Prelude.{IsSome, IfSome, is_some}
use Rattle.std.proofs.lemmas.Bool.{false≢true}
use Rattle.std.proofs.lemmas.Option.{IfSome_then}
use Rattle.nand_model.specs.Chip.{ChipState, Complete, FaultModel, PageEvent}
use Rattle.chip_paths.specs.Operation.{Known, after_writing, mark_reply, writing_reply}
use Rattle.nand_model.specs.Path.{answer_to, first_event, is_failure}
use Rattle.nand_model.specs.declared.geometry.Geometry.{Geometry}
use Rattle.nand_model.specs.declared.words.Fairness.{Fairness}
use Rattle.nand_iface.proofs.FlashLemmas.{happens-geometry}
use Rattle.chip_paths.specs.Stage.{Stage, Works, failure_told, fairness_where_failed, path_after, stage_after, stage_event}
use Rattle.bbt_flash.specs.Attach.{attach_left}
use Rattle.bbt_flash.specs.Events.{answer_of}
use Rattle.bbt_flash.specs.Update.{update_writing}
use Rattle.bbt_flash.proofs.Updating.{over-event}
use Rattle.chip_core.specs.AttachRun.{Watches}
use Rattle.chip_core.specs.Phase.{AttachFits, KnowsQuiet, PhaseFits, known_before, phase_stage}
use Rattle.chip_core.specs.Task.{Advances, KeepsKnown, task_event, task_left}
use Rattle.chip_core.specs.declared.attach_run.AttachRun.{AttachRun}
use Rattle.chip_core.specs.declared.phase.Phase.{Phase}
use Rattle.chip_core.specs.declared.phase.Phase.TheVariants.{Attaching as IsAttaching, Working}
use Rattle.chip_core.specs.declared.knowledge.Knowledge.{Knowledge}
use Rattle.chip_core.specs.declared.task.Task.{Task}
use Rattle.chip_core.specs.declared.task.Task.TheVariants.{Reading, Decoding as IsDecoding, Programming, Erasing, Marking, Marker, Writing as IsWriting, Marked, MarkerFailed, Decoded, AtOnce, Ended}

-- the next event of a task is that of its path
event_is : (g : Geometry) (table : List ℕ) (k : Known) (task : Task) → task_event g table task ≡ first_event (task_left g table k task)
event_is g table k (Reading page cells) = refl
event_is g table k (IsDecoding dev page cells) = refl
event_is g table k (Programming page image) = refl
event_is g table k (Erasing block) = refl
event_is g table k (Marking block image) = refl
event_is g table k (Marker block image) = refl
event_is g table k (IsWriting w) =
    sym (over-event g (update_writing w.update table)
    (λ end. record { reply = mark_reply (answer_of w.marker) (writing_reply end.failed); known = after_writing k end }))
event_is g table k (Marked block before) = refl
event_is g table k MarkerFailed = refl
event_is g table k (Decoded dev kind read image) = refl
event_is g table k (AtOnce reply) = refl
event_is g table k (Ended reply) = refl

-- a task has an event where its stage has one
pub working_has_event : (known : Knowledge) (phase : Phase) (task : Task) → phase ≡ Working task → IsSome (stage_event (phase_stage known phase))
    → IsSome (task_event known.geometry known.table task)
working_has_event known phase task is h =
    subst IsSome (sym (event_is known.geometry known.table (known_before known task) task)) (subst (λ p. IsSome (stage_event (phase_stage known p))) is h)

pub task_event_is : (known : Knowledge) (task : Task) → task_event known.geometry known.table task ≡ stage_event (phase_stage known (Working task))
task_event_is known task = event_is known.geometry known.table (known_before known task) task

told_where_failed : (failed : Bool) (fairness : Fairness) → is_some (fairness_where_failed failed fairness) ≡ failed
told_where_failed true fairness = refl
told_where_failed false fairness = refl

pub some_where_failed : {W : Type 0} (model : FaultModel W) (s : ChipState W) (e : PageEvent) (told : Option Fairness) → told ≡ failure_told model s e
    → is_some told ≡ is_failure (answer_to model s e)
some_where_failed model s e told is = ap is_some is ∙ told_where_failed (is_failure (answer_to model s e)) _

module _ {W : Type 0} (model : FaultModel W) (before after : ChipState W) (known later : Knowledge) (old new : Task) (told : Option Fairness) where
  abbrev Done : PageEvent → Type 0
  Done = Advances model before after known later old new told

  -- what follows from one event of the task
  pub of_event : (event : Option PageEvent) → IsSome event → IfSome event (Advances model before after known later old new told)
      → (P : Type 0) → ((e : PageEvent) → Advances model before after known later old new told e → P) → P
  of_event None there done P all = absurd (false≢true there)
  of_event (Some e) there done P all = all e done

  -- an event leaves the sizes of a chip
  pub sizes_kept : (e : PageEvent) → Advances model before after known later old new told e → after.geometry ≡ before.geometry
  sizes_kept e done = ap (λ (s : ChipState W). s.geometry) done.state ∙ happens-geometry model before (Complete e)

  -- an event of the operation in flight
  module _ (sizes : before.geometry ≡ known.geometry) (phase : Phase) (is : phase ≡ Working old)
      (advanced : IfSome (task_event known.geometry known.table old) (Advances model before after known later old new told)) where
    pub of_operation : (P : Stage → PageEvent → Type 0)
        → ((e : PageEvent) → Advances model before after known later old new told e → P (phase_stage known (Working old)) e)
        → IfSome (stage_event (phase_stage known phase)) (P (phase_stage known phase))
    of_operation P each =
        let At : Phase → Type 0 = λ p. IfSome (stage_event (phase_stage known p)) (P (phase_stage known p)) in
        let Has : Option PageEvent → Type 0 = λ event. IfSome event (P (phase_stage known (Working old))) in
        subst At (sym is) (subst Has (task_event_is known old) (IfSome_then (task_event known.geometry known.table old) advanced each))

    pub works_on : KeepsKnown known later old new → (quiet : Bool)
        → IfSome (stage_event (phase_stage known phase)) (λ e. phase_stage later (Working new)
        ≡ stage_after quiet (answer_to model before e) (phase_stage known phase))
    works_on keeps quiet =
        of_operation (λ stage e. phase_stage later (Working new) ≡ stage_after quiet (answer_to model before e) stage)
        (λ e done.
        let k = known_before known old in
        let then = known_before later new in
        let Goes : Geometry → Type 0 =
        λ g. task_left g later.table then new ≡ path_after (answer_to model before e) (task_left g known.table k old) in
        let left : task_left later.geometry later.table then new ≡ path_after (answer_to model before e) (task_left known.geometry known.table k old) =
        ap (λ (g : Geometry). task_left g later.table then new) keeps.geometry ∙ subst Goes sizes done.left in
        (λ i. Works (keeps.before i) (done.progress i) (left i)))

-- an event of an attach
module _ {W : Type 0} (before : ChipState W) (known : Knowledge) (phase : Phase) (run : AttachRun) (is : phase ≡ IsAttaching run) where
  pub attach_watches : KnowsQuiet before phase → Watches before run
  attach_watches knows = let Knows : Phase → Type 0 = λ p. KnowsQuiet before p in subst Knows is knows

  pub attach_fits : PhaseFits known.geometry known.table known.sums phase → AttachFits known.geometry known.sums run
  attach_fits fits = subst (PhaseFits known.geometry known.table known.sums) is fits

  -- an attach has its event where its stage has one
  pub attach_has_event : IsSome (stage_event (phase_stage known phase)) → IsSome (first_event (attach_left run.attach))
  attach_has_event h = subst (λ p. IsSome (stage_event (phase_stage known p))) is h

  -- and what holds at its event holds at that of the stage
  pub of_attach : (P : Stage → PageEvent → Type 0)
      → IfSome (first_event (attach_left run.attach)) (P (phase_stage known (IsAttaching run)))
      → IfSome (stage_event (phase_stage known phase)) (P (phase_stage known phase))
  of_attach P h = let At : Phase → Type 0 = λ p. IfSome (stage_event (phase_stage known p)) (P (phase_stage known p)) in subst At (sym is) h
