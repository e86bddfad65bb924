-- Reads along the lives of chips.
use Rattle.std.proofs.Common.{◌≡◌, ℕ, true, List, [], ◌∷◌, ◌++◌, Option, Some, None, ap, ap₂, sym, ◌∙◌, subst}
use Rattle.std.specs.Prelude.{map, slice_get, Contains}
use Rattle.std.specs.Option.{option_map}
use Rattle.std.proofs.lemmas.Option.{slice_get-map}
use Rattle.nand_model.specs.Page.{page_image, decoded}
use Rattle.nand_model.specs.Chip.{ChipState, FaultModel, ChipEvent, Complete, ReadEvent, after_trace}
use Rattle.nand_model.specs.Path.{answers_of, after_answers, result_of}
use Rattle.chip_paths.specs.Attach.{Attaching}
use Rattle.chip_paths.specs.ChipRun.{known_at_first}
use Rattle.nand_model.specs.Partitions.{Partitions}
use Rattle.chip_paths.specs.Operation.{Known, read_reply, operation_path}
use Rattle.nand_model.specs.declared.geometry.Geometry.{Geometry}
use Rattle.nand_model.specs.declared.words.Op.{Op}
use Rattle.nand_model.specs.declared.words.Reply.{Reply}
use Rattle.nand_model.specs.declared.words.Note.{Note}
use Rattle.run_model.specs.History.{OperationTrace, ChipBoot, events_in, trace_of, known_then, attach_outcome, IsOperationTrace, AreOperationTraces, GoesOn, IsChipLife, AreOneThread}
use Rattle.run_model.specs.ReadBack.{is_read, ReadsBack, IsReadBack, OperationReadsBack, OperationsReadBack, ReadsBackAlong}
use Rattle.command_model.specs.Boot.{Boot}
use Rattle.run_model.specs.Course.{Course, course_after}
use Rattle.run_model.specs.Run.{AreBoots}
use Rattle.run_laws.proofs.Traces.{after-append, geometry_after}
use Rattle.run_laws.proofs.Faithful.{faithful}
use Rattle.run_laws.proofs.Runs.{runs_faithful}
use Rattle.read_laws.specs.Fresh.{IsFresh}
use Rattle.read_laws.specs.Laws.{CoursesReadBack, RunsReadBack}
use Rattle.read_laws.proofs.Filled.{filled_reads}
use Rattle.read_laws.proofs.Replies.{read_reply_is, reply_reads_back}

module _ {W : Type 0} (model : FaultModel W) (partitions : Partitions) (k : ℕ) (fresh : ChipState W) (all_fresh : IsFresh fresh) where
  -- the chip after all that befell it
  abbrev at : List ChipEvent → ChipState W
  at before = after_trace model fresh before

  -- the reply to a read, after all that befell its chip before
  answered : (before flips rest : List ChipEvent) (page : ℕ) (known : Known) (op : Op) (trace : List ChipEvent) (image : List ℕ) (reply : Option Reply)
      → is_read op ≡ true → trace ≡ flips ++ Complete (ReadEvent page) ∷ rest → IsOperationTrace model partitions (at before) known op trace reply
      → ReadsBack fresh.geometry image ((at (before ++ flips)).pages page).cells
      → IsReadBack fresh.geometry image ((at (before ++ flips)).pages page).cells reply
  answered before flips rest page known op trace image None read events traced back = tt
  answered before flips rest page known op trace image (Some reply) read events traced back =
      let g = fresh.geometry in
      let cells = ((at (before ++ flips)).pages page).cells in
      let performed = subst (λ (es : List ChipEvent). IsOperationTrace model partitions (at before) known op es (Some reply)) events traced in
      let replies = read_reply_is model partitions (at before) known op flips rest page reply performed.0 read performed.1 in
      let here : reply ≡ read_reply g (decoded g cells) =
      replies ∙ ap₂ (λ (h : Geometry) (now : ChipState W). read_reply h (decoded h (now.pages page).cells))
      (geometry_after model fresh before) (sym (after-append model fresh before flips)) in
      subst (λ (r : Reply). IsReadBack g image cells (Some r)) (sym here) (reply_reads_back g image cells back)

  operation_reads : (before : List ChipEvent) (known : Known) (operation : OperationTrace)
      → IsOperationTrace model partitions (at before) known operation.op (events_in operation.trace) operation.reply
      → OperationReadsBack model fresh before operation
  operation_reads before known operation traced flips rest page body free fills read events filled few =
      answered before flips rest page known operation.op (events_in operation.trace) (page_image fresh.geometry body free) operation.reply read events traced
      (filled_reads model fresh (before ++ flips) page body free (all_fresh page) fills filled few)

  -- what is known once an operation is over
  abbrev known_after : List ChipEvent → Known → OperationTrace → Known
  known_after before known operation =
      known_then known (result_of (after_answers (answers_of model (at before) (events_in operation.trace))
      (operation_path (at before).geometry partitions known operation.op)))

  operations_read : (before : List ChipEvent) (known : Known) (operations : List OperationTrace) (notes : List Note)
      → AreOperationTraces model partitions k (at before) known operations notes → OperationsReadBack model fresh before operations
  operations_read before known [] notes h = tt
  operations_read before known (operation ∷ later) notes h = (
    operation_reads before known operation h.0,
    operations_read (before ++ events_in operation.trace) (known_after before known operation) later h.2.0
        (subst (λ (s : ChipState W). AreOperationTraces model partitions k s (known_after before known operation) later h.2.0)
        (sym (after-append model fresh before (events_in operation.trace))) h.2.2),
  )

  boot_reads : (before attach : List ChipEvent) (outcome : Option Attaching) (operations : List OperationTrace) (notes : List Note)
      → GoesOn model outcome partitions k (at before) attach operations notes → OperationsReadBack model fresh (before ++ attach) operations
  boot_reads before attach None operations notes h = subst (λ (ops : List OperationTrace). OperationsReadBack model fresh (before ++ attach) ops) (sym h.1) tt
  boot_reads before attach (Some attaching) operations notes h =
      operations_read (before ++ attach) (known_at_first attaching) operations h.0
      (subst (λ (s : ChipState W). AreOperationTraces model partitions k s (known_at_first attaching) operations h.0)
      (sym (after-append model fresh before attach)) h.2)

  pub life_reads : (before : List ChipEvent) (life : List ChipBoot) (notes : List (List Note))
      → IsChipLife model partitions k (at before) life notes → ReadsBackAlong model fresh before life
  life_reads before [] notes h = tt
  life_reads before (b ∷ bs) [] h = absurd h
  life_reads before (b ∷ bs) (notes ∷ more) h = (
    boot_reads before (events_in b.attach) (attach_outcome model (at before) (events_in b.attach)) b.operations h.0.later h.0.goes_on,
    life_reads (before ++ trace_of b) bs more
        (subst (λ (s : ChipState W). IsChipLife model partitions k s bs more) (sym (after-append model fresh before (trace_of b))) h.1),
  )

-- a chip of a history of one thread
pub thread_reads : {W : Type 0} (model : FaultModel W) (partitions : Partitions)
    (starts : List (ChipState W)) (lives : List (List ChipBoot)) (notes : List (List Note)) → AreOneThread model partitions starts lives notes
    → (k : ℕ) (s : ChipState W) (life : List ChipBoot) → slice_get starts k ≡ Some s → IsFresh s → slice_get lives k ≡ Some life
    → ReadsBackAlong model s [] life
thread_reads model partitions starts lives notes threads k s life there fresh lived =
    life_reads model partitions k s fresh [] life notes (threads.chips k s life there lived)

-- of a course, where each chip has one boot
pub course_reads : {W : Type 0} (model : FaultModel W) (boot : Boot) (starts : List (ChipState W)) (attaches : ℕ) (turns : List ℕ)
    → CoursesReadBack model boot starts attaches turns
course_reads model boot starts attaches turns =
    let all = faithful model boot starts attaches turns in
    let alone = λ (b : ChipBoot). b ∷ [] in
    record {
      faithful = all;
      reads_back = λ k s b there fresh lived.
          thread_reads model boot.partitions starts (map alone all.lives) ((course_after model boot starts attaches turns).notes ∷ []) all.one_thread
          k s (b ∷ []) there fresh (slice_get-map alone all.lives k ∙ ap (option_map alone) lived);
    }

-- and of a run
pub run_reads : {W : Type 0} (model : FaultModel W) (partitions : Partitions) (starts : List (ChipState W)) (boots : List Boot)
    (turns : List (List ℕ)) (courses : List (Course W)) → ((boot : Boot) → Contains boots boot → boot.partitions ≡ partitions)
    → AreBoots model starts boots turns courses → RunsReadBack model partitions starts boots courses
run_reads {W} model partitions starts boots turns courses one legal =
    let all = runs_faithful model partitions starts boots turns courses one legal in
    let notes : List (List Note) = map (λ (c : Course W). c.notes) courses in
    record {
      faithful = all;
      reads_back = λ k s life there fresh lived. thread_reads model partitions starts all.lives notes all.one_thread k s life there fresh lived;
    }
