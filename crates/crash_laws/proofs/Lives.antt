-- A chip lives through the boots of its life, and each attach shows the marks, by the chip's own
-- notes.
use Rattle.std.proofs.Common.{◌≡◌, ◌⊎◌, ◌∙◌, ℕ, Bool, true, false, List, [], ◌∷◌, ◌++◌, map, refl, Option, Some, None, inl, inr, subst, sym, append_assoc}
use Rattle.std.specs.Prelude.{All}
use Rattle.std.specs.List.{list_any}
use Rattle.std.proofs.lemmas.List.Elements.{All-head, All-tail}
use Rattle.nand_model.specs.Chip.{ChipState, FaultModel, ChipEvent, Complete, PowerCut, Flipped, PageEvent, happens, after_trace}
use Rattle.nand_model.specs.Path.{answer_to, is_failure, after_answers, result_of, answers_of}
use Rattle.nand_model.specs.Partitions.{Partitions}
use Rattle.nand_model.specs.declared.geometry.Geometry.{Geometry}
use Rattle.nand_model.specs.declared.words.Note.{Note}
use Rattle.nand_model.specs.declared.words.Reply.{Reply}
use Rattle.chip_paths.specs.Attach.{Attaching}
use Rattle.chip_paths.specs.ChipRun.{torn_notes, known_at_first}
use Rattle.chip_paths.specs.Operation.{Known, operation_path}
use Rattle.run_model.specs.History.{OperationTrace, ChipBoot, IsChipHistory, IsChipLife, AreOperationTraces, GoesOn, events_in, notes_of_event, notes_of_trace, notes_of_chip, answer_note, known_then, attach_outcome, was_quiet, trace_of}
use Rattle.run_model.specs.Marking.{ShowsMarks, marks_in, begins, marking_began, failed_in_writing}
use Rattle.run_model.specs.Run.{is_fair}
use Rattle.run_model.specs.Survival.{WritesAPage, AllWritePages, LifeShowsMarks}
use Rattle.page_laws.specs.Keeping.{IsIn}
use Rattle.crash_laws.specs.Marked.{WritesFill}
use Rattle.crash_laws.specs.Life.{TableFails}
use Rattle.crash_laws.proofs.BareLives.{shows_more}
use Rattle.crash_laws.proofs.Boots.{Acked, Begun, any_more, boot_through}
use Rattle.crash_laws.proofs.Chain.{Kind, AttachEnd, attach_end}
use Rattle.crash_laws.proofs.Failures.{or_right, trace_failed}
use Rattle.crash_laws.proofs.Fairness.{attach_granted}
use Rattle.crash_laws.proofs.Histories.{op_notes, own_notes}
use Rattle.crash_laws.proofs.NewChips.{shows_marks}

-- ---- the writes of a life fill their pages, by its notes
-- the writes of a boot fill their pages
abbrev pub Fills : Geometry → ChipBoot → Type 0
Fills g b = All (λ (o : OperationTrace). WritesAPage g o.op) b.operations

module _ {W : Type 0} (model : FaultModel W) (partitions : Partitions) (k : ℕ) (g : Geometry) where
  fill_torn : (t : Bool) (n : ℕ) (cut : Bool) (s : ChipState W) (e : PageEvent) (after : ChipState W) (rest : List Note) → WritesFill g rest → WritesFill g (torn_notes t k n cut s e after ++ rest)
  fill_torn true n cut s e after rest h = h
  fill_torn false n cut s e after rest h = h

  fill_event : (n : ℕ) (s : ChipState W) (e : ChipEvent) (rest : List Note) → WritesFill g rest → WritesFill g (notes_of_event model k n s e ++ rest)
  fill_event n s (Flipped page bit) rest h = h
  fill_event n s (Complete e) rest h = fill_torn (is_failure (answer_to model s e)) n false s e (happens model s (Complete e)) rest h
  fill_event n s (PowerCut e done) rest h = fill_torn true n true s e (happens model s (PowerCut e done)) rest h

  fill_trace : (s : ChipState W) (trace : List (ℕ × ChipEvent)) (rest : List Note) → WritesFill g rest → WritesFill g (notes_of_trace model k s trace ++ rest)
  fill_trace s [] rest h = h
  fill_trace s ((n, e) ∷ trace) rest h =
      subst (WritesFill g) (sym (append_assoc (notes_of_event model k n s e) (notes_of_trace model k (happens model s e) trace) rest))
      (fill_event n s e (notes_of_trace model k (happens model s e) trace ++ rest) (fill_trace (happens model s e) trace rest h))

  fill_answer : (session : ℕ) (reply : Option Reply) (rest : List Note) → WritesFill g rest → WritesFill g (answer_note session reply ++ rest)
  fill_answer session None rest h = h
  fill_answer session (Some reply) rest h = h

  fill_operations : (s : ChipState W) (known : Known) (operations : List OperationTrace) (notes : List Note) → AreOperationTraces model partitions k s known operations notes
      → All (λ (o : OperationTrace). WritesAPage g o.op) operations → WritesFill g notes
  fill_operations s known [] notes h all = subst (WritesFill g) (sym h) tt
  fill_operations s known (o ∷ later) notes (is_trace, last, (rest, are, more)) all =
      subst (WritesFill g) (sym (are ∙ op_notes model partitions k s o rest)) (
        All-head (λ (o : OperationTrace). WritesAPage g o.op) o later all,
        fill_trace s o.trace (answer_note o.session o.reply ++ rest) (fill_answer o.session o.reply rest
            (fill_operations (after_trace model s (events_in o.trace)) (known_then known (result_of (after_answers (answers_of model s (events_in o.trace)) (operation_path s.geometry partitions known o.op)))) later rest more
            (All-tail (λ (o : OperationTrace). WritesAPage g o.op) o later all))),
      )

  pub fill_boot : (s : ChipState W) (b : ChipBoot) (notes : List Note) → IsChipHistory model partitions k s b.attach b.operations notes → All (λ (o : OperationTrace). WritesAPage g o.op) b.operations → WritesFill g notes
  fill_boot s b notes h all = subst (WritesFill g) (sym h.notes_are) (fill_trace s b.attach h.later (on (attach_outcome model s (events_in b.attach)) h.goes_on))
    where
      on : (o : Option Attaching) → GoesOn model o partitions k s (events_in b.attach) b.operations h.later → WritesFill g h.later
      on None g0 = subst (WritesFill g) (sym g0.0) tt
      on (Some a) (rest, are, more) = subst (WritesFill g) (sym are) (fill_operations (after_trace model s (events_in b.attach)) (known_at_first a) b.operations rest more all)

module _ {W : Type 0} (model : FaultModel W) (partitions : Partitions) (k : ℕ) (g : Geometry) (bad : List ℕ) (kind : Kind model g (IsIn bad) partitions) where
  -- the attach of a boot shows the marks of the boots before it
  attach_shows : (past : List (List Note)) (s : ChipState W) (b : ChipBoot) (notes : List Note) → IsChipHistory model partitions k s b.attach b.operations notes
      → kind.Lives (Acked partitions k past) (Begun g partitions k past) s → was_quiet model s (events_in b.attach) ≡ true → is_fair k (notes_of_trace model k s b.attach) ≡ true
      → (a : Attaching) → attach_outcome model s (events_in b.attach) ≡ Some a → ShowsMarks g partitions k bad past (notes_of_trace model k s b.attach) a.table
  attach_shows past s b notes h alive quiet fair a is =
      shows_marks g partitions k bad past (notes_of_trace model k s b.attach) a.table
      (shows_more g (IsIn bad) (Acked partitions k past) (λ d. Begun g partitions k past d ⊎ TableFails model g s (events_in b.attach) d) (Begun g partitions k (past ++ notes_of_trace model k s b.attach ∷ [])) a.table more (end.shown a is).0)
    where
      end : AttachEnd model g (IsIn bad) partitions kind (Acked partitions k past) (Begun g partitions k past) s (after_trace model s (events_in b.attach)) (events_in b.attach)
      end = attach_end model g (IsIn bad) partitions kind (Acked partitions k past) (Begun g partitions k past) s (events_in b.attach) alive h.along (attach_granted model k s b.attach fair quiet)

      more : (d : ℕ) → Begun g partitions k past d ⊎ TableFails model g s (events_in b.attach) d → Begun g partitions k (past ++ notes_of_trace model k s b.attach ∷ []) d
      more d (inl e) = any_more (marking_began g partitions k d) past (notes_of_trace model k s b.attach) (inl e)
      more d (inr f) =
          any_more (marking_began g partitions k d) past (notes_of_trace model k s b.attach)
          (inr (or_right (list_any begins (marks_in partitions k d (notes_of_trace model k s b.attach))) (failed_in_writing g k d (notes_of_trace model k s b.attach)) (trace_failed g k d model s b.attach f)))

  -- and so in each boot of a life
  pub life_shows : (past : List (List Note)) (s : ChipState W) (life : List ChipBoot) (notes : List (List Note)) → AllWritePages g life → IsChipLife model partitions k s life notes
      → kind.Lives (Acked partitions k past) (Begun g partitions k past) s → LifeShowsMarks model partitions k g bad s life (map (notes_of_chip partitions k) notes) past
  life_shows past s [] [] fill h alive = tt
  life_shows past s [] (n ∷ notes) fill h alive = absurd h
  life_shows past s (b ∷ bs) [] fill h alive = absurd h
  life_shows past s (b ∷ bs) (n ∷ notes) fill h alive = λ quiet fair. (
    attach_shows past s b own h.0 alive quiet fair,
    λ all_fair. life_shows (past ++ own ∷ []) (after_trace model s (trace_of b)) bs notes (All-tail (Fills g) b bs fill) h.1
        (boot_through model partitions k g (IsIn bad) kind past s b own own h.0
        (own_notes partitions k g (λ session. None) n (fill_boot model partitions k g s b own h.0 (All-head (Fills g) b bs fill))) (λ d. refl) (λ d e. e) alive all_fair quiet),
  )
    where
      own : List Note
      own = notes_of_chip partitions k n
