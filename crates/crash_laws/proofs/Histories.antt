-- From the notes of a chip to its life.
use Rattle.std.proofs.Common.{◌≡◌, ◌⊎◌, ℕ, Bool, true, false, ◌==◌, List, [], ◌∷◌, ◌++◌, refl, ap, ap₂, sym, ◌∙◌, Option, Some, None, inl, inr, subst, append_assoc}
use Rattle.std.specs.Prelude.{if◌then◌else◌, is_none, ⊤}
use Rattle.std.specs.List.{list_any}
use Rattle.std.proofs.lemmas.Bool.{false≢true, eq-eqb, eqb-true}
use Rattle.std.proofs.lemmas.List.Folds.{list_any-append}
use Rattle.nand_model.specs.Chip.{ChipState, FaultModel, ChipEvent, Complete, PowerCut, Flipped, PageEvent, happens, after_trace}
use Rattle.chip_paths.specs.ChipRun.{torn_notes}
use Rattle.nand_model.specs.Path.{answer_to, is_failure, after_answers, result_of, answers_of}
use Rattle.nand_model.specs.Partitions.{Partitions, device_of, chip_of}
use Rattle.chip_paths.specs.Operation.{Known, operation_path}
use Rattle.nand_model.specs.declared.geometry.Geometry.{Geometry}
use Rattle.nand_model.specs.declared.words.Note.{Note}
use Rattle.nand_model.specs.declared.words.Note.TheVariants.{Torn, Began, Answered, Attached}
use Rattle.nand_model.specs.declared.words.Reply.{Reply}
use Rattle.nand_model.specs.declared.words.Reply.TheVariants.{Done, OutOfRange, BadBlock, MarkerByte, ProgramFailed, EraseFailed, MarkerFailed, TableFailed, Reserved, Copies, State, Counts, Page}
use Rattle.run_model.specs.History.{LastChips, last_after, is_chip, notes_of_chip_from, OperationTrace, events_in, notes_of_event, notes_of_trace, notes_of_operation, answer_note, AreOperationTraces, known_then}
use Rattle.run_model.specs.Marking.{is_mark_of, answer_in, marks_in, begins, is_acknowledgement, failed_in_writing}
use Rattle.run_model.specs.Run.{is_fair}
use Rattle.run_laws.proofs.Traces.{geometry_after}
use Rattle.relocation_laws.specs.Life.{NowBegun}
use Rattle.crash_laws.specs.Marked.{WritesFill}
use Rattle.crash_laws.specs.Life.{AckedIn, BegunIn, TableFails, AreFair, AreOperations}
use Rattle.crash_laws.proofs.Failures.{or_left, or_right, or_cases, failed_before, failed_after, trace_failed}
use Rattle.crash_laws.proofs.Fairness.{fair_parts, trace_fair}
use Rattle.crash_laws.proofs.MarkNotes.{Own, mark_named, named_mark}
use Rattle.nand_model.specs.declared.words.Event.{Event}
use Rattle.nand_model.specs.declared.words.Fairness.{Fairness}
use Rattle.run_model.specs.Survival.{WritesAPage}

-- whether a note is of an attach
abbrev pub is_attach : Note → Bool
is_attach (Attached chip origin version copies quiet states) = true
is_attach _ = false

abbrev pub NoAttach : List Note → Type 0
NoAttach [] = ⊤
NoAttach (note ∷ notes) = (is_attach note ≡ false) × NoAttach notes

head_same : (x y : Note) (xs ys : List Note) → x ∷ xs ≡ y ∷ ys → x ≡ y
head_same x y xs ys e = cc

tail_same : (x y : Note) (xs ys : List Note) → x ∷ xs ≡ y ∷ ys → xs ≡ ys
tail_same x y xs ys e = cc

pub has_attach : (xs ys : List Note) (n : Note) → is_attach n ≡ true → NoAttach (xs ++ n ∷ ys) → ⊥
has_attach [] ys n e h = false≢true (sym h.0 ∙ e)
has_attach (x ∷ xs) ys n e h = has_attach xs ys n e h.1

-- the one note of an attach parts the notes
pub parted : (xs ys us vs : List Note) (n m : Note) → is_attach n ≡ true → is_attach m ≡ true → NoAttach us → NoAttach vs → xs ++ n ∷ ys ≡ us ++ m ∷ vs → (xs ≡ us) × (n ≡ m)
parted [] ys [] vs n m a b hu hv e = (refl, head_same n m ys vs e)
parted [] ys (u ∷ us) vs n m a b hu hv e = absurd (false≢true (sym hu.0 ∙ ap is_attach (sym (head_same n u ys (us ++ m ∷ vs) e)) ∙ a))
parted (x ∷ xs) ys [] vs n m a b hu hv e = absurd (has_attach xs ys n a (subst NoAttach (sym (tail_same x m (xs ++ n ∷ ys) vs e)) hv))
parted (x ∷ xs) ys (u ∷ us) vs n m a b hu hv e =
    let r = parted xs ys us vs n m a b hu.1 hv (tail_same x u (xs ++ n ∷ ys) (us ++ m ∷ vs) e) in
    (ap₂ (λ p ps. p ∷ ps) (head_same x u (xs ++ n ∷ ys) (us ++ m ∷ vs) e) r.0, r.1)

-- notes of chips are their own
pub own_notes : (partitions : Partitions) (k : ℕ) (g : Geometry) (last : LastChips) (notes : List Note) → WritesFill g (notes_of_chip_from partitions last k notes) → Own partitions k g (notes_of_chip_from partitions last k notes)
own_notes partitions k g last [] h = tt
own_notes partitions k g last (Began s op ∷ notes) h = on (chip_of partitions (device_of op)) refl h (λ i. own_notes partitions k g (last_after partitions last (Began s op)) notes i)
  where
    is : (o : Option ℕ) (t : Bool) → is_chip o k ≡ t → t ≡ true → o ≡ Some k
    is None t e f = absurd (false≢true (e ∙ f))
    is (Some j) t e f = ap (λ x. Some x) (eqb-true j k (e ∙ f))

    on : (o : Option ℕ) → chip_of partitions (device_of op) ≡ o → WritesFill g (notes_of_chip_from partitions last k (Began s op ∷ notes))
        → (WritesFill g (notes_of_chip_from partitions (last_after partitions last (Began s op)) k notes) → Own partitions k g (notes_of_chip_from partitions (last_after partitions last (Began s op)) k notes))
        → Own partitions k g (notes_of_chip_from partitions last k (Began s op ∷ notes))
    on o e h later = by (is_chip (chip_of partitions (device_of op)) k) refl h
      where
        by : (t : Bool) → is_chip (chip_of partitions (device_of op)) k ≡ t → WritesFill g ((if t then Began s op ∷ [] else []) ++ notes_of_chip_from partitions (last_after partitions last (Began s op)) k notes)
            → Own partitions k g ((if t then Began s op ∷ [] else []) ++ notes_of_chip_from partitions (last_after partitions last (Began s op)) k notes)
        by true i h = (is (chip_of partitions (device_of op)) true i refl, h.0, later h.1)
        by false i h = later h
own_notes partitions k g last (Answered s reply ∷ notes) h = by (is_chip (last s) k) h (λ i. own_notes partitions k g (last_after partitions last (Answered s reply)) notes i)
  where
    by : (t : Bool) → WritesFill g ((if t then Answered s reply ∷ [] else []) ++ notes_of_chip_from partitions (last_after partitions last (Answered s reply)) k notes)
        → (WritesFill g (notes_of_chip_from partitions (last_after partitions last (Answered s reply)) k notes) → Own partitions k g (notes_of_chip_from partitions (last_after partitions last (Answered s reply)) k notes))
        → Own partitions k g ((if t then Answered s reply ∷ [] else []) ++ notes_of_chip_from partitions (last_after partitions last (Answered s reply)) k notes)
    by true h later = later h
    by false h later = later h
own_notes partitions k g last (Attached chip origin version copies quiet states ∷ notes) h = by (chip == k) h (λ i. own_notes partitions k g (last_after partitions last (Attached chip origin version copies quiet states)) notes i)
  where
    by : (t : Bool) → WritesFill g ((if t then Attached chip origin version copies quiet states ∷ [] else []) ++ notes_of_chip_from partitions (last_after partitions last (Attached chip origin version copies quiet states)) k notes)
        → (WritesFill g (notes_of_chip_from partitions (last_after partitions last (Attached chip origin version copies quiet states)) k notes) → Own partitions k g (notes_of_chip_from partitions (last_after partitions last (Attached chip origin version copies quiet states)) k notes))
        → Own partitions k g ((if t then Attached chip origin version copies quiet states ∷ [] else []) ++ notes_of_chip_from partitions (last_after partitions last (Attached chip origin version copies quiet states)) k notes)
    by true h later = later h
    by false h later = later h
own_notes partitions k g last (Torn chip number event cut fairness ∷ notes) h = by (chip == k) h (λ i. own_notes partitions k g (last_after partitions last (Torn chip number event cut fairness)) notes i)
  where
    by : (t : Bool) → WritesFill g ((if t then Torn chip number event cut fairness ∷ [] else []) ++ notes_of_chip_from partitions (last_after partitions last (Torn chip number event cut fairness)) k notes)
        → (WritesFill g (notes_of_chip_from partitions (last_after partitions last (Torn chip number event cut fairness)) k notes) → Own partitions k g (notes_of_chip_from partitions (last_after partitions last (Torn chip number event cut fairness)) k notes))
        → Own partitions k g ((if t then Torn chip number event cut fairness ∷ [] else []) ++ notes_of_chip_from partitions (last_after partitions last (Torn chip number event cut fairness)) k notes)
    by true h later = later h
    by false h later = later h

module _ {W : Type 0} (model : FaultModel W) (partitions : Partitions) (k : ℕ) where
  -- ---- what says nothing of torn events passes over them
  pub record PassesTorn (A : Type 0) (f : List Note → A) : Type 0 where
    pub torn : (n : ℕ) (name : Event) (cut : Bool) (f' : Fairness) (rest : List Note) → f (Torn k n name cut f' ∷ rest) ≡ f rest

  passes_event : (A : Type 0) (f : List Note → A) → PassesTorn A f → (t : Bool) (n : ℕ) (cut : Bool) (s : ChipState W) (e : PageEvent) (after : ChipState W) (rest : List Note) → f (torn_notes t k n cut s e after ++ rest) ≡ f rest
  passes_event A f p true n cut s e after rest = p.torn n _ cut _ rest
  passes_event A f p false n cut s e after rest = refl

  passes_one : (A : Type 0) (f : List Note → A) → PassesTorn A f → (n : ℕ) (s : ChipState W) (e : ChipEvent) (rest : List Note) → f (notes_of_event model k n s e ++ rest) ≡ f rest
  passes_one A f p n s (Flipped page bit) rest = refl
  passes_one A f p n s (Complete e) rest = passes_event A f p (is_failure (answer_to model s e)) n false s e (happens model s (Complete e)) rest
  passes_one A f p n s (PowerCut e done) rest = passes_event A f p true n true s e (happens model s (PowerCut e done)) rest

  pub passes_trace : (A : Type 0) (f : List Note → A) → PassesTorn A f → (s : ChipState W) (trace : List (ℕ × ChipEvent)) (rest : List Note) → f (notes_of_trace model k s trace ++ rest) ≡ f rest
  passes_trace A f p s [] rest = refl
  passes_trace A f p s ((n, e) ∷ trace) rest =
      ap f (append_assoc (notes_of_event model k n s e) (notes_of_trace model k (happens model s e) trace) rest)
      ∙ passes_one A f p n s e (notes_of_trace model k (happens model s e) trace ++ rest) ∙ passes_trace A f p (happens model s e) trace rest

  torn_none : (t : Bool) (n : ℕ) (cut : Bool) (s : ChipState W) (e : PageEvent) (after : ChipState W) (rest : List Note) → NoAttach rest → NoAttach (torn_notes t k n cut s e after ++ rest)
  torn_none true n cut s e after rest h = (refl, h)
  torn_none false n cut s e after rest h = h

  event_none : (n : ℕ) (s : ChipState W) (e : ChipEvent) (rest : List Note) → NoAttach rest → NoAttach (notes_of_event model k n s e ++ rest)
  event_none n s (Flipped page bit) rest h = h
  event_none n s (Complete e) rest h = torn_none (is_failure (answer_to model s e)) n false s e (happens model s (Complete e)) rest h
  event_none n s (PowerCut e done) rest h = torn_none true n true s e (happens model s (PowerCut e done)) rest h

  pub trace_none : (s : ChipState W) (trace : List (ℕ × ChipEvent)) (rest : List Note) → NoAttach rest → NoAttach (notes_of_trace model k s trace ++ rest)
  trace_none s [] rest h = h
  trace_none s ((n, e) ∷ trace) rest h =
      subst NoAttach (sym (append_assoc (notes_of_event model k n s e) (notes_of_trace model k (happens model s e) trace) rest))
      (event_none n s e (notes_of_trace model k (happens model s e) trace ++ rest) (trace_none (happens model s e) trace rest h))

  -- torn notes are no operations
  own_torn : (g : Geometry) (t : Bool) (n : ℕ) (cut : Bool) (s : ChipState W) (e : PageEvent) (after : ChipState W) (rest : List Note) → Own partitions k g (torn_notes t k n cut s e after ++ rest) → Own partitions k g rest
  own_torn g true n cut s e after rest h = h
  own_torn g false n cut s e after rest h = h

  own_event : (g : Geometry) (n : ℕ) (s : ChipState W) (e : ChipEvent) (rest : List Note) → Own partitions k g (notes_of_event model k n s e ++ rest) → Own partitions k g rest
  own_event g n s (Flipped page bit) rest h = h
  own_event g n s (Complete e) rest h = own_torn g (is_failure (answer_to model s e)) n false s e (happens model s (Complete e)) rest h
  own_event g n s (PowerCut e done) rest h = own_torn g true n true s e (happens model s (PowerCut e done)) rest h

  pub own_trace : (g : Geometry) (s : ChipState W) (trace : List (ℕ × ChipEvent)) (rest : List Note) → Own partitions k g (notes_of_trace model k s trace ++ rest) → Own partitions k g rest
  own_trace g s [] rest h = h
  own_trace g s ((n, e) ∷ trace) rest h =
      own_trace g (happens model s e) trace rest
      (own_event g n s e (notes_of_trace model k (happens model s e) trace ++ rest)
      (subst (Own partitions k g) (append_assoc (notes_of_event model k n s e) (notes_of_trace model k (happens model s e) trace) rest) h))

  own_answer : (g : Geometry) (session : ℕ) (reply : Option Reply) (rest : List Note) → Own partitions k g (answer_note session reply ++ rest) → Own partitions k g rest
  own_answer g session None rest h = h
  own_answer g session (Some reply) rest h = h

  answer_none : (session : ℕ) (reply : Option Reply) (rest : List Note) → NoAttach rest → NoAttach (answer_note session reply ++ rest)
  answer_none session None rest h = h
  answer_none session (Some reply) rest h = (refl, h)

  pub marks_pass : (b : ℕ) → PassesTorn (List (Option Reply)) (marks_in partitions k b)
  marks_pass b = record { torn = λ n name cut f rest. refl }

  answers_pass : (session : ℕ) → PassesTorn (Option Reply) (answer_in session)
  answers_pass session = record { torn = λ n name cut f rest. refl }

  -- ---- operations
  -- the notes of an operation and of what follows
  pub op_notes : (s : ChipState W) (o : OperationTrace) (rest : List Note)
      → notes_of_operation model k s o ++ rest ≡ Began o.session o.op ∷ (notes_of_trace model k s o.trace ++ (answer_note o.session o.reply ++ rest))
  op_notes s o rest = ap (λ xs. Began o.session o.op ∷ xs) (append_assoc (notes_of_trace model k s o.trace) (answer_note o.session o.reply) rest)

  -- what came of each mark of the block
  abbrev pub replies : ℕ → List OperationTrace → List (Option Reply)
  replies b [] = []
  replies b (o ∷ later) = (if is_mark_of partitions k b o.op then o.reply ∷ [] else []) ++ replies b later

  answered_by : (session : ℕ) (reply : Option Reply) (rest : List Note) → (is_none reply ≡ true → rest ≡ []) → answer_in session (answer_note session reply ++ rest) ≡ reply
  answered_by session None rest last = ap (answer_in session) (last refl)
  answered_by session (Some reply) rest last = ap (λ t. if t then Some reply else answer_in session rest) (eq-eqb session session refl)

  marks_after : (b session : ℕ) (reply : Option Reply) (rest : List Note) → marks_in partitions k b (answer_note session reply ++ rest) ≡ marks_in partitions k b rest
  marks_after b session None rest = refl
  marks_after b session (Some reply) rest = refl

  nothing_left : (s : ChipState W) (known : Known) (later : List OperationTrace) (rest : List Note) → AreOperationTraces model partitions k s known later rest → later ≡ [] → rest ≡ []
  nothing_left s known later rest h none = subst (λ os. AreOperationTraces model partitions k s known os rest → rest ≡ []) (sym none) (λ e. e) h

  pub ops_marks : (b : ℕ) (s : ChipState W) (known : Known) (operations : List OperationTrace) (notes : List Note) → AreOperationTraces model partitions k s known operations notes
      → marks_in partitions k b notes ≡ replies b operations
  ops_marks b s known [] notes h = ap (marks_in partitions k b) h
  ops_marks b s known (o ∷ later) notes (is_trace, last, (rest, are, all)) =
      ap (marks_in partitions k b) (are ∙ op_notes s o rest)
      ∙ ap₂ (λ answer more. (if is_mark_of partitions k b o.op then answer ∷ [] else []) ++ more)
      (passes_trace (Option Reply) (answer_in o.session) (answers_pass o.session) s o.trace (answer_note o.session o.reply ++ rest)
      ∙ answered_by o.session o.reply rest (λ none. nothing_left _ _ later rest all (last none)))
      (passes_trace (List (Option Reply)) (marks_in partitions k b) (marks_pass b) s o.trace (answer_note o.session o.reply ++ rest) ∙ marks_after b o.session o.reply rest
      ∙ ops_marks b (after_trace model s (events_in o.trace)) (known_then known (result_of (after_answers (answers_of model s (events_in o.trace)) (operation_path s.geometry partitions known o.op)))) later rest all)

  is_done : (reply : Option Reply) → is_acknowledgement reply ≡ true → reply ≡ Some Done
  is_done None h = absurd (false≢true h)
  is_done (Some Done) h = refl
  is_done (Some OutOfRange) h = absurd (false≢true h)
  is_done (Some BadBlock) h = absurd (false≢true h)
  is_done (Some MarkerByte) h = absurd (false≢true h)
  is_done (Some ProgramFailed) h = absurd (false≢true h)
  is_done (Some EraseFailed) h = absurd (false≢true h)
  is_done (Some MarkerFailed) h = absurd (false≢true h)
  is_done (Some (TableFailed which)) h = absurd (false≢true h)
  is_done (Some Reserved) h = absurd (false≢true h)
  is_done (Some (Copies n)) h = absurd (false≢true h)
  is_done (Some (State n)) h = absurd (false≢true h)
  is_done (Some (Counts a b c)) h = absurd (false≢true h)
  is_done (Some (Page kind read image)) h = absurd (false≢true h)

  pub acked_in : (b : ℕ) (operations : List OperationTrace) → list_any is_acknowledgement (replies b operations) ≡ true → AckedIn partitions operations b
  acked_in b [] h = absurd (false≢true h)
  acked_in b (o ∷ later) h = on (is_mark_of partitions k b o.op) refl h (λ i. acked_in b later i)
    where
      on : (m : Bool) → is_mark_of partitions k b o.op ≡ m → list_any is_acknowledgement ((if m then o.reply ∷ [] else []) ++ replies b later) ≡ true
          → (list_any is_acknowledgement (replies b later) ≡ true → AckedIn partitions later b) → AckedIn partitions (o ∷ later) b
      on true m h rest = by (or_cases (is_acknowledgement o.reply) (list_any is_acknowledgement (replies b later)) h)
        where
          by : (is_acknowledgement o.reply ≡ true) ⊎ (list_any is_acknowledgement (replies b later) ≡ true) → AckedIn partitions (o ∷ later) b
          by (inl e) = inl (mark_named partitions k o.op b m, is_done o.reply e)
          by (inr e) = inr (rest e)
      on false m h rest = inr (rest h)

  -- what has begun by the operations: by a mark among the notes, or by a failure among them
  pub begun_in : (g : Geometry) (b : ℕ) (s : ChipState W) (known : Known) (operations : List OperationTrace) (notes : List Note) → AreOperationTraces model partitions k s known operations notes → Own partitions k g notes
      → BegunIn model partitions g s operations b → (list_any begins (replies b operations) ≡ true) ⊎ (failed_in_writing g k b notes ≡ true)
  begun_in g b s known [] notes h own x = absurd x
  begun_in g b s known (o ∷ later) notes (is_trace, last, (rest, are, all)) own x =
      by x (λ i. begun_in g b (after_trace model s (events_in o.trace)) (known_then known (result_of (after_answers (answers_of model s (events_in o.trace)) (operation_path s.geometry partitions known o.op)))) later rest all
      (own_answer g o.session o.reply rest (own_trace g s o.trace (answer_note o.session o.reply ++ rest) here.2)) i)
    where
      here : Own partitions k g (Began o.session o.op ∷ (notes_of_trace model k s o.trace ++ (answer_note o.session o.reply ++ rest)))
      here = subst (Own partitions k g) (are ∙ op_notes s o rest) own

      by : (NowBegun partitions o.op o.reply b ⊎ TableFails model g s (events_in o.trace) b) ⊎ BegunIn model partitions g (after_trace model s (events_in o.trace)) later b
          → (BegunIn model partitions g (after_trace model s (events_in o.trace)) later b → (list_any begins (replies b later) ≡ true) ⊎ (failed_in_writing g k b rest ≡ true))
          → (list_any begins (replies b (o ∷ later)) ≡ true) ⊎ (failed_in_writing g k b notes ≡ true)
      by (inl (inl n)) rec =
          inl (ap (λ t. list_any begins ((if t then o.reply ∷ [] else []) ++ replies b later)) (named_mark partitions k o.op b n.0 here.0)
          ∙ or_left (begins o.reply) (list_any begins (replies b later)) n.1)
      by (inl (inr f)) rec =
          inr (ap (failed_in_writing g k b) (are ∙ op_notes s o rest)
          ∙ failed_after g k b (Began o.session o.op ∷ []) (notes_of_trace model k s o.trace ++ (answer_note o.session o.reply ++ rest))
          (failed_before g k b (notes_of_trace model k s o.trace) (answer_note o.session o.reply ++ rest) (trace_failed g k b model s o.trace f)))
      by (inr i) rec = on (rec i)
        where
          on : (list_any begins (replies b later) ≡ true) ⊎ (failed_in_writing g k b rest ≡ true) → (list_any begins (replies b (o ∷ later)) ≡ true) ⊎ (failed_in_writing g k b notes ≡ true)
          on (inl e) = inl (list_any-append begins (if is_mark_of partitions k b o.op then o.reply ∷ [] else []) (replies b later) ∙ or_right (list_any begins (if is_mark_of partitions k b o.op then o.reply ∷ [] else [])) (list_any begins (replies b later)) e)
          on (inr e) = inr (ap (failed_in_writing g k b) are ∙ failed_after g k b (notes_of_operation model k s o) rest e)

  pub ops_none : (s : ChipState W) (known : Known) (operations : List OperationTrace) (notes : List Note) → AreOperationTraces model partitions k s known operations notes → NoAttach notes
  ops_none s known [] notes h = subst NoAttach (sym h) tt
  ops_none s known (o ∷ later) notes (is_trace, last, (rest, are, all)) =
      subst NoAttach (sym (are ∙ op_notes s o rest)) (
        refl,
        trace_none s o.trace (answer_note o.session o.reply ++ rest) (answer_none o.session o.reply rest
            (ops_none (after_trace model s (events_in o.trace)) (known_then known (result_of (after_answers (answers_of model s (events_in o.trace)) (operation_path s.geometry partitions known o.op)))) later rest all)),
      )

  pub ops_are : (g : Geometry) (s : ChipState W) (known : Known) (operations : List OperationTrace) (notes : List Note) → s.geometry ≡ g → AreOperationTraces model partitions k s known operations notes → Own partitions k g notes
      → AreOperations model partitions s known operations
  ops_are g s known [] notes same h own = tt
  ops_are g s known (o ∷ later) notes same (is_trace, last, (rest, are, all)) own = (
    subst (λ q. WritesAPage q o.op) (sym same) here.1,
    is_trace,
    last,
    ops_are g (after_trace model s (events_in o.trace)) (known_then known (result_of (after_answers (answers_of model s (events_in o.trace)) (operation_path s.geometry partitions known o.op)))) later rest
        (geometry_after model s (events_in o.trace) ∙ same) all (own_answer g o.session o.reply rest (own_trace g s o.trace (answer_note o.session o.reply ++ rest) here.2)),
  )
    where
      here : Own partitions k g (Began o.session o.op ∷ (notes_of_trace model k s o.trace ++ (answer_note o.session o.reply ++ rest)))
      here = subst (Own partitions k g) (are ∙ op_notes s o rest) own

  pub ops_fair : (s : ChipState W) (known : Known) (operations : List OperationTrace) (notes : List Note) → AreOperationTraces model partitions k s known operations notes → is_fair k notes ≡ true → AreFair model s operations
  ops_fair s known [] notes h fair = tt
  ops_fair s known (o ∷ later) notes (is_trace, last, (rest, are, all)) fair =
      let p = fair_parts k (notes_of_operation model k s o) rest (ap (is_fair k) (sym are) ∙ fair) in
      let q = fair_parts k (Began o.session o.op ∷ notes_of_trace model k s o.trace) (answer_note o.session o.reply) p.0 in (
        trace_fair model k s o.trace (fair_parts k (Began o.session o.op ∷ []) (notes_of_trace model k s o.trace) q.0).1,
        ops_fair (after_trace model s (events_in o.trace)) (known_then known (result_of (after_answers (answers_of model s (events_in o.trace)) (operation_path s.geometry partitions known o.op)))) later rest all p.1,
      )
