-- What a chip has gone through so far in a boot, beside its state in the course.
use Rattle.std.proofs.Common.{◌≡◌, ℕ, Bool, true, List, [], ◌∷◌, ◌++◌, Option, Some, None, refl, ap, sym, ◌∙◌, subst, append-nil}
use Rattle.std.specs.Prelude.{flat_map}
use Rattle.nand_model.specs.declared.words.Note.{Note}
use Rattle.nand_model.specs.declared.words.Note.TheVariants.{Began}
use Rattle.nand_model.specs.Chip.{ChipState, FaultModel, ChipEvent, Complete, Flipped, PageEvent, happens, after_trace}
use Rattle.nand_model.specs.Path.{Answer, GoesAlong, answers_of, answer_to, is_uncut, after_answers, next_event, result_of}
use Rattle.chip_paths.specs.Attach.{Attaching, attach_path}
use Rattle.nand_model.specs.Partitions.{Partitions}
use Rattle.chip_paths.specs.Operation.{Known, operation_path}
use Rattle.chip_paths.specs.ChipRun.{ChipRun, Pending, attach_note, known_at_first}
use Rattle.run_model.specs.History.{OperationTrace, ChipBoot, Turned, turned_events, numbered_of, events_in, notes_of_event, notes_of_trace, was_quiet, attach_outcome, AreOperationTraces, IsChipHistory}
use Rattle.run_laws.proofs.Traces.{uncut-append, events-append, after-append, answers-append, along-append, notes-append}

module _ {W : Type 0} (model : FaultModel W) where
  -- a trace from a state along a path, with nothing cut: where it leads, and what was answered
  pub record Goes (next : List Answer → Option PageEvent) (s : ChipState W) (trace : List (ℕ × ChipEvent)) (now : ChipState W) (answers : List Answer) : Type 0 where
    pub along : GoesAlong model next s [] (events_in trace)
    pub uncut : is_uncut (events_in trace) ≡ true
    pub now_is : now ≡ after_trace model s (events_in trace)
    pub answers_are : answers ≡ answers_of model s (events_in trace)

  pub goes_start : (next : List Answer → Option PageEvent) (s : ChipState W) → Goes next s [] s []
  goes_start next s = record { along = tt; uncut = refl; now_is = refl; answers_are = refl }

  -- one more event, whatever it is
  pub along_more : (next : List Answer → Option PageEvent) (s : ChipState W) (trace : List (ℕ × ChipEvent)) (now : ChipState W) (answers : List Answer) (n : ℕ) (e : ChipEvent)
      → Goes next s trace now answers → GoesAlong model next now answers (e ∷ []) → GoesAlong model next s [] (events_in (trace ++ (n, e) ∷ []))
  along_more next s trace now answers n e g h =
      subst (λ zs. GoesAlong model next s [] zs) (sym (events-append trace ((n, e) ∷ [])))
      (along-append model next s [] (events_in trace) (e ∷ []) g.uncut g.along
      (subst (λ t. GoesAlong model next t (answers_of model s (events_in trace)) (e ∷ [])) g.now_is
      (subst (λ zs. GoesAlong model next now zs (e ∷ [])) g.answers_are h)))

  pub goes_event : (next : List Answer → Option PageEvent) (s : ChipState W) (trace : List (ℕ × ChipEvent)) (now : ChipState W) (answers : List Answer) (n : ℕ) (e : PageEvent)
      → Goes next s trace now answers → next answers ≡ Some e → Goes next s (trace ++ (n, Complete e) ∷ []) (happens model now (Complete e)) (answers ++ answer_to model now e ∷ [])
  goes_event next s trace now answers n e g h = record {
    along = along_more next s trace now answers n (Complete e) g (h, tt);
    uncut = ap is_uncut (events-append trace ((n, Complete e) ∷ [])) ∙ uncut-append (events_in trace) (Complete e ∷ []) g.uncut;
    now_is = ap (λ t. happens model t (Complete e)) g.now_is ∙ sym (after-append model s (events_in trace) (Complete e ∷ [])) ∙ sym (ap (after_trace model s) (events-append trace ((n, Complete e) ∷ [])));
    answers_are = ap (λ zs. zs ++ answer_to model now e ∷ []) g.answers_are ∙ ap (λ t. answers_of model s (events_in trace) ++ answer_to model t e ∷ []) g.now_is
        ∙ sym (answers-append model s (events_in trace) (Complete e ∷ []) g.uncut) ∙ sym (ap (answers_of model s) (events-append trace ((n, Complete e) ∷ [])));
  }

  pub goes_flip : (next : List Answer → Option PageEvent) (s : ChipState W) (trace : List (ℕ × ChipEvent)) (now : ChipState W) (answers : List Answer) (n page bit : ℕ)
      → Goes next s trace now answers → Goes next s (trace ++ (n, Flipped page bit) ∷ []) (happens model now (Flipped page bit)) answers
  goes_flip next s trace now answers n page bit g = record {
    along = along_more next s trace now answers n (Flipped page bit) g tt;
    uncut = ap is_uncut (events-append trace ((n, Flipped page bit) ∷ [])) ∙ uncut-append (events_in trace) (Flipped page bit ∷ []) g.uncut;
    now_is = ap (λ t. happens model t (Flipped page bit)) g.now_is ∙ sym (after-append model s (events_in trace) (Flipped page bit ∷ [])) ∙ sym (ap (after_trace model s) (events-append trace ((n, Flipped page bit) ∷ [])));
    answers_are = g.answers_are ∙ sym (append-nil _) ∙ sym (answers-append model s (events_in trace) (Flipped page bit ∷ []) g.uncut) ∙ sym (ap (answers_of model s) (events-append trace ((n, Flipped page bit) ∷ [])));
  }

  -- the notes of one more event
  pub notes_more : (k : ℕ) (next : List Answer → Option PageEvent) (s : ChipState W) (trace : List (ℕ × ChipEvent)) (now : ChipState W) (answers : List Answer) (n : ℕ) (e : ChipEvent)
      → Goes next s trace now answers → notes_of_trace model k s (trace ++ (n, e) ∷ []) ≡ notes_of_trace model k s trace ++ notes_of_event model k n now e
  notes_more k next s trace now answers n e g =
      notes-append model k s trace ((n, e) ∷ []) ∙ ap (λ zs. notes_of_trace model k s trace ++ zs) (append-nil _ ∙ ap (λ t. notes_of_event model k n t e) (sym g.now_is))

  -- flips alone go along any path
  pub flips_go : (next : List Answer → Option PageEvent) (s : ChipState W) (flips : List Turned) (now : ChipState W)
      → now ≡ after_trace model s (events_in (turned_events flips)) → Goes next s (turned_events flips) now []
  flips_go next s [] now e = record { along = tt; uncut = refl; now_is = e; answers_are = refl }
  flips_go next s (f ∷ flips) now e =
      let g : Goes next (happens model s (Flipped f.page f.bit)) (turned_events flips) now [] = flips_go next (happens model s (Flipped f.page f.bit)) flips now e in
      record { along = g.along; uncut = g.uncut; now_is = g.now_is; answers_are = g.answers_are }

  -- flips leave no notes
  pub flips_note_nothing : (k : ℕ) (s : ChipState W) (flips : List Turned) → notes_of_trace model k s (turned_events flips) ≡ []
  flips_note_nothing k s [] = refl
  flips_note_nothing k s (f ∷ flips) = flips_note_nothing k (happens model s (Flipped f.page f.bit)) flips

-- the traces of operations
abbrev pub traces_of : List OperationTrace → List (ℕ × ChipEvent)
traces_of operations = flat_map (λ (one : OperationTrace). one.trace) operations

module _ {W : Type 0} (model : FaultModel W) (partitions : Partitions) where
  -- a chip whose attaching is not over, with all that befell it
  pub record IsAttaching (k : ℕ) (s : ChipState W) (c : ChipRun W) (notes : List Note) (whole : List (ℕ × ChipEvent)) : Type 0 where
    pub goes : Goes model (next_event (attach_path s.geometry)) s whole c.chip c.attach_answers
    pub more : result_of (after_answers c.attach_answers (attach_path s.geometry)) ≡ None
    pub quiet : c.quiet ≡ was_quiet model s (events_in whole)
    pub idle : c.pending ≡ None
    pub notes_are : notes ≡ notes_of_trace model k s whole

  -- an attached chip after its last answered operation: how it stood then, what was known, its
  -- notes until then, and what had befallen it
  pub record IsAttached (k : ℕ) (s : ChipState W) (quiet : Bool) (known : Known) (rested : ChipState W) (notes : List Note) (whole : List (ℕ × ChipEvent)) : Type 0 where
    pub attach : List (ℕ × ChipEvent)
    pub attaching : Attaching
    pub along : GoesAlong model (next_event (attach_path s.geometry)) s [] (events_in attach)
    pub outcome : attach_outcome model s (events_in attach) ≡ Some attaching
    pub quiet_is : quiet ≡ was_quiet model s (events_in attach)
    pub operations : List OperationTrace
    pub later : List Note
    pub notes_are : notes ≡ notes_of_trace model k s attach ++ attach_note k (was_quiet model s (events_in attach)) attaching ∷ later
    pub goes_on : (more : List OperationTrace) (rest : List Note) → AreOperationTraces model partitions k rested known more rest
        → AreOperationTraces model partitions k (after_trace model s (events_in attach)) (known_at_first attaching) (operations ++ more) (later ++ rest)
    pub whole_is : whole ≡ attach ++ traces_of operations
    pub rested_is : rested ≡ after_trace model s (events_in whole)

  -- an attached chip with no pending operation: only flips came after its last operation
  pub record IsResting (k : ℕ) (s : ChipState W) (c : ChipRun W) (known : Known) (notes : List Note) (whole : List (ℕ × ChipEvent)) : Type 0 where
    pub rested : ChipState W
    pub flips : List Turned
    pub answered : List (ℕ × ChipEvent)
    pub past : IsAttached k s c.quiet known rested notes answered
    pub now_is : c.chip ≡ after_trace model rested (events_in (turned_events flips))
    pub whole_is : whole ≡ answered ++ turned_events flips

  -- a chip with a pending operation, which has come so far along its path
  pub record IsPerforming (k : ℕ) (s : ChipState W) (c : ChipRun W) (known : Known) (pending : Pending) (notes : List Note) (whole : List (ℕ × ChipEvent)) : Type 0 where
    pub rested : ChipState W
    pub before : List Note
    pub trace : List (ℕ × ChipEvent)
    pub answered : List (ℕ × ChipEvent)
    pub past : IsAttached k s c.quiet known rested before answered
    pub goes : Goes model (next_event (operation_path rested.geometry partitions known pending.op)) rested trace c.chip pending.answers
    pub notes_are : notes ≡ before ++ Began pending.session pending.op ∷ notes_of_trace model k rested trace
    pub whole_is : whole ≡ answered ++ trace

  -- which of the three a chip is
  abbrev pub ChipLawAt : ℕ → ChipState W → ChipRun W → List Note → List (ℕ × ChipEvent) → Option Known → Option Pending → Type 0
  ChipLawAt k s c notes whole None pending = IsAttaching k s c notes whole
  ChipLawAt k s c notes whole (Some known) None = IsResting k s c known notes whole
  ChipLawAt k s c notes whole (Some known) (Some pending) = IsPerforming k s c known pending notes whole

  abbrev pub ChipLaw : ℕ → ChipState W → ChipRun W → List Note → List (ℕ × ChipEvent) → Type 0
  ChipLaw k s c notes whole = ChipLawAt k s c notes whole c.known c.pending

  -- what the theorem says of a chip, with the state in which it is left, whether its attach found
  -- it quiet, and all that befell it
  pub record ChipEnd (k : ℕ) (s now : ChipState W) (quiet : Bool) (notes : List Note) (whole : List (ℕ × ChipEvent)) : Type 0 where
    pub life : ChipBoot
    pub history : IsChipHistory model partitions k s life.attach life.operations notes
    pub whole_is : whole ≡ numbered_of life
    pub quiet_is : quiet ≡ was_quiet model s (events_in life.attach)
    pub now_is : now ≡ after_trace model s (events_in whole)
