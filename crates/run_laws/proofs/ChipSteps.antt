-- Each step of a course keeps what is known of its chip's life.
use Rattle.std.proofs.Common.{◌≡◌, ℕ, Bool, true, false, ◌&&◌, List, [], ◌∷◌, ◌++◌, map, Option, Some, None, refl, ap, sym, ◌∙◌, subst, subst₂, append_assoc, append-nil}
use Rattle.std.proofs.lemmas.Bool.{false≢true}
use Rattle.nand_model.specs.declared.words.Note.{Note}
use Rattle.nand_model.specs.declared.words.Note.TheVariants.{Began, Answered}
use Rattle.nand_model.specs.declared.words.Op.{Op}
use Rattle.nand_model.specs.Chip.{ChipState, FaultModel, ChipEvent, Complete, PowerCut, Flipped, PageEvent, DoneBits, happens, after_trace, flip_events}
use Rattle.nand_model.specs.Path.{Answer, GoesAlong, answers_of, answer_to, is_uncut, after_answers, next_event, result_of}
use Rattle.chip_paths.specs.Attach.{Attaching, attach_path}
use Rattle.nand_model.specs.Partitions.{Partitions}
use Rattle.chip_paths.specs.Operation.{Known, Finished, operation_path, Performs}
use Rattle.chip_paths.specs.ChipRun.{ChipRun, Pending, attach_note, known_at_first, with_finished}
use Rattle.nand_model.specs.Quiet.{is_quiet}
use Rattle.run_model.specs.History.{OperationTrace, Turned, turned_events, events_in, notes_of_event, notes_of_trace, notes_of_operation, was_quiet, attach_outcome, outcome_if, known_then, AreOperationTraces, GoesOn}
use Rattle.run_laws.proofs.Traces.{uncut-append, events-append, after-append, quiet-append, geometry_after}
use Rattle.run_laws.proofs.Life.{traces_of, Goes, goes_event, goes_flip, along_more, notes_more, flips_go, flips_note_nothing, IsAttaching, IsAttached, IsResting, IsPerforming, ChipLawAt, ChipLaw, ChipEnd}

and-true : (b : Bool) → (b && true) ≡ b
and-true true = refl
and-true false = refl

turned-more : (flips : List Turned) (f : Turned) → turned_events (flips ++ f ∷ []) ≡ turned_events flips ++ (f.number, Flipped f.page f.bit) ∷ []
turned-more [] f = refl
turned-more (g ∷ flips) f = ap (λ zs. (g.number, Flipped g.page g.bit) ∷ zs) (turned-more flips f)

all-more : (ops : List OperationTrace) (one : OperationTrace) → traces_of (ops ++ one ∷ []) ≡ traces_of ops ++ one.trace
all-more [] one = append-nil _
all-more (e ∷ ops) one = ap (λ zs. e.trace ++ zs) (all-more ops one) ∙ sym (append_assoc e.trace _ _)

module _ {W : Type 0} (model : FaultModel W) (partitions : Partitions) where
  -- the quiet of one more event
  quiet_event : (next : List Answer → Option PageEvent) (s : ChipState W) (trace : List (ℕ × ChipEvent)) (now : ChipState W) (answers : List Answer) (n : ℕ) (e : PageEvent) (q : Bool)
      → Goes model next s trace now answers → q ≡ was_quiet model s (events_in trace)
      → (q && is_quiet now.geometry now.pages) ≡ was_quiet model s (events_in (trace ++ (n, Complete e) ∷ []))
  quiet_event next s trace now answers n e q g h =
      ap (λ b. b && is_quiet now.geometry now.pages) h
      ∙ ap (λ (t : ChipState W). was_quiet model s (events_in trace) && is_quiet t.geometry t.pages) g.now_is
      ∙ ap (λ b. was_quiet model s (events_in trace) && b) (sym (and-true (is_quiet (after_trace model s (events_in trace)).geometry (after_trace model s (events_in trace)).pages)))
      ∙ sym (quiet-append model s (events_in trace) (Complete e ∷ []))
      ∙ sym (ap (was_quiet model s) (events-append trace ((n, Complete e) ∷ [])))

  quiet_cut : (next : List Answer → Option PageEvent) (s : ChipState W) (trace : List (ℕ × ChipEvent)) (now : ChipState W) (answers : List Answer) (n : ℕ) (e : PageEvent) (done : DoneBits) (q : Bool)
      → Goes model next s trace now answers → q ≡ was_quiet model s (events_in trace)
      → (q && is_quiet now.geometry now.pages) ≡ was_quiet model s (events_in (trace ++ (n, PowerCut e done) ∷ []))
  quiet_cut next s trace now answers n e done q g h =
      ap (λ b. b && is_quiet now.geometry now.pages) h
      ∙ ap (λ (t : ChipState W). was_quiet model s (events_in trace) && is_quiet t.geometry t.pages) g.now_is
      ∙ ap (λ b. was_quiet model s (events_in trace) && b) (sym (and-true (is_quiet (after_trace model s (events_in trace)).geometry (after_trace model s (events_in trace)).pages)))
      ∙ sym (quiet-append model s (events_in trace) (PowerCut e done ∷ []))
      ∙ sym (ap (was_quiet model s) (events-append trace ((n, PowerCut e done) ∷ [])))

  same_geometry : (next : List Answer → Option PageEvent) (s : ChipState W) (trace : List (ℕ × ChipEvent)) (now : ChipState W) (answers : List Answer) → Goes model next s trace now answers → now.geometry ≡ s.geometry
  same_geometry next s trace now answers g = ap (λ (t : ChipState W). t.geometry) g.now_is ∙ geometry_after model s (events_in trace)

  -- what an attach has come to, by its answers
  outcome_is : (s : ChipState W) (trace : List (ℕ × ChipEvent)) (now : ChipState W) (answers : List Answer) (o : Option Attaching)
      → Goes model (next_event (attach_path s.geometry)) s trace now answers → result_of (after_answers answers (attach_path s.geometry)) ≡ o → attach_outcome model s (events_in trace) ≡ o
  outcome_is s trace now answers o g h = ap (λ b. outcome_if b (result_of (after_answers (answers_of model s (events_in trace)) (attach_path s.geometry)))) g.uncut
      ∙ ap (λ zs. result_of (after_answers zs (attach_path s.geometry))) (sym g.answers_are) ∙ h

  -- a state after a trace, and then after more
  after_both : (s rested now : ChipState W) (answered more : List (ℕ × ChipEvent)) → rested ≡ after_trace model s (events_in answered) → now ≡ after_trace model rested (events_in more)
      → now ≡ after_trace model s (events_in (answered ++ more))
  after_both s rested now answered more e n = n ∙ ap (λ t. after_trace model t (events_in more)) e ∙ sym (after-append model s (events_in answered) (events_in more)) ∙ sym (ap (after_trace model s) (events-append answered more))

  -- a trace with one more event
  after_one : (s now after : ChipState W) (whole : List (ℕ × ChipEvent)) (n : ℕ) (e : ChipEvent) → now ≡ after_trace model s (events_in whole) → after ≡ happens model now e
      → after ≡ after_trace model s (events_in (whole ++ (n, e) ∷ []))
  after_one s now after whole n e g h = h ∙ after_both s now (happens model now e) whole ((n, e) ∷ []) g refl

  -- the end of a chip whose last operation has no answer
  open_end : (k : ℕ) (s now : ChipState W) (quiet : Bool) (known : Known) (rested : ChipState W) (before notes : List Note) (answered whole : List (ℕ × ChipEvent)) (session : ℕ) (op : Op) (trace : List (ℕ × ChipEvent))
      → IsAttached model partitions k s quiet known rested before answered
      → GoesAlong model (next_event (operation_path rested.geometry partitions known op)) rested [] (events_in trace)
      → notes ≡ before ++ Began session op ∷ notes_of_trace model k rested trace
      → now ≡ after_trace model rested (events_in trace)
      → whole ≡ answered ++ trace
      → ChipEnd model partitions k s now quiet notes whole
  open_end k s now quiet known rested before notes answered whole session op trace p along e n w = record {
    life = record { attach = p.attach; operations = p.operations ++ one ∷ []; flips_after = [] };
    history = record {
      along = p.along;
      later = attach_note k (was_quiet model s (events_in p.attach)) p.attaching ∷ (p.later ++ notes_of_operation model k rested one);
      notes_are = e ∙ ap (λ zs. before ++ Began session op ∷ zs) (sym (append-nil _)) ∙ ap (λ zs. zs ++ notes_of_operation model k rested one) p.notes_are
          ∙ append_assoc (notes_of_trace model k s p.attach) _ _;
      goes_on = subst (λ o. GoesOn model o partitions k s (events_in p.attach) (p.operations ++ one ∷ []) (attach_note k (was_quiet model s (events_in p.attach)) p.attaching ∷ (p.later ++ notes_of_operation model k rested one)))
          (sym p.outcome) (p.later ++ notes_of_operation model k rested one, refl, p.goes_on (one ∷ []) (notes_of_operation model k rested one) (along, (λ x. refl), ([], sym (append-nil _), refl)));
    };
    whole_is = w ∙ ap (λ zs. zs ++ trace) p.whole_is ∙ append_assoc p.attach _ _ ∙ ap (λ zs. p.attach ++ zs) (sym (all-more p.operations one)) ∙ sym (append-nil _);
    quiet_is = p.quiet_is;
    now_is = after_both s rested now answered trace p.rested_is n ∙ sym (ap (λ zs. after_trace model s (events_in zs)) w);
  }
    where
      one : OperationTrace
      one = record { session = session; op = op; trace = trace; reply = None }

  -- a flip, before event n
  flip_one : (k : ℕ) (s : ChipState W) (c : ChipRun W) (notes : List Note) (whole : List (ℕ × ChipEvent)) (known : Option Known) (pending : Option Pending) (n page bit : ℕ)
      → ChipLawAt model partitions k s c notes whole known pending
      → ChipLawAt model partitions k s (record c { chip = happens model c.chip (Flipped page bit) }) notes (whole ++ (n, Flipped page bit) ∷ []) known pending
  flip_one k s c notes whole None pending n page bit a = record {
    goes = goes_flip model (next_event (attach_path s.geometry)) s whole c.chip c.attach_answers n page bit a.goes;
    more = a.more;
    quiet = a.quiet ∙ sym (and-true _) ∙ sym (quiet-append model s (events_in whole) (Flipped page bit ∷ [])) ∙ sym (ap (was_quiet model s) (events-append whole ((n, Flipped page bit) ∷ [])));
    idle = a.idle;
    notes_are = a.notes_are ∙ sym (append-nil _) ∙ sym (notes_more model k (next_event (attach_path s.geometry)) s whole c.chip c.attach_answers n (Flipped page bit) a.goes);
  }
  flip_one k s c notes whole (Some known) None n page bit a = record {
    rested = a.rested;
    flips = a.flips ++ record { number = n; page = page; bit = bit } ∷ [];
    answered = a.answered;
    past = a.past;
    now_is = after_one a.rested c.chip (happens model c.chip (Flipped page bit)) (turned_events a.flips) n (Flipped page bit) a.now_is refl
        ∙ sym (ap (λ zs. after_trace model a.rested (events_in zs)) (turned-more a.flips (record { number = n; page = page; bit = bit })));
    whole_is = ap (λ zs. zs ++ (n, Flipped page bit) ∷ []) a.whole_is ∙ append_assoc a.answered _ _ ∙ ap (λ zs. a.answered ++ zs) (sym (turned-more a.flips (record { number = n; page = page; bit = bit })));
  }
  flip_one k s c notes whole (Some known) (Some pending) n page bit a = record {
    rested = a.rested;
    before = a.before;
    trace = a.trace ++ (n, Flipped page bit) ∷ [];
    answered = a.answered;
    past = a.past;
    goes = goes_flip model (next_event (operation_path a.rested.geometry partitions known pending.op)) a.rested a.trace c.chip pending.answers n page bit a.goes;
    notes_are = a.notes_are ∙ ap (λ zs. a.before ++ Began pending.session pending.op ∷ zs) (sym (append-nil _) ∙ sym (notes_more model k (next_event (operation_path a.rested.geometry partitions known pending.op)) a.rested a.trace c.chip pending.answers n (Flipped page bit) a.goes));
    whole_is = ap (λ zs. zs ++ (n, Flipped page bit) ∷ []) a.whole_is ∙ append_assoc a.answered _ _;
  }

  pub flip_all : (k : ℕ) (s : ChipState W) (c : ChipRun W) (notes : List Note) (whole : List (ℕ × ChipEvent)) (n page : ℕ) (bits : List ℕ)
      → ChipLaw model partitions k s c notes whole
      → ChipLaw model partitions k s (record c { chip = after_trace model c.chip (flip_events page bits) }) notes (whole ++ map (λ bit. (n, Flipped page bit)) bits)
  flip_all k s c notes whole n page [] a = subst (λ zs. ChipLaw model partitions k s c notes zs) (sym (append-nil whole)) a
  flip_all k s c notes whole n page (bit ∷ bits) a =
      subst (λ zs. ChipLaw model partitions k s (record c { chip = after_trace model c.chip (flip_events page (bit ∷ bits)) }) notes zs) (append_assoc whole _ _)
      (flip_all k s (record c { chip = happens model c.chip (Flipped page bit) }) notes (whole ++ (n, Flipped page bit) ∷ []) n page bits
      (flip_one k s c notes whole c.known c.pending n page bit a))

  -- a complete event of an attach, after which another follows
  pub attach_more : (k : ℕ) (s : ChipState W) (c : ChipRun W) (notes : List Note) (whole : List (ℕ × ChipEvent)) (n : ℕ) (e : PageEvent) (after : ChipRun W)
      → IsAttaching model partitions k s c notes whole → next_event (attach_path s.geometry) c.attach_answers ≡ Some e
      → result_of (after_answers (c.attach_answers ++ answer_to model c.chip e ∷ []) (attach_path s.geometry)) ≡ None
      → after.chip ≡ happens model c.chip (Complete e) → after.attach_answers ≡ c.attach_answers ++ answer_to model c.chip e ∷ [] → after.quiet ≡ (c.quiet && is_quiet c.chip.geometry c.chip.pages) → after.pending ≡ None
      → IsAttaching model partitions k s after (notes ++ notes_of_event model k n c.chip (Complete e)) (whole ++ (n, Complete e) ∷ [])
  attach_more k s c notes whole n e after a h g e1 e2 e3 e4 = record {
    goes = subst₂ (λ t zs. Goes model (next_event (attach_path s.geometry)) s (whole ++ (n, Complete e) ∷ []) t zs) (sym e1) (sym e2)
        (goes_event model (next_event (attach_path s.geometry)) s whole c.chip c.attach_answers n e a.goes h);
    more = ap (λ zs. result_of (after_answers zs (attach_path s.geometry))) e2 ∙ g;
    quiet = e3 ∙ quiet_event (next_event (attach_path s.geometry)) s whole c.chip c.attach_answers n e c.quiet a.goes a.quiet;
    idle = e4;
    notes_are = ap (λ zs. zs ++ notes_of_event model k n c.chip (Complete e)) a.notes_are ∙ sym (notes_more model k (next_event (attach_path s.geometry)) s whole c.chip c.attach_answers n (Complete e) a.goes);
  }

  -- the last event of an attach
  pub attach_ends : (k : ℕ) (s : ChipState W) (c : ChipRun W) (notes : List Note) (whole : List (ℕ × ChipEvent)) (n : ℕ) (e : PageEvent) (attaching : Attaching)
      → IsAttaching model partitions k s c notes whole → next_event (attach_path s.geometry) c.attach_answers ≡ Some e
      → result_of (after_answers (c.attach_answers ++ answer_to model c.chip e ∷ []) (attach_path s.geometry)) ≡ Some attaching
      → IsAttached model partitions k s (c.quiet && is_quiet c.chip.geometry c.chip.pages) (known_at_first attaching) (happens model c.chip (Complete e))
      (notes ++ notes_of_event model k n c.chip (Complete e) ++ attach_note k (c.quiet && is_quiet c.chip.geometry c.chip.pages) attaching ∷ [])
      (whole ++ (n, Complete e) ∷ [])
  attach_ends k s c notes whole n e attaching a h g = record {
    attach = attach;
    attaching = attaching;
    along = goes.along;
    outcome = outcome_is s attach (happens model c.chip (Complete e)) answers (Some attaching) goes g;
    quiet_is = quiet_event (next_event (attach_path s.geometry)) s whole c.chip c.attach_answers n e c.quiet a.goes a.quiet;
    operations = [];
    later = [];
    notes_are = ap (λ zs. zs ++ notes_of_event model k n c.chip (Complete e) ++ attach_note k (c.quiet && is_quiet c.chip.geometry c.chip.pages) attaching ∷ []) a.notes_are
        ∙ ap (λ zs. zs ++ attach_note k (c.quiet && is_quiet c.chip.geometry c.chip.pages) attaching ∷ []) (sym (notes_more model k (next_event (attach_path s.geometry)) s whole c.chip c.attach_answers n (Complete e) a.goes))
        ∙ ap (λ q. notes_of_trace model k s attach ++ attach_note k q attaching ∷ []) (quiet_event (next_event (attach_path s.geometry)) s whole c.chip c.attach_answers n e c.quiet a.goes a.quiet);
    goes_on = λ more rest r. subst (λ t. AreOperationTraces model partitions k t (known_at_first attaching) more rest) goes.now_is r;
    whole_is = sym (append-nil attach);
    rested_is = goes.now_is;
  }
    where
      answers : List Answer
      answers = c.attach_answers ++ answer_to model c.chip e ∷ []

      attach : List (ℕ × ChipEvent)
      attach = whole ++ (n, Complete e) ∷ []

      goes : Goes model (next_event (attach_path s.geometry)) s attach (happens model c.chip (Complete e)) answers
      goes = goes_event model (next_event (attach_path s.geometry)) s whole c.chip c.attach_answers n e a.goes h

  -- a cut event of an attach
  pub attach_cut : (k : ℕ) (s : ChipState W) (c : ChipRun W) (notes : List Note) (whole : List (ℕ × ChipEvent)) (n : ℕ) (e : PageEvent) (done : DoneBits)
      → IsAttaching model partitions k s c notes whole → next_event (attach_path s.geometry) c.attach_answers ≡ Some e
      → ChipEnd model partitions k s (happens model c.chip (PowerCut e done)) (c.quiet && is_quiet c.chip.geometry c.chip.pages) (notes ++ notes_of_event model k n c.chip (PowerCut e done)) (whole ++ (n, PowerCut e done) ∷ [])
  attach_cut k s c notes whole n e done a h = record {
    life = record { attach = attach; operations = []; flips_after = [] };
    history = record {
      along = along_more model (next_event (attach_path s.geometry)) s whole c.chip c.attach_answers n (PowerCut e done) a.goes (h, refl);
      later = [];
      notes_are = ap (λ zs. zs ++ notes_of_event model k n c.chip (PowerCut e done)) a.notes_are ∙ sym (notes_more model k (next_event (attach_path s.geometry)) s whole c.chip c.attach_answers n (PowerCut e done) a.goes) ∙ sym (append-nil _);
      goes_on = subst (λ o. GoesOn model o partitions k s (events_in attach) [] []) (sym (ap (λ b. outcome_if b (result_of (after_answers (answers_of model s (events_in attach)) (attach_path s.geometry)))) (ap is_uncut (events-append whole ((n, PowerCut e done) ∷ [])) ∙ uncut-append (events_in whole) (PowerCut e done ∷ []) a.goes.uncut))) (refl, refl);
    };
    whole_is = sym (append-nil _ ∙ append-nil attach);
    quiet_is = quiet_cut (next_event (attach_path s.geometry)) s whole c.chip c.attach_answers n e done c.quiet a.goes a.quiet;
    now_is = after_one s c.chip (happens model c.chip (PowerCut e done)) whole n (PowerCut e done) a.goes.now_is refl;
  }
    where
      attach : List (ℕ × ChipEvent)
      attach = whole ++ (n, PowerCut e done) ∷ []

  -- an operation begins
  pub operation_begins : (k : ℕ) (s : ChipState W) (c : ChipRun W) (known : Known) (notes : List Note) (whole : List (ℕ × ChipEvent)) (session : ℕ) (op : Op)
      → IsResting model partitions k s c known notes whole
      → IsPerforming model partitions k s (record c { pending = Some (record { session = session; op = op; answers = [] }) }) known (record { session = session; op = op; answers = [] }) (notes ++ Began session op ∷ []) whole
  operation_begins k s c known notes whole session op a = record {
    rested = a.rested;
    before = notes;
    trace = turned_events a.flips;
    answered = a.answered;
    past = a.past;
    goes = flips_go model (next_event (operation_path a.rested.geometry partitions known op)) a.rested a.flips c.chip a.now_is;
    notes_are = ap (λ zs. notes ++ Began session op ∷ zs) (sym (flips_note_nothing model k a.rested a.flips));
    whole_is = a.whole_is;
  }

  -- the geometry now is that of the operation's start
  performing_geometry : (k : ℕ) (s : ChipState W) (c : ChipRun W) (known : Known) (pending : Pending) (notes : List Note) (whole : List (ℕ × ChipEvent)) (a : IsPerforming model partitions k s c known pending notes whole) → c.chip.geometry ≡ a.rested.geometry
  performing_geometry k s c known pending notes whole a = same_geometry (next_event (operation_path a.rested.geometry partitions known pending.op)) a.rested a.trace c.chip pending.answers a.goes

  next_here : (k : ℕ) (s : ChipState W) (c : ChipRun W) (known : Known) (pending : Pending) (notes : List Note) (whole : List (ℕ × ChipEvent)) (o : Option PageEvent) (a : IsPerforming model partitions k s c known pending notes whole)
      → next_event (operation_path c.chip.geometry partitions known pending.op) pending.answers ≡ o → next_event (operation_path a.rested.geometry partitions known pending.op) pending.answers ≡ o
  next_here k s c known pending notes whole o a h = subst (λ g. next_event (operation_path g partitions known pending.op) pending.answers ≡ o) (performing_geometry k s c known pending notes whole a) h

  -- a complete event of an operation
  pub performs_on : (k : ℕ) (s : ChipState W) (c : ChipRun W) (known : Known) (pending : Pending) (notes : List Note) (whole : List (ℕ × ChipEvent)) (n : ℕ) (e : PageEvent)
      → IsPerforming model partitions k s c known pending notes whole → next_event (operation_path c.chip.geometry partitions known pending.op) pending.answers ≡ Some e
      → IsPerforming model partitions k s (record c { chip = happens model c.chip (Complete e); pending = Some (record pending { answers = pending.answers ++ answer_to model c.chip e ∷ [] }) }) known
      (record pending { answers = pending.answers ++ answer_to model c.chip e ∷ [] }) (notes ++ notes_of_event model k n c.chip (Complete e)) (whole ++ (n, Complete e) ∷ [])
  performs_on k s c known pending notes whole n e a h = record {
    rested = a.rested;
    before = a.before;
    trace = a.trace ++ (n, Complete e) ∷ [];
    answered = a.answered;
    past = a.past;
    goes = goes_event model (next_event (operation_path a.rested.geometry partitions known pending.op)) a.rested a.trace c.chip pending.answers n e a.goes (next_here k s c known pending notes whole (Some e) a h);
    notes_are = ap (λ zs. zs ++ notes_of_event model k n c.chip (Complete e)) a.notes_are ∙ append_assoc a.before _ _
        ∙ ap (λ zs. a.before ++ Began pending.session pending.op ∷ zs) (sym (notes_more model k (next_event (operation_path a.rested.geometry partitions known pending.op)) a.rested a.trace c.chip pending.answers n (Complete e) a.goes));
    whole_is = ap (λ zs. zs ++ (n, Complete e) ∷ []) a.whole_is ∙ append_assoc a.answered _ _;
  }

  -- a cut event of an operation
  pub operation_cut : (k : ℕ) (s : ChipState W) (c : ChipRun W) (known : Known) (pending : Pending) (notes : List Note) (whole : List (ℕ × ChipEvent)) (n : ℕ) (e : PageEvent) (done : DoneBits)
      → IsPerforming model partitions k s c known pending notes whole → next_event (operation_path c.chip.geometry partitions known pending.op) pending.answers ≡ Some e
      → ChipEnd model partitions k s (happens model c.chip (PowerCut e done)) c.quiet (notes ++ notes_of_event model k n c.chip (PowerCut e done)) (whole ++ (n, PowerCut e done) ∷ [])
  operation_cut k s c known pending notes whole n e done a h =
      open_end k s (happens model c.chip (PowerCut e done)) c.quiet known a.rested a.before (notes ++ notes_of_event model k n c.chip (PowerCut e done)) a.answered (whole ++ (n, PowerCut e done) ∷ []) pending.session pending.op (a.trace ++ (n, PowerCut e done) ∷ []) a.past
      (along_more model next a.rested a.trace c.chip pending.answers n (PowerCut e done) a.goes (next_here k s c known pending notes whole (Some e) a h, refl))
      (ap (λ zs. zs ++ notes_of_event model k n c.chip (PowerCut e done)) a.notes_are ∙ append_assoc a.before _ _
      ∙ ap (λ zs. a.before ++ Began pending.session pending.op ∷ zs) (sym (notes_more model k next a.rested a.trace c.chip pending.answers n (PowerCut e done) a.goes)))
      (after_one a.rested c.chip (happens model c.chip (PowerCut e done)) a.trace n (PowerCut e done) a.goes.now_is refl)
      (ap (λ zs. zs ++ (n, PowerCut e done) ∷ []) a.whole_is ∙ append_assoc a.answered _ _)
    where
      next : List Answer → Option PageEvent
      next = next_event (operation_path a.rested.geometry partitions known pending.op)

  -- an operation is answered
  pub operation_answered : (k : ℕ) (s : ChipState W) (c : ChipRun W) (known : Known) (pending : Pending) (notes : List Note) (whole : List (ℕ × ChipEvent)) (finished : Finished)
      → IsPerforming model partitions k s c known pending notes whole
      → result_of (after_answers pending.answers (operation_path c.chip.geometry partitions known pending.op)) ≡ Some finished
      → IsResting model partitions k s (with_finished c finished) finished.known (notes ++ Answered pending.session finished.reply ∷ []) whole
  operation_answered k s c known pending notes whole finished a h = record {
    rested = c.chip;
    flips = [];
    answered = whole;
    past = record {
      attach = a.past.attach;
      attaching = a.past.attaching;
      along = a.past.along;
      outcome = a.past.outcome;
      quiet_is = a.past.quiet_is;
      operations = a.past.operations ++ one ∷ [];
      later = a.past.later ++ notes_of_operation model k a.rested one;
      notes_are = ap (λ zs. zs ++ Answered pending.session finished.reply ∷ []) a.notes_are ∙ append_assoc a.before _ _ ∙ ap (λ zs. zs ++ notes_of_operation model k a.rested one) a.past.notes_are
          ∙ append_assoc (notes_of_trace model k s a.past.attach) _ _;
      goes_on = λ more rest r. subst₂ (λ operations zs. AreOperationTraces model partitions k (after_trace model s (events_in a.past.attach)) (known_at_first a.past.attaching) operations zs)
          (sym (append_assoc a.past.operations (one ∷ []) more)) (sym (append_assoc a.past.later (notes_of_operation model k a.rested one) rest))
          (a.past.goes_on (one ∷ more) (notes_of_operation model k a.rested one ++ rest)
          ((finished.known, performed), (λ x. absurd (false≢true x)), (rest, refl, subst₂ (λ t z. AreOperationTraces model partitions k t z more rest) a.goes.now_is known_is r)));
      whole_is = a.whole_is ∙ ap (λ zs. zs ++ a.trace) a.past.whole_is ∙ append_assoc a.past.attach _ _ ∙ ap (λ zs. a.past.attach ++ zs) (sym (all-more a.past.operations one));
      rested_is = after_both s a.rested c.chip a.answered a.trace a.past.rested_is a.goes.now_is ∙ sym (ap (λ zs. after_trace model s (events_in zs)) a.whole_is);
    };
    now_is = refl;
    whole_is = sym (append-nil whole);
  }
    where
      one : OperationTrace
      one = record { session = pending.session; op = pending.op; trace = a.trace; reply = Some finished.reply }

      over : result_of (after_answers (answers_of model a.rested (events_in a.trace)) (operation_path a.rested.geometry partitions known pending.op)) ≡ Some finished
      over = ap (λ zs. result_of (after_answers zs (operation_path a.rested.geometry partitions known pending.op))) (sym a.goes.answers_are)
          ∙ ap (λ g. result_of (after_answers pending.answers (operation_path g partitions known pending.op))) (sym (performing_geometry k s c known pending notes whole a)) ∙ h

      known_is : finished.known ≡ known_then known (result_of (after_answers (answers_of model a.rested (events_in a.trace)) (operation_path a.rested.geometry partitions known pending.op)))
      known_is = ap (known_then known) (sym over)

      performed : Performs model partitions a.rested known pending.op (events_in a.trace) finished.reply finished.known
      performed = record { along = a.goes.along; uncut = a.goes.uncut; over = over }

  -- a chip's end, wherever it stands
  pub chip_end_at : (k : ℕ) (s : ChipState W) (c : ChipRun W) (notes : List Note) (whole : List (ℕ × ChipEvent)) (known : Option Known) (pending : Option Pending)
      → ChipLawAt model partitions k s c notes whole known pending → ChipEnd model partitions k s c.chip c.quiet notes whole
  chip_end_at k s c notes whole None pending a = record {
    life = record { attach = whole; operations = []; flips_after = [] };
    history = record {
      along = a.goes.along;
      later = [];
      notes_are = a.notes_are ∙ sym (append-nil _);
      goes_on = subst (λ o. GoesOn model o partitions k s (events_in whole) [] []) (sym (outcome_is s whole c.chip c.attach_answers None a.goes a.more)) (refl, refl);
    };
    whole_is = sym (append-nil (whole ++ []) ∙ append-nil whole);
    quiet_is = a.quiet;
    now_is = a.goes.now_is;
  }
  chip_end_at k s c notes whole (Some known) None a = record {
    life = record { attach = a.past.attach; operations = a.past.operations ++ []; flips_after = a.flips };
    history = record {
      along = a.past.along;
      later = attach_note k (was_quiet model s (events_in a.past.attach)) a.past.attaching ∷ (a.past.later ++ []);
      notes_are = a.past.notes_are ∙ ap (λ zs. notes_of_trace model k s a.past.attach ++ attach_note k (was_quiet model s (events_in a.past.attach)) a.past.attaching ∷ zs) (sym (append-nil _));
      goes_on = subst (λ o. GoesOn model o partitions k s (events_in a.past.attach) (a.past.operations ++ []) (attach_note k (was_quiet model s (events_in a.past.attach)) a.past.attaching ∷ (a.past.later ++ [])))
          (sym a.past.outcome) (a.past.later ++ [], refl, a.past.goes_on [] [] refl);
    };
    whole_is = a.whole_is ∙ ap (λ zs. zs ++ turned_events a.flips) a.past.whole_is ∙ ap (λ ops. a.past.attach ++ traces_of ops ++ turned_events a.flips) (sym (append-nil a.past.operations));
    quiet_is = a.past.quiet_is;
    now_is = after_both s a.rested c.chip a.answered (turned_events a.flips) a.past.rested_is a.now_is ∙ sym (ap (λ zs. after_trace model s (events_in zs)) a.whole_is);
  }
  chip_end_at k s c notes whole (Some known) (Some pending) a =
      open_end k s c.chip c.quiet known a.rested a.before notes a.answered whole pending.session pending.op a.trace a.past a.goes.along a.notes_are a.goes.now_is a.whole_is
