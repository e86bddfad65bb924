-- The chain of boots of a run, by its courses.
use Rattle.std.proofs.Common.{◌≡◌, ◌⊎◌, ℕ, zero, suc, Bool, true, false, ◌&&◌, ◌||◌, List, [], ◌∷◌, ◌++◌, map, take, refl, ap, sym, ◌∙◌, Option, Some, None, inl, inr, subst, append_assoc, append-nil, arith}
use Rattle.std.specs.Prelude.{if◌then◌else◌, IsTrue, Contains, slice_get, option_map}
use Rattle.std.specs.List.{list_any, list_all}
use Rattle.std.proofs.lemmas.Bool.{false≢true, and_parts, eq-eqb}
use Rattle.std.proofs.lemmas.Option.{none-some, same_Some, slice_get-map}
use Rattle.std.proofs.lemmas.List.Folds.{list_any-append}
use Rattle.nand_model.specs.Chip.{ChipState, FaultModel, after_trace}
use Rattle.chip_paths.specs.ChipRun.{ChipRun, attach_note, known_at_first}
use Rattle.chip_paths.specs.Attach.{Attaching}
use Rattle.nand_model.specs.Partitions.{Partitions}
use Rattle.nand_model.specs.declared.geometry.Geometry.{Geometry}
use Rattle.nand_model.specs.declared.words.Origin.{Origin}
use Rattle.nand_model.specs.declared.words.Note.{Note}
use Rattle.nand_model.specs.declared.words.Note.TheVariants.{Attached}
use Rattle.command_model.specs.Boot.{Boot}
use Rattle.run_model.specs.Course.{Course, IsWholeCourse, end_states}
use Rattle.run_model.specs.History.{ChipBoot, trace_of, events_in, notes_of_trace, notes_of_chip, GoesOn, IsChipHistory, attach_outcome, was_quiet, notes_of_chip_from}
use Rattle.command_model.specs.Session.{Alternate, exchanges_of}
use Rattle.run_model.specs.Marking.{marks_in, begins, is_acknowledgement, marking_began, marking_acknowledged, failed_in_writing}
use Rattle.run_model.specs.Run.{AreBoots, is_fair, quiet_at, IsFairAndQuiet}
use Rattle.run_laws.proofs.Life.{ChipEnd}
use Rattle.run_laws.proofs.Courses.{AtPlace, EndOf, by_log, Holds}
use Rattle.run_laws.proofs.Faithful.{course_holds, log_of, paired}
use Rattle.crash_laws.specs.Marked.{WritesFill}
use Rattle.crash_laws.specs.Theorem.{ends_of}
use Rattle.relocation_laws.specs.Tables.{Shows}
use Rattle.crash_laws.specs.Life.{AckedIn, BegunIn, TableFails, AreFair, FollowAttach}
use Rattle.crash_laws.proofs.BareLives.{shows_more}
use Rattle.crash_laws.proofs.Chain.{Kind, AttachEnd, BegunBy, attach_end, boot_lives}
use Rattle.crash_laws.proofs.Failures.{or_left, or_right, or_cases, failed_before, failed_after, failed_of_chip, trace_failed}
use Rattle.crash_laws.proofs.Fairness.{fair_parts, attach_granted, chip_fair}
use Rattle.crash_laws.proofs.Histories.{NoAttach, parted, own_notes, replies, ops_marks, ops_none, ops_are, ops_fair, acked_in, begun_in, passes_trace, marks_pass, own_trace, trace_none, has_attach}
use Rattle.crash_laws.proofs.MarkNotes.{Own, chip_marks}
use Rattle.run_laws.proofs.ChipNotes.{chip_notes-append, lasts}
use Rattle.run_laws.proofs.Traces.{geometry_after}
use Rattle.nand_model.specs.declared.words.Reply.{Reply}

-- ---- one boot of a chip, by its notes
module _ {W : Type 0} (model : FaultModel W) (partitions : Partitions) (k : ℕ) (g : Geometry) (s : ChipState W) (b : ChipBoot) (notes : List Note) (same : s.geometry ≡ g)
    (h : IsChipHistory model partitions k s b.attach b.operations notes) (own : Own partitions k g notes) where
  abbrev attach_notes : List Note
  attach_notes = notes_of_trace model k s b.attach

  abbrev outcome : Option Attaching
  outcome = attach_outcome model s (events_in b.attach)

  abbrev attached : ChipState W
  attached = after_trace model s (events_in b.attach)

  own_later : Own partitions k g h.later
  own_later = own_trace model partitions k g s b.attach h.later (subst (Own partitions k g) h.notes_are own)

  pub follow : FollowAttach model partitions (attach_outcome model s (events_in b.attach)) (after_trace model s (events_in b.attach)) b.operations
  follow = on (attach_outcome model s (events_in b.attach)) h.goes_on
    where
      on : (o : Option Attaching) → GoesOn model o partitions k s (events_in b.attach) b.operations h.later → FollowAttach model partitions o (after_trace model s (events_in b.attach)) b.operations
      on None g0 = g0.1
      on (Some a) (rest, are, all) =
          ops_are model partitions k g (after_trace model s (events_in b.attach)) (known_at_first a) b.operations rest (geometry_after model s (events_in b.attach) ∙ same) all (subst (Own partitions k g) are own_later)

  pub fair_attach : is_fair k notes ≡ true → is_fair k (notes_of_trace model k s b.attach) ≡ true
  fair_attach fair = (fair_parts k (notes_of_trace model k s b.attach) h.later (ap (is_fair k) (sym h.notes_are) ∙ fair)).0

  pub fair_operations : is_fair k notes ≡ true → AreFair model (after_trace model s (events_in b.attach)) b.operations
  fair_operations fair = on (attach_outcome model s (events_in b.attach)) h.goes_on (fair_parts k (notes_of_trace model k s b.attach) h.later (ap (is_fair k) (sym h.notes_are) ∙ fair)).1
    where
      on : (o : Option Attaching) → GoesOn model o partitions k s (events_in b.attach) b.operations h.later → is_fair k h.later ≡ true → AreFair model (after_trace model s (events_in b.attach)) b.operations
      on None g0 f = subst (AreFair model (after_trace model s (events_in b.attach))) (sym g0.1) tt
      on (Some a) (rest, are, all) f =
          ops_fair model partitions k (after_trace model s (events_in b.attach)) (known_at_first a) b.operations rest all
          (fair_parts k (attach_note k (was_quiet model s (events_in b.attach)) a ∷ []) rest (ap (is_fair k) (sym are) ∙ f)).1

  pub marks : (d : ℕ) → marks_in partitions k d notes ≡ replies model partitions k d b.operations
  marks d =
      ap (marks_in partitions k d) h.notes_are ∙ passes_trace model partitions k (List (Option Reply)) (marks_in partitions k d) (marks_pass model partitions k d) s b.attach h.later
      ∙ on (attach_outcome model s (events_in b.attach)) h.goes_on
    where
      on : (o : Option Attaching) → GoesOn model o partitions k s (events_in b.attach) b.operations h.later → marks_in partitions k d h.later ≡ replies model partitions k d b.operations
      on None g0 = ap (marks_in partitions k d) g0.0 ∙ sym (ap (replies model partitions k d) g0.1)
      on (Some a) (rest, are, all) = ap (marks_in partitions k d) are ∙ ops_marks model partitions k d (after_trace model s (events_in b.attach)) (known_at_first a) b.operations rest all

  -- a block that failed in the writings of the attach
  pub attach_failed : (d : ℕ) → TableFails model g s (events_in b.attach) d → failed_in_writing g k d notes ≡ true
  attach_failed d f = ap (failed_in_writing g k d) h.notes_are ∙ failed_before g k d (notes_of_trace model k s b.attach) h.later (trace_failed g k d model s b.attach f)

  pub begun : (d : ℕ) → BegunIn model partitions g (after_trace model s (events_in b.attach)) b.operations d → (list_any begins (marks_in partitions k d notes) ≡ true) ⊎ (failed_in_writing g k d notes ≡ true)
  begun d x = on (attach_outcome model s (events_in b.attach)) h.goes_on
    where
      on : (o : Option Attaching) → GoesOn model o partitions k s (events_in b.attach) b.operations h.later → (list_any begins (marks_in partitions k d notes) ≡ true) ⊎ (failed_in_writing g k d notes ≡ true)
      on None g0 = absurd (subst (λ os. BegunIn model partitions g (after_trace model s (events_in b.attach)) os d) g0.1 x)
      on (Some a) (rest, are, all) = by (begun_in model partitions k g d (after_trace model s (events_in b.attach)) (known_at_first a) b.operations rest all (subst (Own partitions k g) are own_later) x)
        where
          by : (list_any begins (replies model partitions k d b.operations) ≡ true) ⊎ (failed_in_writing g k d rest ≡ true) → (list_any begins (marks_in partitions k d notes) ≡ true) ⊎ (failed_in_writing g k d notes ≡ true)
          by (inl e) = inl (ap (list_any begins) (marks d) ∙ e)
          by (inr e) =
              inr (ap (failed_in_writing g k d) (h.notes_are ∙ ap (λ xs. notes_of_trace model k s b.attach ++ xs) are)
              ∙ failed_after g k d (notes_of_trace model k s b.attach) (attach_note k (was_quiet model s (events_in b.attach)) a ∷ rest)
              (failed_after g k d (attach_note k (was_quiet model s (events_in b.attach)) a ∷ []) rest e))

  -- the note of the attach
  pub record Noted (origin : Origin) (version copies : ℕ) (quiet : Bool) (states : List ℕ) (before : List Note) : Type 0 where
    pub attaching : Attaching
    pub outcome_is : attach_outcome model s (events_in b.attach) ≡ Some attaching
    pub before_is : before ≡ notes_of_trace model k s b.attach
    pub quiet_is : was_quiet model s (events_in b.attach) ≡ quiet
    pub table_is : attaching.table ≡ states

  flag_of : Note → Bool
  flag_of (Attached chip origin version copies quiet states) = quiet
  flag_of _ = false

  states_of : Note → List ℕ
  states_of (Attached chip origin version copies quiet states) = states
  states_of _ = []

  no_attach_before : NoAttach (notes_of_trace model k s b.attach)
  no_attach_before = subst NoAttach (append-nil (notes_of_trace model k s b.attach)) (trace_none model partitions k s b.attach [] tt)

  pub noted : (origin : Origin) (version copies : ℕ) (quiet : Bool) (states : List ℕ) (before after : List Note) → notes ≡ before ++ Attached k origin version copies quiet states ∷ after
      → Noted origin version copies quiet states before
  unfolding flag_of states_of
  noted origin version copies quiet states before after e = on (attach_outcome model s (events_in b.attach)) refl h.goes_on
    where
      on : (o : Option Attaching) → attach_outcome model s (events_in b.attach) ≡ o → GoesOn model o partitions k s (events_in b.attach) b.operations h.later → Noted origin version copies quiet states before
      on None is g0 =
          absurd (has_attach before after (Attached k origin version copies quiet states) refl
          (subst NoAttach (sym (append-nil (notes_of_trace model k s b.attach)) ∙ ap (λ xs. notes_of_trace model k s b.attach ++ xs) (sym g0.0) ∙ sym h.notes_are ∙ e) no_attach_before))
      on (Some a) is (rest, are, all) =
          let p = parted before after (notes_of_trace model k s b.attach) rest (Attached k origin version copies quiet states) (attach_note k (was_quiet model s (events_in b.attach)) a) refl refl no_attach_before
          (ops_none model partitions k (after_trace model s (events_in b.attach)) (known_at_first a) b.operations rest all)
          (sym e ∙ h.notes_are ∙ ap (λ xs. notes_of_trace model k s b.attach ++ xs) are) in
          record { attaching = a; outcome_is = is; before_is = p.0; quiet_is = sym (ap flag_of p.1); table_is = sym (ap states_of p.1) }

-- ---- what the notes of boots say of a block
abbrev pub Acked : Partitions → ℕ → List (List Note) → ℕ → Type 0
Acked partitions k past d = IsTrue (list_any (marking_acknowledged partitions k d) past)

abbrev pub Begun : Geometry → Partitions → ℕ → List (List Note) → ℕ → Type 0
Begun g partitions k past d = IsTrue (list_any (marking_began g partitions k d) past)

more_any : (test : List Note → Bool) (past : List (List Note)) (notes : List Note) → list_any test (past ++ notes ∷ []) ≡ true → (list_any test past ≡ true) ⊎ (test notes ≡ true)
more_any test past notes h = on (or_cases (list_any test past) (test notes || false) (sym (list_any-append test past (notes ∷ [])) ∙ h))
  where
    last : (t : Bool) → (t || false) ≡ true → t ≡ true
    last true e = refl
    last false e = absurd (false≢true e)

    on : (list_any test past ≡ true) ⊎ ((test notes || false) ≡ true) → (list_any test past ≡ true) ⊎ (test notes ≡ true)
    on (inl e) = inl e
    on (inr e) = inr (last (test notes) e)

pub any_more : (test : List Note → Bool) (past : List (List Note)) (notes : List Note) → (list_any test past ≡ true) ⊎ (test notes ≡ true) → list_any test (past ++ notes ∷ []) ≡ true
any_more test past notes (inl e) = list_any-append test past (notes ∷ []) ∙ or_left (list_any test past) (test notes || false) e
any_more test past notes (inr e) = list_any-append test past (notes ∷ []) ∙ or_right (list_any test past) (test notes || false) (or_left (test notes) false e)

-- ---- one boot of a course
-- what a chip went through in a boot
pub record BootOf {W : Type 0} (model : FaultModel W) (partitions : Partitions) (k : ℕ) (s : ChipState W) (course : Course W) : Type 0 where
  pub run : ChipRun W
  pub at : slice_get course.chips k ≡ Some run
  pub life : ChipBoot
  pub history : IsChipHistory model partitions k s life.attach life.operations (notes_of_chip partitions k course.notes)
  pub quiet : run.quiet ≡ was_quiet model s (events_in life.attach)
  pub next : slice_get (end_states course) k ≡ Some (after_trace model s (trace_of life))
  pub pairs : (session : ℕ) → Alternate (exchanges_of session course.notes)

module _ {W : Type 0} (model : FaultModel W) where
  pub boot_at : (boot : Boot) (starts : List (ChipState W)) (course : Course W) → Holds model boot starts course → (k : ℕ) (s : ChipState W) → slice_get starts k ≡ Some s → BootOf model boot.partitions k s course
  boot_at boot starts course holds k s at = on (slice_get starts k) at (slice_get course.chips k) refl ((log_of model boot starts course holds).2 k)
    where
      on : (os : Option (ChipState W)) → os ≡ Some s → (oc : Option (ChipRun W)) → slice_get course.chips k ≡ oc
          → AtPlace (EndOf model boot starts (by_log model boot starts (log_of model boot starts course holds).0) k) (notes_of_chip boot.partitions k course.notes) os oc → BootOf model boot.partitions k s course
      on None e oc f a = absurd (none-some s e)
      on (Some t) e None f a = absurd a
      on (Some t) e (Some c) f a =
          let r : ChipEnd model boot.partitions k s c.chip c.quiet (notes_of_chip boot.partitions k course.notes) (by_log model boot starts (log_of model boot starts course holds).0 k s) =
          subst (λ z. ChipEnd model boot.partitions k z c.chip c.quiet (notes_of_chip boot.partitions k course.notes) (by_log model boot starts (log_of model boot starts course holds).0 k z)) (same_Some t s e) a in
          record {
            run = c;
            at = f;
            life = r.life;
            history = r.history;
            quiet = r.quiet_is;
            next = slice_get-map (λ (c : ChipRun W). c.chip) course.chips k ∙ ap (option_map (λ (c : ChipRun W). c.chip)) f ∙ ap (λ z. Some z) (r.now_is ∙ ap (λ zs. after_trace model s (events_in zs)) r.whole_is);
            pairs = paired model boot starts course holds;
          }

  pub boot_of : (boot : Boot) (starts : List (ChipState W)) (turns : List ℕ) (course : Course W) → IsWholeCourse model boot starts turns course → (k : ℕ) (s : ChipState W) → slice_get starts k ≡ Some s
      → BootOf model boot.partitions k s course
  boot_of boot starts turns course whole k s at = boot_at boot starts course (subst (Holds model boot starts) (sym whole.steps) (course_holds model boot starts whole.attaches turns)) k s at

pub quiet_run : {W : Type 0} (k : ℕ) (course : Course W) (c : ChipRun W) → slice_get course.chips k ≡ Some c → quiet_at k course ≡ true → c.quiet ≡ true
quiet_run k course c at q = rw at at q

module _ {W : Type 0} (model : FaultModel W) (partitions : Partitions) (k : ℕ) (g : Geometry) (F : ℕ → Type 0) (kind : Kind model g F partitions) where
  -- the attach note of a boot shows what it should
  shown_now : (past : List (List Note)) (s : ChipState W) (course : Course W) (boot : BootOf model partitions k s course) → kind.Lives (Acked partitions k past) (Begun g partitions k past) s
      → WritesFill g (notes_of_chip partitions k course.notes) → (before after : List Note) (origin : Origin) (version copies : ℕ) (states : List ℕ)
      → course.notes ≡ before ++ Attached k origin version copies true states ∷ after → is_fair k before ≡ true → Shows g F (Acked partitions k past) (Begun g partitions k (past ++ before ∷ [])) states
  shown_now past s course boot alive fill before after origin version copies states e fair =
      shows_more g F (Acked partitions k past) (λ d. Begun g partitions k past d ⊎ TableFails model g s (events_in boot.life.attach) d) (Begun g partitions k (past ++ before ∷ [])) states more
      (subst (Shows g F (Acked partitions k past) (λ d. Begun g partitions k past d ⊎ TableFails model g s (events_in boot.life.attach) d)) n.table_is (end.shown n.attaching n.outcome_is).0)
    where
      notes : List Note
      notes = notes_of_chip partitions k course.notes

      same : s.geometry ≡ g
      same = kind.sized (Acked partitions k past) (Begun g partitions k past) s alive

      own : Own partitions k g (notes_of_chip partitions k course.notes)
      own = own_notes partitions k g (λ session. None) course.notes fill

      chip_before : List Note
      chip_before = notes_of_chip partitions k before

      cut : notes_of_chip partitions k course.notes ≡ notes_of_chip partitions k before ++ Attached k origin version copies true states ∷ notes_of_chip_from partitions (lasts partitions (λ session. None) before) k after
      cut = ap (notes_of_chip partitions k) e ∙ chip_notes-append partitions (λ session. None) k before (Attached k origin version copies true states ∷ after)
          ∙ ap (λ t. notes_of_chip partitions k before ++ ((if t then Attached k origin version copies true states ∷ [] else []) ++ notes_of_chip_from partitions (lasts partitions (λ session. None) before) k after)) (eq-eqb k k refl)

      n : Noted model partitions k g s boot.life (notes_of_chip partitions k course.notes) same boot.history own origin version copies true states (notes_of_chip partitions k before)
      n = noted model partitions k g s boot.life (notes_of_chip partitions k course.notes) same boot.history own origin version copies true states (notes_of_chip partitions k before) _ cut

      end : AttachEnd model g F partitions kind (Acked partitions k past) (Begun g partitions k past) s (after_trace model s (events_in boot.life.attach)) (events_in boot.life.attach)
      end = attach_end model g F partitions kind (Acked partitions k past) (Begun g partitions k past) s (events_in boot.life.attach) alive boot.history.along
          (attach_granted model k s boot.life.attach (subst (λ xs. is_fair k xs ≡ true) n.before_is (chip_fair partitions (λ session. None) k before fair)) n.quiet_is)

      more : (d : ℕ) → Begun g partitions k past d ⊎ TableFails model g s (events_in boot.life.attach) d → Begun g partitions k (past ++ before ∷ []) d
      more d (inl e) = any_more (marking_began g partitions k d) past before (inl e)
      more d (inr f) =
          any_more (marking_began g partitions k d) past before
          (inr (or_right (list_any begins (marks_in partitions k d before)) (failed_in_writing g k d before)
          (failed_of_chip g k d partitions (λ session. None) before (ap (failed_in_writing g k d) n.before_is ∙ trace_failed g k d model s boot.life.attach f))))

  -- A chip lives through a boot that was fair and quiet, by its own notes; all notes may stand for
  -- them where they tell the same marks
  module _ (past : List (List Note)) (s : ChipState W) (b : ChipBoot) (notes all : List Note) (h : IsChipHistory model partitions k s b.attach b.operations notes) (own : Own partitions k g notes)
      (same_marks : (d : ℕ) → marks_in partitions k d notes ≡ marks_in partitions k d all) (failed : (d : ℕ) → failed_in_writing g k d notes ≡ true → failed_in_writing g k d all ≡ true)
      (alive : kind.Lives (Acked partitions k past) (Begun g partitions k past) s) where
    same : s.geometry ≡ g
    same = kind.sized (Acked partitions k past) (Begun g partitions k past) s alive

    acked : (d : ℕ) → Acked partitions k (past ++ all ∷ []) d → Acked partitions k past d ⊎ AckedIn partitions b.operations d
    acked d e = on (more_any (marking_acknowledged partitions k d) past all e)
      where
        on : (list_any (marking_acknowledged partitions k d) past ≡ true) ⊎ (marking_acknowledged partitions k d all ≡ true) → Acked partitions k past d ⊎ AckedIn partitions b.operations d
        on (inl e) = inl e
        on (inr e) = inr (acked_in model partitions k d b.operations (ap (list_any is_acknowledgement) (sym (marks model partitions k g s b notes same h own d) ∙ same_marks d) ∙ e))

    by_mark : (d : ℕ) → list_any begins (marks_in partitions k d notes) ≡ true → marking_began g partitions k d all ≡ true
    by_mark d e = or_left (list_any begins (marks_in partitions k d all)) (failed_in_writing g k d all) (ap (list_any begins) (sym (same_marks d)) ∙ e)

    by_failure : (d : ℕ) → failed_in_writing g k d notes ≡ true → marking_began g partitions k d all ≡ true
    by_failure d e = or_right (list_any begins (marks_in partitions k d all)) (failed_in_writing g k d all) (failed d e)

    begun_more : (d : ℕ) → BegunBy model g F partitions kind (Begun g partitions k past) s b d → Begun g partitions k (past ++ all ∷ []) d
    begun_more d (inl (inl e)) = any_more (marking_began g partitions k d) past all (inl e)
    begun_more d (inl (inr f)) = any_more (marking_began g partitions k d) past all (inr (by_failure d (attach_failed model partitions k g s b notes same h own d f)))
    begun_more d (inr x) = any_more (marking_began g partitions k d) past all (inr (on (begun model partitions k g s b notes same h own d x)))
      where
        on : (list_any begins (marks_in partitions k d notes) ≡ true) ⊎ (failed_in_writing g k d notes ≡ true) → marking_began g partitions k d all ≡ true
        on (inl e) = by_mark d e
        on (inr e) = by_failure d e

    pub boot_through : is_fair k notes ≡ true → was_quiet model s (events_in b.attach) ≡ true
        → kind.Lives (Acked partitions k (past ++ all ∷ [])) (Begun g partitions k (past ++ all ∷ [])) (after_trace model s (trace_of b))
    boot_through fair quiet =
        kind.fewer (λ d. Acked partitions k past d ⊎ AckedIn partitions b.operations d) (BegunBy model g F partitions kind (Begun g partitions k past) s b)
        (Acked partitions k (past ++ all ∷ [])) (Begun g partitions k (past ++ all ∷ [])) (after_trace model s (trace_of b)) acked begun_more
        (boot_lives model g F partitions kind (Acked partitions k past) (Begun g partitions k past) s b end (follow model partitions k g s b notes same h own) (fair_operations model partitions k g s b notes same h own fair))
      where
        end : AttachEnd model g F partitions kind (Acked partitions k past) (Begun g partitions k past) s (after_trace model s (events_in b.attach)) (events_in b.attach)
        end = attach_end model g F partitions kind (Acked partitions k past) (Begun g partitions k past) s (events_in b.attach) alive h.along
            (attach_granted model k s b.attach (fair_attach model partitions k g s b notes same h own fair) quiet)

  -- and so through such a boot of a course
  pub lives_through : (past : List (List Note)) (s : ChipState W) (course : Course W) (boot : BootOf model partitions k s course) → kind.Lives (Acked partitions k past) (Begun g partitions k past) s
      → WritesFill g (notes_of_chip partitions k course.notes) → is_fair k course.notes ≡ true → quiet_at k course ≡ true
      → kind.Lives (Acked partitions k (past ++ course.notes ∷ [])) (Begun g partitions k (past ++ course.notes ∷ [])) (after_trace model s (trace_of boot.life))
  lives_through past s course boot alive fill fair quiet =
      boot_through past s boot.life (notes_of_chip partitions k course.notes) course.notes boot.history (own_notes partitions k g (λ session. None) course.notes fill)
      (λ d. chip_marks partitions k d course.notes boot.pairs) (λ d e. failed_of_chip g k d partitions (λ session. None) course.notes e) alive
      (chip_fair partitions (λ session. None) k course.notes fair) (sym boot.quiet ∙ quiet_run k course boot.run boot.at quiet)

  -- each attach note of a quiet attach shows the marks of the boots before it
  abbrev SurvivesFrom : List (List Note) → List (Course W) → Type 0
  SurvivesFrom past courses =
      (n : ℕ) (course : Course W) (before after : List Note) (origin : Origin) (version copies : ℕ) (states : List ℕ) →
      slice_get courses n ≡ Some course → course.notes ≡ before ++ Attached k origin version copies true states ∷ after →
      IsFairAndQuiet k (take n courses) → IsTrue (is_fair k before) →
      Shows g F (Acked partitions k (past ++ map (λ (c : Course W). c.notes) (take n courses))) (Begun g partitions k ((past ++ map (λ (c : Course W). c.notes) (take n courses)) ++ before ∷ [])) states

  pub survive : (courses : List (Course W)) (boots : List Boot) (turns : List (List ℕ)) (starts : List (ChipState W)) (past : List (List Note)) (s : ChipState W)
      → ((boot : Boot) → Contains boots boot → boot.partitions ≡ partitions) → AreBoots model starts boots turns courses → slice_get starts k ≡ Some s
      → kind.Lives (Acked partitions k past) (Begun g partitions k past) s → ((course : Course W) → Contains courses course → WritesFill g (notes_of_chip partitions k course.notes)) → SurvivesFrom past courses
  survive [] boots turns starts past s has h at alive fill n course before after origin version copies states here e fair_quiet fair = absurd (none-some course here)
  survive (c ∷ courses) [] [] starts past s has h at alive fill n course before after origin version copies states here e fair_quiet fair = absurd h
  survive (c ∷ courses) [] (turn ∷ turns) starts past s has h at alive fill n course before after origin version copies states here e fair_quiet fair = absurd h
  survive (c ∷ courses) (boot ∷ boots) [] starts past s has h at alive fill n course before after origin version copies states here e fair_quiet fair = absurd h
  survive (c ∷ courses) (boot ∷ boots) (turn ∷ turns) starts past s has h at alive fill zero course before after origin version copies states here e fair_quiet fair =
      subst (λ zs. Shows g F (Acked partitions k zs) (Begun g partitions k (zs ++ before ∷ [])) states) (sym (append-nil past))
      (shown_now past s c (boot_here boot starts turn c h.0 at has boots) alive (fill c (0, omega arith, refl)) before after origin version copies states (ap (λ (z : Course W). z.notes) (same_Some c course here) ∙ e) fair)
    where
      boot_here : (boot : Boot) (starts : List (ChipState W)) (turn : List ℕ) (c : Course W) → IsWholeCourse model boot starts turn c → slice_get starts k ≡ Some s
          → ((b : Boot) → Contains (boot ∷ boots) b → b.partitions ≡ partitions) → List Boot → BootOf model partitions k s c
      boot_here boot starts turn c whole at has bs = subst (λ p. BootOf model p k s c) (has boot (0, omega arith, refl)) (boot_of model boot starts turn c whole k s at)
  survive (c ∷ courses) (boot ∷ boots) (turn ∷ turns) starts past s has h at alive fill (suc n) course before after origin version copies states here e fair_quiet fair =
      let b : BootOf model partitions k s c = subst (λ p. BootOf model p k s c) (has boot (0, omega arith, refl)) (boot_of model boot starts turn c h.0 k s at) in
      let parts = and_parts (is_fair k c.notes && quiet_at k c) (list_all (λ (z : Course W). is_fair k z.notes && quiet_at k z) (take n courses)) fair_quiet in
      let first = and_parts (is_fair k c.notes) (quiet_at k c) parts.0 in
      let r = lives_through past s c b alive (fill c (0, omega arith, refl)) first.0 first.1 in
      subst (λ zs. Shows g F (Acked partitions k zs) (Begun g partitions k (zs ++ before ∷ [])) states) (append_assoc past (c.notes ∷ []) (map (λ (z : Course W). z.notes) (take n courses)))
      (survive courses boots turns (end_states c) (past ++ c.notes ∷ []) (after_trace model s (trace_of b.life)) (λ z i. has z (suc i.0, omega (arith, i.1), i.2)) h.1 b.next r
      (λ z i. fill z (suc i.0, omega (arith, i.1), i.2)) n course before after origin version copies states here e parts.1 fair)

  -- and lives after all of them, where all were fair and quiet: these are the notes of the boots
  pub record LivesAfter (ends : List (ChipState W)) (notes : List (List Note)) : Type 0 where
    pub chip : ChipState W
    pub at : slice_get ends k ≡ Some chip
    pub alive : kind.Lives (Acked partitions k notes) (Begun g partitions k notes) chip

  pub lives_after : (courses : List (Course W)) (boots : List Boot) (turns : List (List ℕ)) (starts : List (ChipState W)) (past : List (List Note)) (s : ChipState W)
      → ((boot : Boot) → Contains boots boot → boot.partitions ≡ partitions) → AreBoots model starts boots turns courses → slice_get starts k ≡ Some s
      → kind.Lives (Acked partitions k past) (Begun g partitions k past) s → ((course : Course W) → Contains courses course → WritesFill g (notes_of_chip partitions k course.notes)) → IsFairAndQuiet k courses
      → LivesAfter (ends_of starts courses) (past ++ map (λ (c : Course W). c.notes) courses)
  lives_after [] boots turns starts past s has h at alive fill good = subst (LivesAfter starts) (sym (append-nil past)) (record { chip = s; at = at; alive = alive })
  lives_after (c ∷ courses) [] [] starts past s has h at alive fill good = absurd h
  lives_after (c ∷ courses) [] (turn ∷ turns) starts past s has h at alive fill good = absurd h
  lives_after (c ∷ courses) (boot ∷ boots) [] starts past s has h at alive fill good = absurd h
  lives_after (c ∷ courses) (boot ∷ boots) (turn ∷ turns) starts past s has h at alive fill good =
      let b : BootOf model partitions k s c = subst (λ p. BootOf model p k s c) (has boot (0, omega arith, refl)) (boot_of model boot starts turn c h.0 k s at) in
      let parts = and_parts (is_fair k c.notes && quiet_at k c) (list_all (λ (z : Course W). is_fair k z.notes && quiet_at k z) courses) good in
      let first = and_parts (is_fair k c.notes) (quiet_at k c) parts.0 in
      let r = lives_through past s c b alive (fill c (0, omega arith, refl)) first.0 first.1 in
      subst (LivesAfter (ends_of (end_states c) courses)) (append_assoc past (c.notes ∷ []) (map (λ (z : Course W). z.notes) courses))
      (lives_after courses boots turns (end_states c) (past ++ c.notes ∷ []) (after_trace model s (trace_of b.life)) (λ z i. has z (suc i.0, omega (arith, i.1), i.2)) h.1 b.next r
      (λ z i. fill z (suc i.0, omega (arith, i.1), i.2)) parts.1)
