-- The invariant says that the notes are those of one thread.
use Rattle.std.proofs.Common.{◌≡◌, ◌&&◌, ◌||◌, Bool, true, false, cond, inl, inr, ℕ, zero, suc, List, [], ◌∷◌, length, Option, Some, None, refl, ap, sym, ◌∙◌, subst, subst₂, arith}
use Rattle.std.specs.Prelude.{slice_get, option_map, fold, find, is_some, ◌==◌, All}
use Rattle.std.specs.List.{list_all}
use Rattle.std.proofs.lemmas.Bool.{and_parts}
use Rattle.std.proofs.lemmas.Option.{none-some, same_Some, slice_get-map}
use Rattle.std.proofs.lemmas.List.{length-map}
use Rattle.nand_model.specs.declared.words.Note.{Note}
use Rattle.nand_model.specs.declared.words.Op.{Op}
use Rattle.nand_model.specs.Chip.{ChipState, FaultModel, after_trace}
use Rattle.chip_paths.specs.ChipRun.{ChipRun}
use Rattle.nand_model.specs.Sizes.{raw_len}
use Rattle.run_model.specs.Log.{Log, befalls}
use Rattle.run_model.specs.Course.{sizes_of, Course, start_of_boot, attach_step, turn_step, attach_steps, course_after, end_states, is_over}
use Rattle.command_model.specs.Boot.{Boot}
use Rattle.command_model.specs.Session.{SessionRun, next_op_of, is_finished, exchanges_of, Alternate, session_after, FollowsCommands}
use Rattle.run_model.specs.History.{events_in, was_quiet, numbered_of, notes_of_chip, ChipBoot, trace_of, IsChipHistory, IsChipLife, AreOfChips}
use Rattle.run_model.specs.Run.{quiet_of, quiet_at, CoursesAreFaithful, AreInOrder, AreComplete, session_at_start, HaveOneNumberEach}
use Rattle.run_laws.proofs.Life.{ChipEnd}
use Rattle.run_laws.proofs.Sessions.{asked, nowhere}
use Rattle.run_laws.proofs.Courses.{AtPlace, ChipsHold, SessionsHold, IsLog, EndOf, by_log, Holds, live_ends}
use Rattle.run_laws.proofs.Steps.{attach_step_holds, turn_step_holds}
use Rattle.run_laws.proofs.Starts.{start_holds}

-- a list of witnesses, one for each item
pub collect : {A B : Type 0} (xs : List A) (P : ℕ → A → B → Type 0) → ((k : ℕ) (x : A) → slice_get xs k ≡ Some x → (y : B) × P k x y)
    → (ys : List B) × (length ys ≡ length xs) × ((k : ℕ) (x : A) (y : B) → slice_get xs k ≡ Some x → slice_get ys k ≡ Some y → P k x y)
collect [] P h = ([], refl, λ k x y e f. absurd (none-some x e))
collect {A} {B} (x ∷ xs) P h = go (collect xs (λ k. P (suc k)) (λ k. h (suc k))) (h 0 x refl)
  where
    go : (ys : List B) × (length ys ≡ length xs) × ((k : ℕ) (z : A) (y : B) → slice_get xs k ≡ Some z → slice_get ys k ≡ Some y → P (suc k) z y) → (y : B) × P 0 x y
        → (ys : List B) × (length ys ≡ suc (length xs)) × ((k : ℕ) (z : A) (y : B) → slice_get (x ∷ xs) k ≡ Some z → slice_get ys k ≡ Some y → P k z y)
    go r w = (w.0 ∷ r.0, ap suc r.1, by_place)
      where
        by_place : (k : ℕ) (z : A) (y : B) → slice_get (x ∷ xs) k ≡ Some z → slice_get (w.0 ∷ r.0) k ≡ Some y → P k z y
        by_place zero z y e f = subst₂ (λ a b. P 0 a b) (same_Some x z e) (same_Some w.0 y f) w.1
        by_place (suc k) z y e f = r.2 k z y e f

-- what is found passes each test that all pass
found_passes : {A : Type 0} (test is_it : A → Bool) (xs : List A) (x : A) → list_all test xs ≡ true → find is_it xs ≡ Some x → test x ≡ true
found_passes test is_it [] x h g = absurd (none-some x g)
found_passes test is_it (y ∷ ys) x h g = by_test (is_it y) g (found_passes test is_it ys x (and_parts (test y) _ h).1)
  where
    by_test : (b : Bool) → cond b (Some y) (find is_it ys) ≡ Some x → (find is_it ys ≡ Some x → test x ≡ true) → test x ≡ true
    by_test true e later = ap test (sym (same_Some y x e)) ∙ (and_parts _ _ h).0
    by_test false e later = later e

-- the only one of a list
only : {A : Type 0} (P : A → Type 0) (x : A) → P x → All P (x ∷ [])
only P x h zero d l = h
only P x h (suc k) d l = absurd (omega (arith, l))

module _ {W : Type 0} (model : FaultModel W) (boot : Boot) (starts : List (ChipState W)) where
  attaches_hold : (n : ℕ) (course : Course W) → Holds model boot starts course → Holds model boot starts (attach_steps model boot starts n course)
  attaches_hold zero course h = h
  attaches_hold (suc n) course h = attaches_hold n (attach_step model boot (sizes_of boot starts) course) (attach_step_holds model boot starts course h)

  turns_hold : (turns : List ℕ) (course : Course W) → Holds model boot starts course → Holds model boot starts (fold (turn_step model boot (sizes_of boot starts)) course turns)
  turns_hold [] course h = h
  turns_hold (turn ∷ turns) course h = turns_hold turns (turn_step model boot (sizes_of boot starts) course turn) (turn_step_holds model boot starts course turn h)

  pub course_holds : (attaches : ℕ) (turns : List ℕ) → Holds model boot starts (course_after model boot starts attaches turns)
  course_holds attaches turns = turns_hold turns (attach_steps model boot starts attaches (start_of_boot boot starts)) (attaches_hold attaches (start_of_boot boot starts) (inl (start_holds model boot starts)))

  pub log_of : (course : Course W) → Holds model boot starts course → (log : Log) × IsLog model boot starts course log × ChipsHold model boot starts (EndOf model boot starts (by_log model boot starts log)) course.chips course.notes
  log_of course (inl live) = (live.log, live.is_log, live_ends model boot starts (by_log model boot starts live.log) course.chips course.notes live.chips)
  log_of course (inr cut) = (cut.log, cut.is_log, cut.chips)

  all_sessions : (course : Course W) → Holds model boot starts course → SessionsHold model boot starts course.chips course.sessions course.notes
  all_sessions course (inl live) = live.sessions
  all_sessions course (inr cut) = cut.sessions

  alternates : (o : Option Op) → Alternate (asked o)
  alternates None = tt
  alternates (Some op) = tt

  pub paired : (course : Course W) → Holds model boot starts course → (session : ℕ) → Alternate (exchanges_of session course.notes)
  paired course h session = let a = all_sessions course h session in subst Alternate (sym a.are) (a.alternate (asked a.open_op) (alternates a.open_op))

  follows : (s : SessionRun) (o : Option Op) → ((op : Op) → o ≡ Some op → next_op_of (sizes_of boot starts) s.commands s.replies ≡ Some op)
      → FollowsCommands (sizes_of boot starts) s (asked o)
  follows s None h = tt
  follows s (Some op) h = h op refl

  pub in_order : (course : Course W) → Holds model boot starts course → HaveOneNumberEach boot.sessions → AreInOrder boot starts course.notes
  in_order course h once = record {
    own = λ session commands has.
        let a = all_sessions course h session in
        let f = a.follow commands once has in
        subst (FollowsCommands (sizes_of boot starts) (session_at_start boot starts session commands)) (sym a.are) (f.follows (asked a.open_op) (follows f.run a.open_op f.next));
    no_other = λ session none. (all_sessions course h session).not_own none;
  }

  after_asked : (s : SessionRun) (o : Option Op) → session_after (sizes_of boot starts) s (asked o) ≡ s
  after_asked s None = refl
  after_asked s (Some op) = refl

  -- where the course is over and not dark, nothing of any session is left
  pub complete : (course : Course W) → Holds model boot starts course → HaveOneNumberEach boot.sessions → is_over course ≡ true → course.dark ≡ false → AreComplete boot starts course.notes
  complete course h once over lit session commands has =
      let a = all_sessions course h session in
      let f = a.follow commands once has in
      ap (λ zs. is_finished (session_after (sizes_of boot starts) (session_at_start boot starts session commands) zs).commands) a.are
      ∙ ap (λ (s : SessionRun). is_finished s.commands) (f.after (asked a.open_op) ∙ after_asked f.run a.open_op)
      ∙ found_passes (λ (s : SessionRun). is_finished s.commands) (λ (s : SessionRun). s.number == session) course.sessions f.run finished f.found
    where
      finished : list_all (λ (s : SessionRun). is_finished s.commands) course.sessions ≡ true
      finished = (and_parts (list_all (λ (c : ChipRun W). is_some c.known) course.chips) _
          (ap (λ b. b || (list_all (λ (c : ChipRun W). is_some c.known) course.chips && list_all (λ (s : SessionRun). is_finished s.commands) course.sessions)) (sym lit) ∙ over)).1

  pub of_chips : (course : Course W) → Holds model boot starts course → AreOfChips boot.partitions (length starts) nowhere course.notes
  of_chips course (inl live) = live.of_chips
  of_chips course (inr cut) = cut.of_chips

  -- what a chip went through, by this log
  abbrev pub LifeLaw : Course W → Log → ℕ → ChipState W → ChipBoot → Type 0
  LifeLaw course log k s b = IsChipHistory model boot.partitions k s b.attach b.operations (notes_of_chip boot.partitions k course.notes)
      × (numbered_of b ≡ befalls boot k (raw_len s.geometry) 1 log)
      × (slice_get (end_states course) k ≡ Some (after_trace model s (trace_of b)))
      × (quiet_at k course ≡ was_quiet model s (events_in b.attach))

  -- a chip's life in the boot, from the law at its place
  end_at : (log : Log) (k : ℕ) (notes : List Note) (os : Option (ChipState W)) (oc : Option (ChipRun W)) (s : ChipState W) → AtPlace (EndOf model boot starts (by_log model boot starts log) k) notes os oc → os ≡ Some s
      → (b : ChipBoot) × IsChipHistory model boot.partitions k s b.attach b.operations notes × (numbered_of b ≡ befalls boot k (raw_len s.geometry) 1 log) × (option_map (λ (c : ChipRun W). c.chip) oc ≡ Some (after_trace model s (trace_of b)))
      × (quiet_of oc ≡ was_quiet model s (events_in b.attach))
  end_at log k notes None None s a e = absurd (none-some s e)
  end_at log k notes None (Some c) s a e = absurd a
  end_at log k notes (Some t) None s a e = absurd a
  end_at log k notes (Some t) (Some c) s a e =
      let b : ChipEnd model boot.partitions k s c.chip c.quiet notes (by_log model boot starts log k s) = subst (λ z. ChipEnd model boot.partitions k z c.chip c.quiet notes (by_log model boot starts log k z)) (same_Some t s e) a in
      (b.life, b.history, sym b.whole_is, ap (λ z. Some z) (b.now_is ∙ ap (λ zs. after_trace model s (events_in zs)) b.whole_is), b.quiet_is)

  pub life_at : (course : Course W) (h : Holds model boot starts course) (k : ℕ) (s : ChipState W) → slice_get starts k ≡ Some s → (b : ChipBoot) × LifeLaw course (log_of course h).0 k s b
  life_at course h k s e =
      let r = log_of course h in
      let b = end_at r.0 k (notes_of_chip boot.partitions k course.notes) (slice_get starts k) (slice_get course.chips k) s (r.2 k) e in
      (b.0, (b.1, b.2, slice_get-map (λ (c : ChipRun W). c.chip) course.chips k ∙ b.3, b.4))

  pub faithful : (attaches : ℕ) (turns : List ℕ) → CoursesAreFaithful model boot starts attaches turns
  faithful attaches turns = go (collect starts (LifeLaw course (log_of course h).0) (life_at course h))
    where
      course : Course W
      course = course_after model boot starts attaches turns

      h : Holds model boot starts course
      h = course_holds attaches turns

      one_boot : (k : ℕ) (s : ChipState W) (o : Option ChipBoot) (life : List ChipBoot) → option_map (λ (b : ChipBoot). b ∷ []) o ≡ Some life
          → ((b : ChipBoot) → o ≡ Some b → LifeLaw course (log_of course h).0 k s b) → IsChipLife model boot.partitions k s life (course.notes ∷ [])
      one_boot k s None life f g = absurd (none-some life f)
      one_boot k s (Some b) life f g = subst (λ z. IsChipLife model boot.partitions k s z (course.notes ∷ [])) (same_Some _ _ f) ((g b refl).0, tt)

      go : (ls : List ChipBoot) × (length ls ≡ length starts)
          × ((k : ℕ) (s : ChipState W) (b : ChipBoot) → slice_get starts k ≡ Some s → slice_get ls k ≡ Some b → LifeLaw course (log_of course h).0 k s b)
          → CoursesAreFaithful model boot starts attaches turns
      go r = record {
        lives = r.0;
        log = (log_of course h).0;
        counted = (log_of course h).1.counted;
        of_log = record {
          on_chips = (log_of course h).1.on_chips;
          traces = λ k s b e f. (r.2 k s b e f).1;
          ends_are = λ k s b e f. (r.2 k s b e f).2;
        };
        quiet = λ k s b e f. (r.2 k s b e f).3;
        one_thread = record {
          many = length-map r.0 (λ (b : ChipBoot). b ∷ []) ∙ r.1;
          chips = λ k s life e f. one_boot k s (slice_get r.0 k) life (sym (slice_get-map (λ (b : ChipBoot). b ∷ []) r.0 k) ∙ f) (λ b g. r.2 k s b e g);
          of_chips = only (λ notes. AreOfChips boot.partitions (length starts) nowhere notes) course.notes (of_chips course h);
          paired = only (λ notes. (session : ℕ) → Alternate (exchanges_of session notes)) course.notes (paired course h);
        };
        in_order = in_order course h;
        complete = complete course h;
      }
