-- A course that is not over goes on: some session's turn is not idle.
use Rattle.std.proofs.Common.{◌≡◌, ◌⊎◌, ◌<◌, ◌≤◌, get_or, inl, inr, ℕ, zero, suc, ◌+◌, Bool, true, false, not, ◌&&◌, ◌||◌, cond, List, [], ◌∷◌, ◌++◌, length, map, Option, Some, None, refl, ap, sym, ◌∙◌, subst, arith}
use Rattle.std.specs.Prelude.{slice_get, find, position, fold, is_none, is_some, if◌then◌else◌, ◌==◌, Contains}
use Rattle.std.specs.List.{list_all}
use Rattle.std.proofs.lemmas.Bool.{false≢true, eq-eqb, eqb-true, or_parts}
use Rattle.std.proofs.lemmas.Option.{none-some, same_Some, slice_get_within, get_or_from_slice_get, slice_get_cases}
use Rattle.nand_model.specs.declared.geometry.Geometry.{Geometry}
use Rattle.nand_model.specs.declared.tear.Tear.{Tear}
use Rattle.nand_model.specs.declared.words.Command.{Command}
use Rattle.nand_model.specs.declared.words.Outcome.{Outcome}
use Rattle.nand_model.specs.declared.words.Note.{Note}
use Rattle.nand_model.specs.declared.words.Op.{Op}
use Rattle.nand_model.specs.declared.words.Reply.{Reply}
use Rattle.nand_model.specs.Chip.{ChipState, FaultModel, PageEvent}
use Rattle.chip_paths.specs.Operation.{Known, Finished}
use Rattle.nand_model.specs.Partitions.{device_of, chip_of, command_device}
use Rattle.chip_paths.specs.ChipRun.{ChipRun, Pending, finished_by, next_chip_event}
use Rattle.command_model.specs.Command.{Script, End, Ask, Next, Do, Over, after_replies, next_in, next_step, script_of}
use Rattle.command_model.specs.Boot.{Boot}
use Rattle.run_model.specs.Course.{Course, session_run, finish, with_answer, with_flips_before, event_done, event_on, event_or_answer, chip_step, began, begin_on, begin_at, begin_step, session_step, turn_unless, turn_step, attach_first, attach_step, attach_steps, course_after, start_of_boot, sizes_of, is_idle, is_free, is_free_at, can_begin, unattached, pending_chip, is_pending_of}
use Rattle.nand_model.specs.Cuts.{tear_at}
use Rattle.command_model.specs.Session.{SessionRun, without_finished, with_reply, replied, next_op_of, op_of_next, next_op, is_finished}
use Rattle.run_model.specs.History.{notes_of_chip, IsThere}
use Rattle.run_model.specs.Run.{HaveOneNumberEach}
use Rattle.command_model.specs.Laws.{AsksOnly}
use Rattle.run_laws.specs.Turns.{HaveChips, SomeTurnIsBusy}
use Rattle.command_model.proofs.Devices.{own_device}
use Rattle.run_laws.proofs.Places.{position_is, position_none}
use Rattle.run_laws.proofs.Sessions.{number_stays}
use Rattle.run_laws.proofs.Courses.{AtPlace, asked_on, asked_by, LawOf, by_log, IsLive, Holds}
use Rattle.run_laws.proofs.Faithful.{course_holds}

-- what the sessions of a boot have at first, and keep with each reply, they always have
module _ {W : Type 0} (model : FaultModel W) (boot : Boot) (sizes : Command → Geometry) (P : List SessionRun → Type 0)
    (reply_keeps : (session : ℕ) (reply : Reply) (sessions : List SessionRun) → P sessions → P (replied sizes session reply sessions)) where
  finish_keeps : (course : Course W) (k : ℕ) (c : ChipRun W) (session : ℕ) (o : Option Finished) → P course.sessions → P (finish sizes course k c session o).sessions
  finish_keeps course k c session None h = h
  finish_keeps course k c session (Some finished) h = reply_keeps session finished.reply course.sessions h

  answer_keeps : (course : Course W) (k : ℕ) (c : ChipRun W) (known : Option Known) (pending : Option Pending) → P course.sessions
      → P (with_answer boot.partitions sizes course k c known pending).sessions
  answer_keeps course k c None pending h = h
  answer_keeps course k c (Some known) None h = h
  answer_keeps course k c (Some known) (Some pending) h = finish_keeps course k c pending.session (finished_by boot.partitions c known pending) h

  done_keeps : (course : Course W) (chips : List (ChipRun W)) (k n : ℕ) (c : ChipRun W) (e : PageEvent) (tear : Option Tear) → P course.sessions
      → P (event_done model boot course chips k n c e tear).sessions
  done_keeps course chips k n c e None h = h
  done_keeps course chips k n c e (Some tear) h = h

  event_keeps : (course : Course W) (chips : List (ChipRun W)) (k : ℕ) (o : Option (ChipRun W)) (e : PageEvent) → P course.sessions → P (event_on model boot course chips k o e).sessions
  event_keeps course chips k None e h = h
  event_keeps course chips k (Some c) e h = done_keeps course chips k (course.events + 1) c e (tear_at boot.cut (course.events + 1)) h

  next_keeps : (course : Course W) (k : ℕ) (c : ChipRun W) (o : Option PageEvent) → P course.sessions → P (event_or_answer model boot sizes course k c o).sessions
  next_keeps course k c None h = answer_keeps course k c c.known c.pending h
  next_keeps course k c (Some e) h =
      event_keeps course (with_flips_before model boot (course.events + 1) course.chips) k (slice_get (with_flips_before model boot (course.events + 1) course.chips) k) e h

  chip_keeps : (course : Course W) (k : ℕ) (o : Option (ChipRun W)) → P course.sessions → P (chip_step model boot sizes course k o).sessions
  chip_keeps course k None h = h
  chip_keeps course k (Some c) h = next_keeps course k c (next_chip_event boot.partitions c) h

  begin_on_keeps : (course : Course W) (session k : ℕ) (op : Op) (o : Option (ChipRun W)) → P course.sessions → P (begin_on model boot course session op k o).sessions
  begin_on_keeps course session k op None h = h
  begin_on_keeps course session k op (Some c) h = by_pending (is_some c.pending)
    where
      by_pending : (b : Bool) → P (if b then course else began course session k op).sessions
      by_pending true = h
      by_pending false = h

  begin_at_keeps : (course : Course W) (session : ℕ) (op : Op) (o : Option ℕ) → P course.sessions → P (begin_at model boot course session op o).sessions
  begin_at_keeps course session op None h = h
  begin_at_keeps course session op (Some k) h = begin_on_keeps course session k op (slice_get course.chips k) h

  begin_keeps : (course : Course W) (session : ℕ) (o : Option Op) → P course.sessions → P (begin_step model boot course session o).sessions
  begin_keeps course session None h = h
  begin_keeps course session (Some op) h = begin_at_keeps course session op (chip_of boot.partitions (device_of op)) h

  session_keeps : (course : Course W) (session : ℕ) (o : Option ℕ) → P course.sessions → P (session_step model boot sizes course session o).sessions
  session_keeps course session (Some k) h = chip_keeps course k (slice_get course.chips k) h
  session_keeps course session None h = begin_keeps course session (next_op sizes (session_run course session)) h

  turn_keeps : (course : Course W) (session : ℕ) → P course.sessions → P (turn_step model boot sizes course session).sessions
  turn_keeps course session h = by_idle (is_idle boot.partitions sizes course session)
    where
      by_idle : (b : Bool) → P (turn_unless model boot b sizes course session).sessions
      by_idle true = h
      by_idle false = session_keeps course session (pending_chip course session) h

  first_keeps : (course : Course W) (o : Option ℕ) → P course.sessions → P (attach_first model boot sizes course o).sessions
  first_keeps course None h = h
  first_keeps course (Some k) h = chip_keeps course k (slice_get course.chips k) h

  attach_keeps : (course : Course W) → P course.sessions → P (attach_step model boot sizes course).sessions
  attach_keeps course h = by_dark course.dark
    where
      by_dark : (b : Bool) → P (if b then course else attach_first model boot sizes course (unattached course)).sessions
      by_dark true = h
      by_dark false = first_keeps course (unattached course) h

  turns_keep : (turns : List ℕ) (course : Course W) → P course.sessions → P (fold (turn_step model boot sizes) course turns).sessions
  turns_keep [] course h = h
  turns_keep (turn ∷ turns) course h = turns_keep turns (turn_step model boot sizes course turn) (turn_keeps course turn h)

module _ {W : Type 0} (model : FaultModel W) (boot : Boot) (starts : List (ChipState W)) (P : List SessionRun → Type 0)
    (reply_keeps : (session : ℕ) (reply : Reply) (sessions : List SessionRun) → P sessions → P (replied (sizes_of boot starts) session reply sessions)) where
  attaches_keep : (n : ℕ) (course : Course W) → P course.sessions → P (attach_steps model boot starts n course).sessions
  attaches_keep zero course h = h
  attaches_keep (suc n) course h = attaches_keep n (attach_step model boot (sizes_of boot starts) course) (attach_keeps model boot (sizes_of boot starts) P reply_keeps course h)

  course_keeps : (attaches : ℕ) (turns : List ℕ) → P (start_of_boot boot starts).sessions → P (course_after model boot starts attaches turns).sessions
  course_keeps attaches turns h =
      turns_keep model boot (sizes_of boot starts) P reply_keeps turns (attach_steps model boot starts attaches (start_of_boot boot starts)) (attaches_keep attaches (start_of_boot boot starts) h)

-- an item of a mapped list
mapped_at : {A B : Type 0} (f : A → B) (xs : List A) (i : ℕ) (y : B) → slice_get (map f xs) i ≡ Some y → (x : A) × (slice_get xs i ≡ Some x) × (f x ≡ y)
mapped_at f [] i y h = absurd (none-some y h)
mapped_at f (x ∷ xs) zero y h = (x, refl, same_Some _ _ h)
mapped_at f (x ∷ xs) (suc i) y h = mapped_at f xs i y h

contains_at : {A : Type 0} (xs : List A) (i : ℕ) (x : A) → slice_get xs i ≡ Some x → Contains xs x
contains_at xs i x h = (i, slice_get_within xs i x h, get_or_from_slice_get xs i x x h)

-- where not all pass a test, one does not
one_fails : {A : Type 0} (test : A → Bool) (xs : List A) → list_all test xs ≡ false → (i : ℕ) × (x : A) × (slice_get xs i ≡ Some x) × (test x ≡ false)
one_fails test [] h = absurd (false≢true (sym h))
one_fails {A} test (x ∷ xs) h = by_test (test x) refl h (λ e. one_fails test xs e)
  where
    by_test : (b : Bool) → test x ≡ b → (b && list_all test xs) ≡ false
        → (list_all test xs ≡ false → (i : ℕ) × (y : A) × (slice_get xs i ≡ Some y) × (test y ≡ false))
        → (i : ℕ) × (y : A) × (slice_get (x ∷ xs) i ≡ Some y) × (test y ≡ false)
    by_test false e g later = (0, x, refl, e)
    by_test true e g later = let r = later g in (suc r.0, r.1, r.2, r.3)

all_pass : {A : Type 0} (test : A → Bool) (xs : List A) → ((i : ℕ) (x : A) → slice_get xs i ≡ Some x → test x ≡ true) → list_all test xs ≡ true
all_pass test [] h = refl
all_pass test (x ∷ xs) h = ap (λ b. b && list_all test xs) (h 0 x refl) ∙ all_pass test xs (λ i. h (suc i))

-- what a search finds, where something is there to be found
found_there : {A : Type 0} (test : A → Bool) (xs : List A) (i : ℕ) (x : A) → slice_get xs i ≡ Some x → test x ≡ true
    → (y : A) × (find test xs ≡ Some y) × ((j : ℕ) × (slice_get xs j ≡ Some y)) × (test y ≡ true)
found_there test [] i x h t = absurd (none-some x h)
found_there {A} test (z ∷ zs) i x h t = by_test (test z) refl (λ j e. found_there test zs j x e t)
  where
    by_test : (b : Bool) → test z ≡ b → ((j : ℕ) → slice_get zs j ≡ Some x → (y : A) × (find test zs ≡ Some y) × ((j : ℕ) × (slice_get zs j ≡ Some y)) × (test y ≡ true))
        → (y : A) × (cond b (Some z) (find test zs) ≡ Some y) × ((j : ℕ) × (slice_get (z ∷ zs) j ≡ Some y)) × (test y ≡ true)
    by_test true e later = (z, refl, (0, refl), e)
    by_test false e later = by_place i h
      where
        by_place : (i : ℕ) → slice_get (z ∷ zs) i ≡ Some x → (y : A) × (find test zs ≡ Some y) × ((j : ℕ) × (slice_get (z ∷ zs) j ≡ Some y)) × (test y ≡ true)
        by_place zero g = absurd (false≢true (sym e ∙ ap test (same_Some z x g) ∙ t))
        by_place (suc j) g = let r = later j g in (r.0, r.1, (suc r.2.0, r.2.1), r.3)

not_none : {A : Type 0} (o : Option A) → is_none o ≡ false → is_some o ≡ true
not_none None h = absurd (false≢true (sym h))
not_none (Some x) h = refl

not_some : {A : Type 0} (o : Option A) → is_some o ≡ false → is_none o ≡ true
not_some None h = refl
not_some (Some x) h = absurd (false≢true (sym h))

and_false : (b : Bool) → (b && false) ≡ false
and_false true = refl
and_false false = refl

chip_there : (count : ℕ) (o : Option ℕ) → IsThere count o → (k : ℕ) × (o ≡ Some k) × (k < count)
chip_there count None h = absurd h
chip_there count (Some k) h = (k, refl, h)

-- the operations of a script stay those of its device
asks_after : (dev : ℕ) (replies : List Reply) (script : Script) → AsksOnly dev script → AsksOnly dev (after_replies replies script)
asks_after dev [] script h = h
asks_after dev (r ∷ replies) (End outcome) h = tt
asks_after dev (r ∷ replies) (Ask op more) h = asks_after dev replies (more r) (h.1 r)

is_do : Next → Bool
is_do (Do op) = true
is_do (Over outcome) = false

device_of_next : (dev : ℕ) (script : Script) → AsksOnly dev script → (op : Op) → next_in script ≡ Do op → device_of op ≡ dev
device_of_next dev (End outcome) h op e = absurd (none-some op (ap op_of_next e))
device_of_next dev (Ask asked more) h op e = ap device_of (sym (same_Some _ _ (ap op_of_next e))) ∙ h.0

module _ {W : Type 0} (boot : Boot) (starts : List (ChipState W)) where
  abbrev HasChip : Command → Type 0
  HasChip command = IsThere (length starts) (chip_of boot.partitions (command_device command))

  -- nothing is left of a session, or its next operation is of a chip that is there
  abbrev CanGoOn : SessionRun → Type 0
  CanGoOn s = (is_finished s.commands ≡ true)
      ⊎ ((op : Op) × (k : ℕ) × (next_op_of (sizes_of boot starts) s.commands s.replies ≡ Some op) × (chip_of boot.partitions (device_of op) ≡ Some k) × (k < length starts))

  record IsReady (s : SessionRun) : Type 0 where
    chips : (i : ℕ) (command : Command) → slice_get s.commands i ≡ Some command → HasChip command
    goes_on : CanGoOn s

  ready : (n : ℕ) (commands : List Command) (replies : List Reply) (outcomes : List Outcome) → ((i : ℕ) (command : Command) → slice_get commands i ≡ Some command → HasChip command)
      → IsReady (without_finished (sizes_of boot starts) n commands replies outcomes)
  ready n [] replies outcomes h = record { chips = λ i command e. absurd (none-some command e); goes_on = inl refl }
  ready n (command ∷ commands) replies outcomes h =
      by_next (next_step (sizes_of boot starts command) command replies) refl (λ outs. ready n commands [] outs (λ i. h (suc i)))
    where
      first : (k : ℕ) × (chip_of boot.partitions (command_device command) ≡ Some k) × (k < length starts)
      first = chip_there (length starts) (chip_of boot.partitions (command_device command)) (h 0 command refl)

      by_next : (x : Next) → next_step (sizes_of boot starts command) command replies ≡ x → ((outs : List Outcome) → IsReady (without_finished (sizes_of boot starts) n commands [] outs))
          → IsReady (without_finished (sizes_of boot starts) n (command ∷ commands) replies outcomes)
      by_next (Over outcome) e later = subst IsReady (sym same) (later (outcomes ++ outcome ∷ []))
        where
          same : without_finished (sizes_of boot starts) n (command ∷ commands) replies outcomes ≡ without_finished (sizes_of boot starts) n commands [] (outcomes ++ outcome ∷ [])
          same = rw e refl
      by_next (Do op) e later = subst IsReady (sym same) (record {
        chips = h;
        goes_on = inr (op, first.0, ap op_of_next e, ap (chip_of boot.partitions) device ∙ first.1, first.2);
      })
        where
          same : without_finished (sizes_of boot starts) n (command ∷ commands) replies outcomes ≡ record { number = n; commands = command ∷ commands; replies = replies; outcomes = outcomes }
          same = rw e refl

          device : device_of op ≡ command_device command
          device = device_of_next (command_device command) (after_replies replies (script_of (sizes_of boot starts command) command))
              (asks_after (command_device command) replies (script_of (sizes_of boot starts command) command) (own_device (sizes_of boot starts command) command)) op e

  -- sessions of one number are alike, and each is ready
  record AreReady (sessions : List SessionRun) : Type 0 where
    alike : (i j : ℕ) (s t : SessionRun) → slice_get sessions i ≡ Some s → slice_get sessions j ≡ Some t → s.number ≡ t.number → s ≡ t
    each : (i : ℕ) (s : SessionRun) → slice_get sessions i ≡ Some s → IsReady s

  start_is_ready : HaveOneNumberEach boot.sessions → HaveChips boot starts → AreReady (start_of_boot boot starts).sessions
  start_is_ready once chips = record {
    alike = λ i j s t e f same.
        let x = mapped_at begin boot.sessions i s e in
        let y = mapped_at begin boot.sessions j t f in
        sym x.2 ∙ alike_at x.0 y.0 (contains_at boot.sessions i x.0 x.1) (contains_at boot.sessions j y.0 y.1) (sym (numbered x.0) ∙ ap (λ (z : SessionRun). z.number) x.2 ∙ same ∙ sym (ap (λ (z : SessionRun). z.number) y.2) ∙ numbered y.0) ∙ y.2;
    each = λ i s e.
        let x = mapped_at begin boot.sessions i s e in
        subst IsReady x.2 (ready x.0.0 x.0.1 [] [] (λ j command g. chips x.0.0 x.0.1 command (contains_at boot.sessions i x.0 x.1) (contains_at x.0.1 j command g)));
  }
    where
      begin : ℕ × List Command → SessionRun
      begin x = without_finished (sizes_of boot starts) x.0 x.1 [] []

      numbered : (x : ℕ × List Command) → (begin x).number ≡ x.0
      numbered x = number_stays (sizes_of boot starts) x.0 x.1 [] []

      alike_at : (x y : ℕ × List Command) → Contains boot.sessions x → Contains boot.sessions y → x.0 ≡ y.0 → begin x ≡ begin y
      alike_at x y c d same =
          ap (λ commands. without_finished (sizes_of boot starts) x.0 commands [] []) (once x.0 x.1 y.1 c (subst (λ n. Contains boot.sessions (n, y.1)) (sym same) d))
          ∙ ap (λ n. without_finished (sizes_of boot starts) n y.1 [] []) same

  reply_is_ready : (session : ℕ) (reply : Reply) (sessions : List SessionRun) → AreReady sessions → AreReady (replied (sizes_of boot starts) session reply sessions)
  reply_is_ready session reply sessions h = record {
    alike = λ i j s t e f same.
        let x = mapped_at change sessions i s e in
        let y = mapped_at change sessions j t f in
        sym x.2 ∙ ap change (h.alike i j x.0 y.0 x.1 y.1 (sym (numbered x.0) ∙ ap (λ (z : SessionRun). z.number) x.2 ∙ same ∙ sym (ap (λ (z : SessionRun). z.number) y.2) ∙ numbered y.0)) ∙ y.2;
    each = λ i s e.
        let x = mapped_at change sessions i s e in
        subst IsReady x.2 (readied (x.0.number == session) x.0 (h.each i x.0 x.1));
  }
    where
      change : SessionRun → SessionRun
      change s = if s.number == session then with_reply (sizes_of boot starts) reply s else s

      numbered_by : (b : Bool) (s : SessionRun) → (if b then with_reply (sizes_of boot starts) reply s else s).number ≡ s.number
      numbered_by true s = number_stays (sizes_of boot starts) s.number s.commands (s.replies ++ reply ∷ []) s.outcomes
      numbered_by false s = refl

      numbered : (s : SessionRun) → (change s).number ≡ s.number
      numbered s = numbered_by (s.number == session) s

      readied : (b : Bool) (s : SessionRun) → IsReady s → IsReady (if b then with_reply (sizes_of boot starts) reply s else s)
      readied true s r = ready s.number s.commands (s.replies ++ reply ∷ []) s.outcomes r.chips
      readied false s r = r

module _ {W : Type 0} (model : FaultModel W) (boot : Boot) (starts : List (ChipState W)) (course : Course W) where
  abbrev Busy : Type 0
  Busy = (session : ℕ) × (commands : List Command) × Contains boot.sessions (session, commands) × (is_idle boot.partitions (sizes_of boot starts) course session ≡ false)

  busy_by : (session : ℕ) → course.dark ≡ false → unattached course ≡ None
      → (is_none (pending_chip course session) && not (can_begin boot.partitions course (next_op (sizes_of boot starts) (session_run course session)))) ≡ false
      → is_idle boot.partitions (sizes_of boot starts) course session ≡ false
  busy_by session lit all e =
      ap (λ b. b || is_some (unattached course) || waits) lit ∙ ap (λ o. is_some o || waits) all ∙ e
    where
      waits : Bool
      waits = is_none (pending_chip course session) && not (can_begin boot.partitions course (next_op (sizes_of boot starts) (session_run course session)))

  -- a session with a pending operation
  pending_is_busy : (k : ℕ) (c : ChipRun W) → IsLive model boot starts course → unattached course ≡ None → slice_get course.chips k ≡ Some c
      → (pending : Option Pending) → c.pending ≡ pending → is_some pending ≡ true → Busy
  pending_is_busy k c live all at None e h = absurd (false≢true h)
  pending_is_busy k c live all at (Some pending) e h =
      let law = live.sessions pending.session in
      let asker = law.asker pending.op (law.from k pending.op (ap asked_on at ∙ ap asked_by e)).1 in
      let own = law.is_own asker.0 asker.1 in (
        pending.session,
        own.0,
        own.1,
        busy_by pending.session live.lit all
            (ap (λ b. b && not (can_begin boot.partitions course (next_op (sizes_of boot starts) (session_run course pending.session)))) (is_there (pending_chip course pending.session) refl)),
      )
    where
      is_there : (o : Option ℕ) → pending_chip course pending.session ≡ o → is_none o ≡ false
      is_there None g = absurd (false≢true (sym (position_none (λ (z : ChipRun W). is_pending_of pending.session z.pending) course.chips g k c at)
          ∙ ap (is_pending_of pending.session) e ∙ eq-eqb _ _ refl))
      is_there (Some j) g = refl

  chip_at : (k : ℕ) (notes : List Note) (P : ChipState W → ChipRun W → List Note → Type 0) (os : Option (ChipState W)) (oc : Option (ChipRun W)) (s : ChipState W)
      → AtPlace P notes os oc → os ≡ Some s → (c : ChipRun W) × (oc ≡ Some c)
  chip_at k notes P None oc s a e = absurd (none-some s e)
  chip_at k notes P (Some t) None s a e = absurd a
  chip_at k notes P (Some t) (Some c) s a e = (c, refl)

  -- a session whose next operation can begin, where nothing is pending
  next_is_busy : (i : ℕ) (s : SessionRun) → IsLive model boot starts course → AreReady boot starts course.sessions → unattached course ≡ None
      → ((k : ℕ) (c : ChipRun W) → slice_get course.chips k ≡ Some c → is_some c.pending ≡ false)
      → slice_get course.sessions i ≡ Some s → is_finished s.commands ≡ false → Busy
  next_is_busy i s live sessions all idle at left =
      let f = found_there (λ (t : SessionRun). t.number == s.number) course.sessions i s at (eq-eqb _ _ refl) in
      let same : f.0 ≡ s = sessions.alike f.2.0 i f.0 s f.2.1 at (eqb-true _ _ f.3) in
      let own = (live.sessions s.number).is_own f.0 f.1 in (
        s.number,
        own.0,
        own.1,
        busy_by s.number live.lit all
            (ap (λ b. is_none (pending_chip course s.number) && not b) (begins (f.1 ∙ ap (λ t. Some t) same) (sessions.each i s at).goes_on) ∙ and_false (is_none (pending_chip course s.number))),
      )
    where
      by_chip : (k : ℕ) → (c : ChipRun W) × (slice_get course.chips k ≡ Some c) → is_free (slice_get course.chips k) ≡ true
      by_chip k c = ap is_free c.1 ∙ not_some c.0.pending (idle k c.0 c.1)

      by_start : (k : ℕ) → k < length starts
          → ((s : ChipState W) × (k < length starts) × (slice_get starts k ≡ Some s) × (get_or starts k s ≡ s)) ⊎ ((length starts ≤ k) × (slice_get starts k ≡ None)) → is_free_at course (Some k) ≡ true
      by_start k within (inl t) = by_chip k (chip_at k (notes_of_chip boot.partitions k course.notes) (LawOf model boot starts (by_log model boot starts live.log) k) (slice_get starts k) (slice_get course.chips k) t.0 (live.chips k) t.2)
      by_start k within (inr t) = absurd (omega (arith, within, t.0))

      free : (k : ℕ) → k < length starts → is_free_at course (Some k) ≡ true
      free k within = by_start k within (slice_get_cases starts k).1

      begins : session_run course s.number ≡ Some s → CanGoOn boot starts s → can_begin boot.partitions course (next_op (sizes_of boot starts) (session_run course s.number)) ≡ true
      begins found (inl done) = absurd (false≢true (sym left ∙ done))
      begins found (inr next) =
          ap (λ o. can_begin boot.partitions course (next_op (sizes_of boot starts) o)) found
          ∙ ap (can_begin boot.partitions course) next.2
          ∙ ap (is_free_at course) next.3
          ∙ free next.1 next.4

  live_is_busy : IsLive model boot starts course → AreReady boot starts course.sessions → SomeTurnIsBusy boot starts course
  live_is_busy live sessions over all = by_pending (position (λ (z : ChipRun W). is_some z.pending) course.chips) refl
    where
      known : list_all (λ (c : ChipRun W). is_some c.known) course.chips ≡ true
      known = all_pass (λ (c : ChipRun W). is_some c.known) course.chips (λ k c at. not_none c.known (position_none (λ (z : ChipRun W). is_none z.known) course.chips all k c at))

      left : list_all (λ (s : SessionRun). is_finished s.commands) course.sessions ≡ false
      left = ap (λ b. b && list_all (λ (s : SessionRun). is_finished s.commands) course.sessions) (sym known) ∙ (or_parts course.dark _ over).1

      by_pending : (o : Option ℕ) → position (λ (z : ChipRun W). is_some z.pending) course.chips ≡ o → Busy
      by_pending (Some k) h =
          let c = position_is (λ (z : ChipRun W). is_some z.pending) course.chips k h in
          pending_is_busy k c.0 live all c.1 c.0.pending refl c.2
      by_pending None h =
          let s = one_fails (λ (s : SessionRun). is_finished s.commands) course.sessions left in
          next_is_busy s.0 s.1 live sessions all (λ k c at. position_none (λ (z : ChipRun W). is_some z.pending) course.chips h k c at) s.2 s.3

  is_busy : Holds model boot starts course → AreReady boot starts course.sessions → SomeTurnIsBusy boot starts course
  is_busy (inl live) sessions over all = live_is_busy live sessions over all
  is_busy (inr cut) sessions over all = absurd (false≢true (sym (or_parts course.dark _ over).0 ∙ cut.dark))

pub go_on : {W : Type 0} (model : FaultModel W) (boot : Boot) (starts : List (ChipState W)) (attaches : ℕ) (turns : List ℕ)
    → HaveOneNumberEach boot.sessions → HaveChips boot starts → SomeTurnIsBusy boot starts (course_after model boot starts attaches turns)
go_on model boot starts attaches turns once chips = is_busy model boot starts (course_after model boot starts attaches turns) (course_holds model boot starts attaches turns)
    (course_keeps model boot starts (AreReady boot starts) (reply_is_ready boot starts) attaches turns (start_is_ready boot starts once chips))
