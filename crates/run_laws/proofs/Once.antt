-- A course that is over stays as it is, so a boot that is replayed has one end.
use Rattle.std.proofs.Common.{◌≡◌, ◌⊎◌, ◌≤◌, ◌<◌, inl, inr, ℕ, zero, suc, ◌+◌, ◌-◌, Bool, true, false, not, ◌&&◌, ◌||◌, cond, List, [], ◌∷◌, Option, Some, None, refl, ap, sym, ◌∙◌, subst, arith, zero-add, suc-add, replicate}
use Rattle.std.specs.Prelude.{slice_get, find, position, is_none, is_some}
use Rattle.std.specs.List.{list_all, concat}
use Rattle.std.proofs.lemmas.Bool.{false≢true, and_parts, eqb-true, cases_lt}
use Rattle.std.proofs.lemmas.Option.{none-some, same_Some}
use Rattle.nand_model.specs.declared.geometry.Geometry.{Geometry}
use Rattle.nand_model.specs.declared.words.Command.{Command}
use Rattle.nand_model.specs.Chip.{ChipState, FaultModel}
use Rattle.chip_paths.specs.ChipRun.{ChipRun, Pending}
use Rattle.chip_paths.specs.Operation.{Known}
use Rattle.command_model.specs.Boot.{Boot}
use Rattle.run_model.specs.Course.{Course, session_run, pending_chip, is_pending_of, is_idle, is_over, can_begin, unattached, turn_step, turn_unless, turns_taken, attach_step, attach_steps, course_after, start_of_boot, sizes_of}
use Rattle.command_model.specs.Session.{SessionRun, next_op, next_op_of, is_finished}
use Rattle.run_model.specs.Run.{HaveOneNumberEach}
use Rattle.run_laws.proofs.Courses.{Holds}
use Rattle.run_laws.proofs.Faithful.{course_holds}
use Rattle.run_laws.proofs.AttachTurns.{attach_is_step}
use Rattle.run_laws.proofs.Places.{position_is}
use Rattle.run_laws.specs.Replay.{IsReplayed, rounds_after, session_numbers}
use Rattle.run_laws.proofs.Pending.{pending_is_next}
use Rattle.run_laws.proofs.Rounds.{rounds_after-add, course_after-append}

-- a session that is found among finished ones is finished
finished_here : (p : SessionRun → Bool) (sessions : List SessionRun) (s : SessionRun) → find p sessions ≡ Some s
    → list_all (λ (s : SessionRun). is_finished s.commands) sessions ≡ true → is_finished s.commands ≡ true
finished_here p [] s h all = absurd (none-some s h)
finished_here p (x ∷ xs) s h all = by_test (p x) h (and_parts (is_finished x.commands) _ all) (λ g rest. finished_here p xs s g rest)
  where
    by_test : (b : Bool) → cond b (Some x) (find p xs) ≡ Some s
        → (is_finished x.commands ≡ true) × (list_all (λ (s : SessionRun). is_finished s.commands) xs ≡ true)
        → (find p xs ≡ Some s → list_all (λ (s : SessionRun). is_finished s.commands) xs ≡ true → is_finished s.commands ≡ true) → is_finished s.commands ≡ true
    by_test true h both later = subst (λ (y : SessionRun). is_finished y.commands ≡ true) (same_Some x s h) both.0
    by_test false h both later = later h both.1

-- and has no next operation
no_next : (sizes : Command → Geometry) (s : SessionRun) (commands : List Command) → is_finished commands ≡ true → next_op_of sizes commands s.replies ≡ None
no_next sizes s [] h = refl
no_next sizes s (command ∷ commands) h = absurd (false≢true h)

all_at : {A : Type 0} (p : A → Bool) (xs : List A) (k : ℕ) (x : A) → list_all p xs ≡ true → slice_get xs k ≡ Some x → p x ≡ true
all_at p [] k x h at = absurd (none-some x at)
all_at p (y ∷ ys) zero x h at = ap p (sym (same_Some y x at)) ∙ (and_parts (p y) _ h).0
all_at p (y ∷ ys) (suc k) x h at = all_at p ys k x (and_parts (p y) _ h).1 at

-- where all chips are attached, none is the first that is not
none_left : {W : Type 0} (chips : List (ChipRun W)) → list_all (λ (c : ChipRun W). is_some c.known) chips ≡ true → position (λ (c : ChipRun W). is_none c.known) chips ≡ None
none_left {W} chips h = by_place (position (λ (c : ChipRun W). is_none c.known) chips) refl
  where
    known_there : (o : Option Known) → is_none o ≡ true → is_some o ≡ true → ⊥
    known_there None a b = false≢true b
    known_there (Some known) a b = false≢true a

    by_place : (o : Option ℕ) → position (λ (c : ChipRun W). is_none c.known) chips ≡ o → o ≡ None
    by_place None e = refl
    by_place (Some k) e =
        let p = position_is (λ (c : ChipRun W). is_none c.known) chips k e in
        absurd (known_there p.0.known p.2 (all_at (λ (c : ChipRun W). is_some c.known) chips k p.0 h p.1))

module _ {W : Type 0} (model : FaultModel W) (boot : Boot) (starts : List (ChipState W)) (numbers : HaveOneNumberEach boot.sessions) where
  abbrev sizes : Command → Geometry
  sizes = sizes_of boot starts

  module _ (course : Course W) (holds : Holds model boot starts course) (over : is_over course ≡ true) where
    where_dark : (session : ℕ) → course.dark ≡ true → is_idle boot.partitions sizes course session ≡ true
    where_dark session dark = ap (λ d. d || is_some (unattached course)
        || (is_none (pending_chip course session) && not (can_begin boot.partitions course (next_op sizes (session_run course session))))) dark

    module _ (lit : course.dark ≡ false) where
      both : (list_all (λ (c : ChipRun W). is_some c.known) course.chips ≡ true) × (list_all (λ (s : SessionRun). is_finished s.commands) course.sessions ≡ true)
      both = and_parts _ _ (sym (ap (λ d. d || (list_all (λ (c : ChipRun W). is_some c.known) course.chips && list_all (λ (s : SessionRun). is_finished s.commands) course.sessions)) lit) ∙ over)

      no_next_op : (session : ℕ) (o : Option SessionRun) → session_run course session ≡ o → next_op sizes o ≡ None
      no_next_op session None h = refl
      no_next_op session (Some s) h = no_next sizes s s.commands (finished_here _ course.sessions s h both.1)

      by_pending : (session k : ℕ) (c : ChipRun W) (p : Option Pending) → slice_get course.chips k ≡ Some c → c.pending ≡ p → is_pending_of session p ≡ true → ⊥
      by_pending session k c None at e h = false≢true h
      by_pending session k c (Some pending) at e h =
          let n = pending_is_next model boot starts course lit holds numbers k session c pending at e (eqb-true _ _ h) in
          none-some pending.op (sym (no_next sizes n.0 n.0.commands (finished_here _ course.sessions n.0 n.1 both.1)) ∙ n.2)

      none_pending : (session : ℕ) (o : Option ℕ) → pending_chip course session ≡ o → o ≡ None
      none_pending session None h = refl
      none_pending session (Some k) h =
          let p = position_is (λ (c : ChipRun W). is_pending_of session c.pending) course.chips k h in
          absurd (by_pending session k p.0 p.0.pending p.1 refl p.2)

      where_lit : (session : ℕ) → is_idle boot.partitions sizes course session ≡ true
      where_lit session = λ i. lit i || is_some (none_left course.chips both.0 i)
          || (is_none (none_pending session (pending_chip course session) refl i)
          && not (can_begin boot.partitions course (no_next_op session (session_run course session) refl i)))

    by_dark : (session : ℕ) (d : Bool) → course.dark ≡ d → is_idle boot.partitions sizes course session ≡ true
    by_dark session true e = where_dark session e
    by_dark session false e = where_lit e session

    -- a turn of a course that is over is idle
    pub over_is_idle : (session : ℕ) → is_idle boot.partitions sizes course session ≡ true
    over_is_idle session = by_dark session course.dark refl

    pub over_stays : (session : ℕ) → turn_step model boot sizes course session ≡ course
    over_stays session = ap (λ b. turn_unless model boot b sizes course session) (over_is_idle session)

  -- nor does any list of turns change it
  over_stays_on : (course : Course W) → Holds model boot starts course → is_over course ≡ true → (turns : List ℕ) → turns_taken model boot starts turns course ≡ course
  over_stays_on course holds over [] = refl
  over_stays_on course holds over (session ∷ turns) =
      ap (turns_taken model boot starts turns) (over_stays course holds over session) ∙ over_stays_on course holds over turns

  -- while a chip is not attached, all turns are idle
  unattached_stays : (course : Course W) (k : ℕ) → course.dark ≡ false → unattached course ≡ Some k → (turns : List ℕ) → turns_taken model boot starts turns course ≡ course
  unattached_stays course k lit waits [] = refl
  unattached_stays course k lit waits (session ∷ turns) =
      ap (turns_taken model boot starts turns)
      (λ i. turn_unless model boot (lit i || is_some (waits i) || (is_none (pending_chip course session) && not (can_begin boot.partitions course (next_op sizes (session_run course session))))) sizes course session)
      ∙ unattached_stays course k lit waits turns

  -- the course after so many attach steps
  abbrev attached_by : ℕ → Course W
  attached_by attaches = attach_steps model boot starts attaches (start_of_boot boot starts)

  -- an over course had its attach steps behind it
  settled_by : (attaches : ℕ) (turns : List ℕ) → is_over (course_after model boot starts attaches turns) ≡ true → (d : Bool) (o : Option ℕ)
      → (attached_by attaches).dark ≡ d → unattached (attached_by attaches) ≡ o → attach_step model boot sizes (attached_by attaches) ≡ attached_by attaches
  settled_by attaches turns over true o dark waits = (attach_is_step model boot starts sizes attaches []).nothing_where_dark dark
  settled_by attaches turns over false None lit waits = (attach_is_step model boot starts sizes attaches []).nothing_where_attached waits
  settled_by attaches turns over false (Some k) lit waits =
      let same = unattached_stays (attached_by attaches) k lit waits turns in
      let over_here : is_over (attached_by attaches) ≡ true = ap is_over (sym same) ∙ over in
      absurd (none-some k (sym (none_left (attached_by attaches).chips (both (attached_by attaches) (course_holds model boot starts attaches []) over_here lit).0) ∙ waits))

  settled : (attaches : ℕ) (turns : List ℕ) → is_over (course_after model boot starts attaches turns) ≡ true → attach_step model boot sizes (attached_by attaches) ≡ attached_by attaches
  settled attaches turns over = settled_by attaches turns over (attached_by attaches).dark (unattached (attached_by attaches)) refl refl

  steps_in_row : (m n : ℕ) (course : Course W) → attach_steps model boot starts (m + n) course ≡ attach_steps model boot starts n (attach_steps model boot starts m course)
  steps_in_row zero n course = ap (λ k. attach_steps model boot starts k course) (zero-add n)
  steps_in_row (suc m) n course =
      ap (λ k. attach_steps model boot starts k course) (suc-add m n) ∙ steps_in_row m n (attach_step model boot sizes course)

  stays_settled : (n : ℕ) (course : Course W) → attach_step model boot sizes course ≡ course → attach_steps model boot starts n course ≡ course
  stays_settled zero course h = refl
  stays_settled (suc n) course h = ap (attach_steps model boot starts n) h ∙ stays_settled n course h

  more_attaches : (a b : ℕ) (turns : List ℕ) → is_over (course_after model boot starts a turns) ≡ true → a ≤ b → attached_by b ≡ attached_by a
  more_attaches a b turns over le =
      let sum : b ≡ a + (b - a) = omega arith in
      ap attached_by sum ∙ steps_in_row a (b - a) (start_of_boot boot starts) ∙ stays_settled (b - a) (attached_by a) (settled a turns over)

  pub more_rounds : (attaches : ℕ) (schedule : List ℕ) (r s : ℕ) → is_over (course_after model boot starts attaches (rounds_after schedule (session_numbers boot) r)) ≡ true → r ≤ s
      → course_after model boot starts attaches (rounds_after schedule (session_numbers boot) s) ≡ course_after model boot starts attaches (rounds_after schedule (session_numbers boot) r)
  more_rounds attaches schedule r s over le =
      let sum : s ≡ r + (s - r) = omega arith in
      ap (λ k. course_after model boot starts attaches (rounds_after schedule (session_numbers boot) k)) sum
      ∙ ap (course_after model boot starts attaches) (rounds_after-add schedule (session_numbers boot) r (s - r))
      ∙ course_after-append model boot starts attaches (rounds_after schedule (session_numbers boot) r) (concat (replicate (s - r) (session_numbers boot)))
      ∙ over_stays_on (course_after model boot starts attaches (rounds_after schedule (session_numbers boot) r))
      (course_holds model boot starts attaches (rounds_after schedule (session_numbers boot) r)) over (concat (replicate (s - r) (session_numbers boot)))

  -- with the same attach steps, two replays have the same end
  same_attaches : (attaches : ℕ) (schedule : List ℕ) (r s : ℕ) → is_over (course_after model boot starts attaches (rounds_after schedule (session_numbers boot) r)) ≡ true
      → is_over (course_after model boot starts attaches (rounds_after schedule (session_numbers boot) s)) ≡ true
      → course_after model boot starts attaches (rounds_after schedule (session_numbers boot) r) ≡ course_after model boot starts attaches (rounds_after schedule (session_numbers boot) s)
  same_attaches attaches schedule r s first second = by_order (cases_lt r s)
    where
      by_order : (r < s) ⊎ (s ≤ r) → course_after model boot starts attaches (rounds_after schedule (session_numbers boot) r) ≡ course_after model boot starts attaches (rounds_after schedule (session_numbers boot) s)
      by_order (inl lt) = sym (more_rounds attaches schedule r s first (omega arith))
      by_order (inr le) = more_rounds attaches schedule s r second le

  same_base : (a b : ℕ) (s t : List ℕ) → is_over (course_after model boot starts a s) ≡ true → is_over (course_after model boot starts b t) ≡ true → attached_by a ≡ attached_by b
  same_base a b s t first second = by_order (cases_lt a b)
    where
      by_order : (a < b) ⊎ (b ≤ a) → attached_by a ≡ attached_by b
      by_order (inl lt) = sym (more_attaches a b s first (omega arith))
      by_order (inr le) = more_attaches b a t second le

  -- a replay of a boot has one end
  pub replayed_once : (schedule : List ℕ) (course other : Course W) → IsReplayed model boot starts schedule course → IsReplayed model boot starts schedule other → other ≡ course
  replayed_once schedule course other first second =
      let over_first = ap is_over (sym first.steps) ∙ first.over in
      let over_second = ap is_over (sym second.steps) ∙ second.over in
      let base = same_base first.attaches second.attaches (rounds_after schedule (session_numbers boot) first.rounds) (rounds_after schedule (session_numbers boot) second.rounds) over_first over_second in
      let moved : course_after model boot starts second.attaches (rounds_after schedule (session_numbers boot) second.rounds)
      ≡ course_after model boot starts first.attaches (rounds_after schedule (session_numbers boot) second.rounds)
      = ap (turns_taken model boot starts (rounds_after schedule (session_numbers boot) second.rounds)) (sym base) in
      second.steps ∙ moved ∙ same_attaches first.attaches schedule second.rounds first.rounds (ap is_over (sym moved) ∙ over_second) over_first ∙ sym first.steps
