-- A controller at its start, and when it is over.
use Rattle.std.proofs.Common.{◌≡◌, ◌<◌, ◌≤◌, ◌⊎◌, inl, inr, arith, ℕ, zero, suc, Bool, true, false, not, ◌&&◌, ◌||◌, List, [], ◌∷◌, ◌++◌, length, map, Option, Some, None, refl, ap, sym, ◌∙◌, subst}
use Rattle.std.specs.Prelude.{slice_get, option_map, All, IsTrue, is_none, is_some, ◌↔◌}
use Rattle.std.specs.List.{list_all}
use Rattle.std.proofs.lemmas.Option.{slice_get_within}
use Rattle.nand_iface.specs.declared.flash.Flash.{Ghosts}
use Rattle.nand_model.specs.declared.words.Command.{Command}
use Rattle.nand_model.specs.Chip.{ChipState}
use Rattle.nand_model.specs.Partitions.{Partitions}
use Rattle.chip_paths.specs.ChipRun.{ChipRun, chip_at_start}
use Rattle.command_model.specs.Boot.{Boot}
use Rattle.command_model.specs.Session.{SessionRun, is_finished, without_finished}
use Rattle.run_model.specs.Course.{sizes_of, is_over, unattached}
use Rattle.run_laws.proofs.Places.{position_is}
use Rattle.run_laws.proofs.Sessions.{number_stays}
use Rattle.command_model.specs.Runnable.{Fits}
use Rattle.session_steps.specs.declared.session.Session.{Session}
use Rattle.session_steps.specs.Standing.{number_of}
use Rattle.session_steps.specs.Mirrors.{Mirrors}
use Rattle.ctl_core.specs.declared.board.Board.{Board}
use Rattle.ctl_core.specs.SlotState.{SlotState, slot_first, slots_as, first_attaching}
use Rattle.ctl_core.specs.Past.{Past, at_start, course_of}
use Rattle.ctl_core.specs.Sessions.{HaveNotBegun, AreAllDone}
use Rattle.ctl_core.specs.Start.{CanStart}
use Rattle.ctl_core.specs.Board.{slot_state, slot_states, IsOnCourse}
use Rattle.ctl_core.proofs.Positions.{mapped_at, mapped_length}
use Rattle.ctl_core.proofs.Places.{item_at}
use Rattle.ctl_core.proofs.Known.{all_known}
use Rattle.ctl_core.proofs.Devices.{all_at}
use Rattle.ctl_core.proofs.Limits.{attached_there}

-- an item at the end of one list is one at the head of the other
pub moved_on : {A B : Type 0} (f : A → B) (xs : List A) (x : A) (y : B) (ys : List B) → f x ≡ y → map f (xs ++ x ∷ []) ++ ys ≡ map f xs ++ (y ∷ ys)
moved_on f [] x y ys h = ap (λ z. z ∷ ys) h
moved_on f (z ∷ xs) x y ys h = ap (λ zs. f z ∷ zs) (moved_on f xs x y ys h)

pub pushed_at : {A : Type 0} (xs : List A) (x : A) (i : ℕ) (y : A) → slice_get (xs ++ x ∷ []) i ≡ Some y
    → (slice_get xs i ≡ Some y) ⊎ ((i ≡ length xs) × (x ≡ y))
pushed_at [] x zero y h = inr (refl, cc)
pushed_at [] x (suc i) y h = cc
pushed_at (z ∷ xs) x zero y h = inl h
pushed_at (z ∷ xs) x (suc i) y h = by_place (pushed_at xs x i y h)
  where
    by_place : (slice_get xs i ≡ Some y) ⊎ ((i ≡ length xs) × (x ≡ y)) → (slice_get xs i ≡ Some y) ⊎ ((suc i ≡ suc (length xs)) × (x ≡ y))
    by_place (inl e) = inl e
    by_place (inr e) = inr (ap suc e.0, e.1)

-- a place past the end of a list
pub past_end : {A B : Type 0} (f : A → B) (xs : List A) (k : ℕ) → option_map f (slice_get xs k) ≡ None → length xs ≤ k
past_end f [] k h = omega arith
past_end f (x ∷ xs) zero h = cc
past_end f (x ∷ xs) (suc k) h = let later = past_end f xs k h in omega (arith, later)

pub before_end : {A B : Type 0} (f : A → B) (xs : List A) (k : ℕ) (y : B) → option_map f (slice_get xs k) ≡ Some y → k < length xs
before_end f [] k y h = cc
before_end f (x ∷ xs) zero y h = omega arith
before_end f (x ∷ xs) (suc k) y h = let later = before_end f xs k y h in omega (arith, later)

-- tests of all items
pub all_true : {A : Type 0} (p : A → Bool) (xs : List A) → ((k : ℕ) (x : A) → slice_get xs k ≡ Some x → p x ≡ true) → list_all p xs ≡ true
all_true p [] h = refl
all_true p (x ∷ xs) h = (λ d. h zero x refl d && all_true p xs (λ k y e. h (suc k) y e) d)

and_false : (b : Bool) → (b && false) ≡ false
and_false true = refl
and_false false = refl

pub one_false : {A : Type 0} (p : A → Bool) (xs : List A) (k : ℕ) (x : A) → slice_get xs k ≡ Some x → p x ≡ false → list_all p xs ≡ false
one_false p [] k x h f = cc
one_false p (y ∷ xs) zero x h f = let same : y ≡ x = cc in ap (λ b. b && list_all p xs) (ap p same ∙ f)
one_false p (y ∷ xs) (suc k) x h f = ap (λ b. p y && b) (one_false p xs k x h f) ∙ and_false (p y)

pub true_at : {A : Type 0} (p : A → Bool) (xs : List A) (k : ℕ) (x : A) → list_all p xs ≡ true → slice_get xs k ≡ Some x → p x ≡ true
true_at {A} p xs k x h at = by_test (p x) refl
  where
    by_test : (b : Bool) → p x ≡ b → b ≡ true
    by_test true e = refl
    by_test false e = let no : list_all p xs ≡ false = one_false p xs k x at e in cc (h, no)

same_none : (o : Option ℕ) (none : Bool) → is_some o ≡ not none → ((none ≡ true) → o ≡ None) × ((none ≡ false) → (k : ℕ) × (o ≡ Some k))
same_none None true h = ((λ e. refl), (λ e. cc))
same_none None false h = cc
same_none (Some k) true h = cc
same_none (Some k) false h = ((λ e. cc), (λ e. (k, refl)))

module _ {F C : Type 0} {flash : Ghosts F} (past : Past F) (board : Board F C flash) (on : IsOnCourse past board) where
  over_by : (dark known done : Bool) → dark ≡ false → known ≡ true → done ≡ (dark || (known && done))
  over_by true known done d k = cc
  over_by false true done d k = refl
  over_by false false done d k = cc

  not_over_by : (dark known done : Bool) → dark ≡ false → known ≡ false → false ≡ (dark || (known && done))
  not_over_by true known done d k = cc
  not_over_by false true done d k = cc
  not_over_by false false done d k = refl

  -- the sessions of the board are done where those of the course are
  done_there : (done : Bool) → IsTrue done ↔ AreAllDone past.boot.sessions board.notes.notes board.sessions.items
      → done ≡ list_all (λ (s : SessionRun). is_finished s.commands) (course_of flash.fault_model flash.state past).sessions
  done_there true h = sym (all_true (λ (s : SessionRun). is_finished s.commands) (course_of flash.fault_model flash.state past).sessions finished)
    where
      finished : (k : ℕ) (run : SessionRun) → slice_get (course_of flash.fault_model flash.state past).sessions k ≡ Some run → is_finished run.commands ≡ true
      finished k run at =
          let within = slice_get_within (course_of flash.fault_model flash.state past).sessions k run at in
          let b = item_at past.boot.sessions k (omega (arith, within, on.stands.mirrors.runs_many)) in
          let s = item_at board.sessions.items k (omega (arith, within, on.stands.mirrors.runs_many, on.stands.mirrors.many)) in
          ap is_finished (on.stands.mirrors.each k b.0 s.0 run b.1 s.1 at).1.shows.left ∙ h.0 refl k b.0 s.0 b.1 s.1
  done_there false h = by_all (list_all (λ (s : SessionRun). is_finished s.commands) (course_of flash.fault_model flash.state past).sessions) refl
    where
      all_done : list_all (λ (s : SessionRun). is_finished s.commands) (course_of flash.fault_model flash.state past).sessions ≡ true
          → AreAllDone past.boot.sessions board.notes.notes board.sessions.items
      all_done all k b s at there =
          let within = slice_get_within past.boot.sessions k b at in
          let r = item_at (course_of flash.fault_model flash.state past).sessions k (omega (arith, within, on.stands.mirrors.runs_many)) in
          ap is_finished (sym (on.stands.mirrors.each k b s r.0 at there r.1).1.shows.left)
          ∙ true_at (λ (x : SessionRun). is_finished x.commands) (course_of flash.fault_model flash.state past).sessions k r.0 all r.1

      by_all : (b : Bool) → list_all (λ (s : SessionRun). is_finished s.commands) (course_of flash.fault_model flash.state past).sessions ≡ b → false ≡ b
      by_all true e = let bad : IsTrue false = h.1 (all_done e) in cc
      by_all false e = refl

  -- where the power failed, the boot is over
  pub over_where_dark : board.dark ≡ true → true ≡ is_over (course_of flash.fault_model flash.state past)
  over_where_dark dark = ap (λ b. b || (list_all (λ (c : ChipRun flash.FaultState). is_some c.known)
      (course_of flash.fault_model flash.state past).chips
      && list_all (λ (s : SessionRun). is_finished s.commands) (course_of flash.fault_model flash.state past).sessions))
      (sym dark ∙ on.stands.keeps.of_dark)

  pub over_where_done : (lit : board.dark ≡ false) (none done : Bool) (o : Option ℕ) → o ≡ first_attaching (slot_states board) → is_some o ≡ not none → none ≡ true
      → IsTrue done ↔ AreAllDone past.boot.sessions board.notes.notes board.sessions.items → done ≡ is_over (course_of flash.fault_model flash.state past)
  over_where_done lit none done o first same absent all =
      let attached : unattached (course_of flash.fault_model flash.state past) ≡ None = attached_there past board on ∙ sym first
      ∙ (same_none o none same).0 absent in
      let known : list_all (λ (c : ChipRun flash.FaultState). is_some c.known) (course_of flash.fault_model flash.state past).chips ≡ true =
      all_true (λ (c : ChipRun flash.FaultState). is_some c.known) (course_of flash.fault_model flash.state past).chips
      (λ k c at. is_known c (all_known (course_of flash.fault_model flash.state past) attached k c at)) in
      over_by (course_of flash.fault_model flash.state past).dark (list_all (λ (c : ChipRun flash.FaultState). is_some c.known)
      (course_of flash.fault_model flash.state past).chips) done (sym on.stands.keeps.of_dark ∙ lit) known
      ∙ ap (λ b. (course_of flash.fault_model flash.state past).dark || (list_all (λ (c : ChipRun flash.FaultState). is_some c.known)
      (course_of flash.fault_model flash.state past).chips && b)) (done_there done all)
    where
      known_some : {K : Type 0} (o : Option K) → is_none o ≡ false → is_some o ≡ true
      known_some None h = cc
      known_some (Some x) h = refl

      is_known : (c : ChipRun flash.FaultState) → is_none c.known ≡ false → is_some c.known ≡ true
      is_known c h = known_some c.known h

  pub not_over_where_attaching : (lit : board.dark ≡ false) (none : Bool) (o : Option ℕ) → o ≡ first_attaching (slot_states board) → is_some o ≡ not none → none ≡ false
      → none ≡ is_over (course_of flash.fault_model flash.state past)
  not_over_where_attaching lit none o first same there =
      let k = (same_none o none same).1 there in
      let some : unattached (course_of flash.fault_model flash.state past) ≡ Some k.0 = attached_there past board on ∙ sym first ∙ k.1 in
      let c = position_is (λ (d : ChipRun flash.FaultState). is_none d.known) (course_of flash.fault_model flash.state past).chips k.0 some in
      there ∙ not_over_by (course_of flash.fault_model flash.state past).dark (list_all (λ (c : ChipRun flash.FaultState). is_some c.known)
      (course_of flash.fault_model flash.state past).chips)
      (list_all (λ (s : SessionRun). is_finished s.commands) (course_of flash.fault_model flash.state past).sessions) (sym on.stands.keeps.of_dark ∙ lit)
      (one_false (λ (c : ChipRun flash.FaultState). is_some c.known) (course_of flash.fault_model flash.state past).chips k.0 c.0 c.1 (unknown c.0.known c.2))
    where
      unknown : {K : Type 0} (o : Option K) → is_none o ≡ true → is_some o ≡ false
      unknown None h = refl
      unknown (Some x) h = cc

-- chips at the start
slots_at_start : {W : Type 0} (partitions : Partitions) (starts : List (ChipState W)) → map slot_first starts ≡ slots_as partitions (map chip_at_start starts)
slots_at_start partitions [] = refl
slots_at_start partitions (s ∷ starts) = ap (λ zs. slot_first s ∷ zs) (slots_at_start partitions starts)

-- a controller at its start
pub start_on : {F C : Type 0} {flash : Ghosts F} (boot : Boot) (flashes : List F) (board : Board F C flash) → CanStart boot (map flash.state flashes)
    → map slot_state board.slots.items ≡ map slot_first (map flash.state flashes) → HaveNotBegun boot.sessions board.sessions.items → board.events ≡ 0
    → board.dark ≡ false → board.notes.notes ≡ []
    → IsOnCourse (at_start boot flashes) board
start_on {F} {C} {flash} boot flashes board start slots fresh events dark notes = record {
  conditions = start;
  stands = record {
    keeps = record {
      of_dark = dark;
      of_chips = slots ∙ slots_at_start boot.partitions (map flash.state flashes);
      of_events = events;
      of_notes = notes;
    };
    mirrors = record {
      many = fresh.many;
      runs_many = mapped_length begin boot.sessions;
      each = each_one;
    };
    wait = λ k i c s at there holds. let m = mapped_at slot_first (map flash.state flashes) k c (ap (λ xs. slice_get xs k) (sym slots) ∙ at) in
        let none : None ≡ Some (number_of s) = ap (λ (y : SlotState flash.FaultState). y.holder) m.2 ∙ holds in cc;
  };
  attached_first = λ k h. refl;
  attach_events = refl;
  all_busy = refl;
}
  where
    begin : ℕ × List Command → SessionRun
    begin s = without_finished (sizes_of boot (map flash.state flashes)) s.0 s.1 [] []

    each_one : (i : ℕ) (b : ℕ × List Command) (s : Session) (run : SessionRun) → slice_get boot.sessions i ≡ Some b → slice_get board.sessions.items i
        ≡ Some s → slice_get (map begin boot.sessions) i ≡ Some run
        → (number_of s ≡ b.0) × Mirrors (sizes_of boot (map flash.state flashes)) b.1 board.notes.notes s run
    each_one i b s run at there is =
        let r = mapped_at begin boot.sessions i run is in
        let own : r.0 ≡ b = cc (r.1, at) in
        let same : begin b ≡ run = ap begin (sym own) ∙ r.2 in
        let runnable = all_at (λ (x : ℕ × List Command). All (λ c. Fits (sizes_of boot (map flash.state flashes) c) c) x.1) boot.sessions i b start.runnable
        at in
        let m = fresh.each i b s at there (sizes_of boot (map flash.state flashes)) b.1 board.notes.notes runnable in (
          sym m.shows.number ∙ number_stays (sizes_of boot (map flash.state flashes)) b.0 b.1 [] [],
          subst
              (Mirrors (sizes_of boot (map flash.state flashes)) b.1 board.notes.notes s) same m,
        )
