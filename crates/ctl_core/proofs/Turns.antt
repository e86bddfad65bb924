-- A controller follows its course through each step.
use Rattle.std.proofs.Common.{◌≡◌, ℕ, ◌+◌, Bool, true, false, List, [], ◌∷◌, ◌++◌, Option, Some, None, refl, ap, sym, ◌∙◌, subst}
use Rattle.std.specs.Prelude.{slice_get, is_none, is_some}
use Rattle.std.proofs.lemmas.Bool.{eqb-true, eq-eqb}
use Rattle.nand_model.specs.declared.words.Command.{Command}
use Rattle.nand_model.specs.declared.words.Note.{Note}
use Rattle.nand_model.specs.declared.tear.Tear.{Tear}
use Rattle.nand_model.specs.declared.words.Note.TheVariants.{Began, Answered, Torn}
use Rattle.nand_model.specs.declared.words.Op.{Op}
use Rattle.nand_model.specs.Chip.{ChipState, FaultModel, PageEvent}
use Rattle.nand_model.specs.Path.{Path, Over, Then, first_event, result_of}
use Rattle.chip_paths.specs.Operation.{Finished}
use Rattle.nand_model.specs.Partitions.{device_of, chip_of}
use Rattle.chip_paths.specs.ChipRun.{ChipRun, Pending, name_of, next_chip_event}
use Rattle.chip_core.specs.Torn.{tear_told}
use Rattle.run_laws.proofs.Sessions.{number_stays}
use Rattle.run_model.specs.Course.{finish, Course, event_done, session_run, pending_chip, unattached, turn_step, attach_step, with_flips_before, sizes_of}
use Rattle.nand_model.specs.Cuts.{tear_at}
use Rattle.command_model.specs.Boot.{Boot, change_at, AreAscending}
use Rattle.command_model.specs.Session.{SessionRun, next_op, next_op_of, with_reply}
use Rattle.chip_paths.specs.Stage.{Stage, Attaches, Rests, Works, stage_event, failure_told, finished_in}
use Rattle.run_laws.proofs.Courses.{Holds}
use Rattle.run_laws.proofs.Places.{position_is, position_none}
use Rattle.session_steps.specs.declared.session.Session.{Session}
use Rattle.session_steps.specs.Standing.{number_of, IsWaiting}
use Rattle.session_steps.specs.Mirrors.{Mirrors}
use Rattle.ctl_core.specs.SlotState.{SlotState, slot_as, slots_as, is_held_by, first_attaching, first_held_by, after_event, after_begin, after_answer, slot_after, notes_after, failure_notes, pending_notes}
use Rattle.ctl_core.specs.Flips.{slot_flips_before}
use Rattle.ctl_core.specs.Keeps.{Keeps}
use Rattle.ctl_core.specs.Follows.{Follows}
use Rattle.ctl_core.specs.Sessions.{SessionsMirror}
use Rattle.ctl_core.proofs.Positions.{mapped_at}
use Rattle.ctl_core.proofs.Places.{OneChanged}
use Rattle.ctl_core.proofs.ChipSteps.{works, next_is}
use Rattle.ctl_core.proofs.Flipped.{flips_kept, wait_flipped}
use Rattle.ctl_core.proofs.CourseSteps.{unattached_is, pending_is, resting, holding, attach_step_is, turn_event_is, turn_answer_is, turn_begins, event_kept, begin_kept, answer_kept, after_chip_event}
use Rattle.ctl_core.proofs.Sessions.{one_number_each, placed, same_place, one_replied, all_later, one_resumed, wait_on, wait_beside, wait_begun, wait_answered}
use Rattle.run_laws.proofs.Pending.{pending_is_next, pending_once}

-- an operation that is over has no event
finished_path : (path : Path Finished) (finished : Finished) → result_of path ≡ Some finished → first_event path ≡ None
finished_path (Over result) finished h = refl
finished_path (Then event rest) finished h = cc

finished_stage : (stage : Stage) (finished : Finished) → finished_in stage ≡ Some finished → stage_event stage ≡ None
finished_stage (Attaches left quiet) finished h = cc
finished_stage (Rests known) finished h = cc
finished_stage (Works known progress left) finished h = finished_path left finished h

-- the same controller
pub follows_as : {W : Type 0} (boot : Boot) (starts : List (ChipState W)) (course : Course W) (chips now_chips : List (SlotState W)) (events now_events : ℕ)
    (dark now_dark : Bool) (notes now_notes : List Note) (sessions now_sessions : List Session)
    → now_chips ≡ chips → now_events ≡ events → now_dark ≡ dark → now_notes ≡ notes → now_sessions ≡ sessions
    → Follows boot starts course chips events dark notes sessions
    → Follows boot starts course now_chips now_events now_dark now_notes now_sessions
follows_as boot starts course chips now_chips events now_events dark now_dark notes now_notes sessions now_sessions c e d n s f =
    subst (λ z. Follows boot starts course z now_events now_dark now_notes now_sessions) (sym c)
    (subst (λ z. Follows boot starts course chips z now_dark now_notes now_sessions) (sym e)
    (subst (λ z. Follows boot starts course chips events z now_notes now_sessions) (sym d)
    (subst (λ z. Follows boot starts course chips events dark z now_sessions) (sym n)
    (subst (λ z. Follows boot starts course chips events dark notes z) (sym s) f))))

-- a chip's event leaves its holder, and the sessions of the course
same_holder : {W : Type 0} (model : FaultModel W) (e : PageEvent) (o : Option Tear) (c : SlotState W) → (slot_after model e o c).holder ≡ c.holder
same_holder model e None c = refl
same_holder model e (Some tear) c = refl

same_sessions : {W : Type 0} (model : FaultModel W) (boot : Boot) (course : Course W) (chips : List (ChipRun W)) (k n : ℕ) (c : ChipRun W) (e : PageEvent)
    (o : Option Tear) → (event_done model boot course chips k n c e o).sessions ≡ course.sessions
same_sessions model boot course chips k n c e None = refl
same_sessions model boot course chips k n c e (Some tear) = refl

module _ {W : Type 0} (model : FaultModel W) (boot : Boot) (starts : List (ChipState W)) (course : Course W)
    (chips : List (SlotState W)) (events : ℕ) (dark : Bool) (notes : List Note) (sessions : List Session)
    (follows : Follows boot starts course chips events dark notes sessions) where
  lit_there : dark ≡ false → course.dark ≡ false
  lit_there lit = sym follows.keeps.of_dark ∙ lit

  -- a chip in a slot is one of the course
  pub chip_there : (k : ℕ) (x : SlotState W) → slice_get chips k ≡ Some x → (c : ChipRun W) × (slice_get course.chips k ≡ Some c)
      × (slot_as boot.partitions c ≡ x)
  chip_there k x h = mapped_at (slot_as boot.partitions) course.chips k x (ap (λ xs. slice_get xs k) (sym follows.keeps.of_chips) ∙ h)

  pub unattached_there : unattached course ≡ first_attaching chips
  unattached_there = unattached_is boot.partitions course ∙ ap first_attaching (sym follows.keeps.of_chips)

  pub pending_there : (session : ℕ) → first_attaching chips ≡ None → pending_chip course session ≡ first_held_by session chips
  pending_there session h = pending_is boot.partitions course session (unattached_there ∙ h) ∙ ap (first_held_by session) (sym follows.keeps.of_chips)

  next_there : (c : ChipRun W) (x : SlotState W) → slot_as boot.partitions c ≡ x → next_chip_event boot.partitions c ≡ stage_event x.stage
  next_there c x e = next_is boot.partitions c ∙ ap (λ (y : SlotState W). stage_event y.stage) e

  -- the chips after the flips that are due before the next event
  abbrev pub chips_flipped : List (SlotState W)
  chips_flipped = slot_flips_before model boot.flips (events + 1) chips

  -- a chip in a slot after the flips is one of the course after them
  flipped_there : (k : ℕ) (x : SlotState W) → slice_get chips_flipped k ≡ Some x
      → (c : ChipRun W) × (slice_get (with_flips_before model boot (course.events + 1) course.chips) k ≡ Some c) × (slot_as boot.partitions c ≡ x)
  flipped_there k x h =
      let flipped : slots_as boot.partitions (with_flips_before model boot (course.events + 1) course.chips) ≡ chips_flipped =
      flips_kept model boot.partitions boot (course.events + 1) course.chips ∙ (λ j. slot_flips_before model boot.flips (sym follows.keeps.of_events j + 1)
      (sym follows.keeps.of_chips j)) in
      mapped_at (slot_as boot.partitions) (with_flips_before model boot (course.events + 1) course.chips) k x (ap (λ xs. slice_get xs k) flipped ∙ h)

  -- the tear of the next event, if the cut names it
  abbrev pub next_tear : Option Tear
  next_tear = tear_at boot.cut (events + 1)

  -- the chips and the notes after an event of chip k, which stood so after the flips
  abbrev pub chips_with : ℕ → PageEvent → List (SlotState W)
  chips_with k e = change_at chips_flipped k (slot_after model e next_tear)

  abbrev pub notes_with : ℕ → SlotState W → PageEvent → List Note
  notes_with k x e = notes_after model k (events + 1) e next_tear x notes

  mirrors_with : (k : ℕ) (x : SlotState W) (e : PageEvent) (o : Option Tear)
      → SessionsMirror (sizes_of boot starts) boot.sessions (notes_after model k (events + 1) e o x notes) sessions course.sessions
  mirrors_with k x e None = all_later (sizes_of boot starts) boot.sessions (notes ++ failure_notes k (events + 1) e (failure_told model x.state e)) sessions
      course.sessions
      (all_later (sizes_of boot starts) boot.sessions notes sessions course.sessions follows.mirrors
      (failure_notes k (events + 1) e (failure_told model x.state e)))
      (pending_notes k (after_event model e x).pending_note)
  mirrors_with k x e (Some tear) = all_later (sizes_of boot starts) boot.sessions notes sessions course.sessions follows.mirrors
      (Torn k (events + 1) (name_of e) true (tear_told model tear x.state e) ∷ [])

  follows_event : (next : Course W) (k : ℕ) (c : ChipRun W) (x : SlotState W) (e : PageEvent)
      → slice_get (with_flips_before model boot (course.events + 1) course.chips) k ≡ Some c → slot_as boot.partitions c ≡ x
      → next ≡ after_chip_event model boot (sizes_of boot starts) course k c e
      → Follows boot starts next (chips_with k e) (events + 1) (is_some next_tear) (notes_with k x e) sessions
  follows_event next k c x e at same is =
      subst (λ d. Follows boot starts d (chips_with k e) (events + 1) (is_some next_tear) (notes_with k x e) sessions) (sym is) (record {
        keeps = subst (λ y. Keeps boot.partitions (after_chip_event model boot (sizes_of boot starts) course k c e) (chips_with k e) (events + 1)
            (is_some next_tear) (notes_with k y e)) same
            (event_kept model boot (sizes_of boot starts) course chips events dark notes k c e follows.keeps at);
        mirrors = subst (SessionsMirror (sizes_of boot starts) boot.sessions (notes_with k x e) sessions)
            (sym (same_sessions model boot course (with_flips_before model boot (course.events + 1) course.chips) k (course.events + 1) c e
            (tear_at boot.cut (course.events + 1))))
            (mirrors_with k x e next_tear);
        wait = wait_on chips_flipped sessions (wait_flipped model boot.flips (events + 1) chips sessions follows.wait) k (slot_after model e next_tear)
            (same_holder model e next_tear);
      })

  -- an attach step
  pub follows_attach : (lit : dark ≡ false) (k : ℕ) (x y : SlotState W) (e : PageEvent) → first_attaching chips ≡ Some k → slice_get chips k ≡ Some x → stage_event x.stage ≡ Some e
      → slice_get chips_flipped k ≡ Some y
      → Follows boot starts (attach_step model boot (sizes_of boot starts) course) (chips_with k e) (events + 1) (is_some next_tear) (notes_with k y e) sessions
  follows_attach lit k x y e first at has flipped =
      let c = chip_there k x at in
      let d = flipped_there k y flipped in
      follows_event (attach_step model boot (sizes_of boot starts) course) k d.0 y e d.1 d.2
      (attach_step_is model boot (sizes_of boot starts) course k c.0 d.0 e (lit_there lit) (unattached_there ∙ first) c.1 (next_there c.0 x c.2 ∙ has)
      d.1)

  -- a turn that does an event
  pub follows_turn_event : (lit : dark ≡ false) (session k : ℕ) (x y : SlotState W) (e : PageEvent) → first_attaching chips ≡ None → first_held_by session chips ≡ Some k
      → slice_get chips k ≡ Some x
      → stage_event x.stage ≡ Some e → slice_get chips_flipped k ≡ Some y
      → Follows boot starts (turn_step model boot (sizes_of boot starts) course session) (chips_with k e) (events + 1) (is_some next_tear) (notes_with k y e) sessions
  follows_turn_event lit session k x y e attached held at has flipped =
      let c = chip_there k x at in
      let d = flipped_there k y flipped in
      follows_event (turn_step model boot (sizes_of boot starts) course session) k d.0 y e d.1 d.2
      (turn_event_is model boot (sizes_of boot starts) course session k c.0 d.0 e (lit_there lit) (unattached_there ∙ attached)
      (pending_there session attached ∙ held) c.1
      (next_there c.0 x c.2 ∙ has) d.1)

  module _ (lit : dark ≡ false) (up : AreAscending boot.sessions) (holds : Holds model boot starts course) where
    -- a chip that a session holds has a pending operation of it
    held_here : (k session : ℕ) (x : SlotState W) → slice_get chips k ≡ Some x → x.holder ≡ Some session → (c : ChipRun W) × (pending : Pending)
        × (slice_get course.chips k ≡ Some c) × (c.pending ≡ Some pending) × (pending.session ≡ session)
    held_here k session x at h =
        let c = chip_there k x at in
        let p = holding boot.partitions c.0 session (ap (λ (y : SlotState W). y.holder) c.2 ∙ h) in
        (c.0, p.0, c.1, p.1, p.2)

    -- a session holds one chip alone
    pub held_once : (j k session : ℕ) (x y : SlotState W) → slice_get chips j ≡ Some x → x.holder ≡ Some session → slice_get chips k ≡ Some y → y.holder
        ≡ Some session → j ≡ k
    held_once j k session x y at h there g =
        let c = held_here j session x at h in
        let d = held_here k session y there g in
        pending_once model boot starts course (lit_there lit) holds j k session c.0 d.0 c.1 d.1 c.2 c.3 c.4 d.2 d.3 d.4

    -- the operation of a session that holds a chip is its next one
    pub held_next : (k session : ℕ) (x : SlotState W) → slice_get chips k ≡ Some x → x.holder ≡ Some session
        → (run : SessionRun) × (op : Op) × (session_run course session ≡ Some run) × (next_op_of (sizes_of boot starts) run.commands run.replies ≡ Some op)
    held_next k session x at h =
        let c = held_here k session x at h in
        let n = pending_is_next model boot starts course (lit_there lit) holds (one_number_each boot.sessions up) k session c.0 c.1 c.2 c.3 c.4 in
        (n.0, c.1.op, n.1, n.2)

    -- the chip that is found is held
    pub found_held : (session k : ℕ) (x : SlotState W) → first_held_by session chips ≡ Some k → slice_get chips k ≡ Some x → x.holder ≡ Some session
    found_held session k x h at =
        let p = position_is (λ (y : SlotState W). is_held_by session y.holder) chips k h in
        let same : p.0 ≡ x = cc (p.1) in
        by_holder x.holder (ap (λ (y : SlotState W). is_held_by session y.holder) (sym same) ∙ p.2)
      where
        by_holder : (o : Option ℕ) → is_held_by session o ≡ true → o ≡ Some session
        by_holder None e = cc
        by_holder (Some by) e = ap Some (eqb-true _ _ e)

    -- no chip is held by a session where none is found
    pub none_held : (session : ℕ) → first_held_by session chips ≡ None → (j : ℕ) (x : SlotState W) → slice_get chips j ≡ Some x → x.holder ≡ Some session → ⊥
    none_held session h j x at holds_it =
        let no : is_held_by session x.holder ≡ false = position_none (λ (y : SlotState W). is_held_by session y.holder) chips h j x at in
        let yes : is_held_by session x.holder ≡ true = ap (is_held_by session) holds_it ∙ eq-eqb session session refl in
        cc

    -- a turn that answers
    pub follows_answer : (i k : ℕ) (s new : Session) (changed : List Session) (x : SlotState W) (finished : Finished) → first_attaching chips ≡ None
        → slice_get sessions i ≡ Some s
        → first_held_by (number_of s) chips ≡ Some k → slice_get chips k ≡ Some x → finished_in x.stage ≡ Some finished → OneChanged sessions i new changed
        → ((commands : List Command) (run : SessionRun) → Mirrors (sizes_of boot starts) commands notes s run → IsWaiting s
        → Mirrors (sizes_of boot starts) commands (notes ++ Answered (number_of s) finished.reply ∷ []) new
        (with_reply (sizes_of boot starts) finished.reply run))
        → Follows boot starts (turn_step model boot (sizes_of boot starts) course (number_of s)) (change_at chips k (after_answer finished.known)) events dark
        (notes ++ Answered (number_of s) finished.reply ∷ []) changed
    follows_answer i k s new changed x finished attached is_at held at over o replied_so =
        let c = chip_there k x at in
        let holder : x.holder ≡ Some (number_of s) = found_held (number_of s) k x held at in
        let w = works boot.partitions c.0 finished (ap (λ (y : SlotState W). finished_in y.stage) c.2 ∙ over) in
        let p = holding boot.partitions c.0 (number_of s) (ap (λ (y : SlotState W). y.holder) c.2 ∙ holder) in
        let both : Some w.1 ≡ Some p.0 = sym w.3 ∙ p.1 in
        let pendings : w.1 ≡ p.0 = cc in
        let session : w.1.session ≡ number_of s = ap (λ (q : Pending). q.session) pendings ∙ p.2 in
        let is = turn_answer_is model boot (sizes_of boot starts) course (number_of s) k c.0 w.0 w.1 finished (lit_there lit)
        (unattached_there ∙ attached) (pending_there (number_of s) attached ∙ held) c.1
        (next_there c.0 x c.2 ∙ finished_stage x.stage finished over) w.2 w.3 w.4 in
        let placed_s = placed (sizes_of boot starts) boot.sessions notes sessions course.sessions follows.mirrors i s is_at in
        let m = replied_so placed_s.own.1 placed_s.run placed_s.mirrors (follows.wait k i x s at is_at holder) in
        let number_new : number_of new ≡ number_of s = sym m.shows.number ∙ number_stays (sizes_of boot starts) placed_s.run.number placed_s.run.commands
        (placed_s.run.replies ++ finished.reply ∷ []) placed_s.run.outcomes
        ∙ placed_s.mirrors.shows.number in
        subst (λ d. Follows boot starts d (change_at chips k (after_answer finished.known)) events dark (notes ++ Answered (number_of s) finished.reply ∷ [])
        changed)
        (sym (is ∙ ap (λ n. finish (sizes_of boot starts) course k c.0 n (Some finished)) session)) (record {
          keeps = answer_kept model boot (sizes_of boot starts) course chips events dark notes (number_of s) k c.0 finished follows.keeps c.1;
          mirrors = one_replied (sizes_of boot starts) boot.sessions notes sessions course.sessions follows.mirrors up i s new changed
              (Answered (number_of s) finished.reply ∷ []) finished.reply is_at o
              (λ own run b r. replied_so own.1 run (follows.mirrors.each i own s run b is_at r).1 (follows.wait k i x s at is_at holder));
          wait = wait_answered chips sessions follows.wait i k new changed (after_answer finished.known) o (λ y. refl)
              (λ j y there e. held_once k j (number_of s) x y at holder there (e ∙ ap Some number_new));
        })

    -- a turn that begins
    pub follows_begin : (i k : ℕ) (s new : Session) (changed : List Session) (x : SlotState W) (op : Op) → first_attaching chips ≡ None → slice_get sessions i
        ≡ Some s
        → first_held_by (number_of s) chips ≡ None → slice_get chips k ≡ Some x → x.holder ≡ None → OneChanged sessions i new changed → IsWaiting new
        → next_op (sizes_of boot starts) (session_run course (number_of s)) ≡ Some op → chip_of boot.partitions (device_of op) ≡ Some k
        → ((own : ℕ × List Command) (run : SessionRun) → slice_get boot.sessions i ≡ Some own → slice_get course.sessions i ≡ Some run
        → Mirrors (sizes_of boot starts) own.1 notes s run
        → Mirrors (sizes_of boot starts) own.1 notes new run)
        → Follows boot starts (turn_step model boot (sizes_of boot starts) course (number_of s))
        (change_at chips k (after_begin boot.partitions (number_of s) op)) events dark
        (notes ++ Began (number_of s) op ∷ []) changed
    follows_begin i k s new changed x op attached is_at held at free o waits next of_chip resumed =
        let c = chip_there k x at in
        let known = position_none (λ (d : ChipRun W). is_none d.known) course.chips (unattached_there ∙ attached) k c.0 c.1 in
        let r = resting boot.partitions c.0 known (ap (λ (y : SlotState W). y.holder) c.2 ∙ free) in
        let is = turn_begins model boot (sizes_of boot starts) course (number_of s) (lit_there lit) (unattached_there ∙ attached) k c.0 op
        (pending_there (number_of s) attached ∙ held) next of_chip c.1 r.2 in
        let placed_s = placed (sizes_of boot starts) boot.sessions notes sessions course.sessions follows.mirrors i s is_at in
        let m = resumed placed_s.own placed_s.run placed_s.begun_at placed_s.run_at placed_s.mirrors in
        let number_new : number_of new ≡ number_of s = sym m.shows.number ∙ placed_s.mirrors.shows.number in
        let mirrors_now = one_resumed (sizes_of boot starts) boot.sessions notes sessions course.sessions follows.mirrors i s new changed is_at o
        (λ own run b at_run. resumed own run b at_run (follows.mirrors.each i own s run b is_at at_run).1) in
        subst (λ d. Follows boot starts d (change_at chips k (after_begin boot.partitions (number_of s) op)) events dark (notes ++ Began (number_of s) op ∷ [])
        changed) (sym is) (record {
          keeps = begin_kept model boot (sizes_of boot starts) course chips events dark notes (number_of s) k op c.0 r.0 follows.keeps c.1 r.1 r.2;
          mirrors = all_later (sizes_of boot starts) boot.sessions notes changed course.sessions mirrors_now (Began (number_of s) op ∷ []);
          wait = wait_begun chips sessions follows.wait i k new changed (after_begin boot.partitions (number_of s) op) o waits (λ y. ap Some (sym number_new))
              (λ j t there same. same_place (sizes_of boot starts) boot.sessions notes changed course.sessions mirrors_now up i j new t o.here there
              (sym same));
        })

    -- a session that could not begin for want of memory
    pub follows_resumed : (i : ℕ) (s new : Session) (changed : List Session) → slice_get sessions i ≡ Some s → first_held_by (number_of s) chips ≡ None
        → OneChanged sessions i new changed
        → ((own : ℕ × List Command) (run : SessionRun) → slice_get boot.sessions i ≡ Some own → slice_get course.sessions i ≡ Some run
        → Mirrors (sizes_of boot starts) own.1 notes s run
        → Mirrors (sizes_of boot starts) own.1 notes new run)
        → Follows boot starts course chips events dark notes changed
    follows_resumed i s new changed is_at held o resumed =
        let placed_s = placed (sizes_of boot starts) boot.sessions notes sessions course.sessions follows.mirrors i s is_at in
        let m = resumed placed_s.own placed_s.run placed_s.begun_at placed_s.run_at placed_s.mirrors in
        let number_new : number_of new ≡ number_of s = sym m.shows.number ∙ placed_s.mirrors.shows.number in
        record {
          keeps = follows.keeps;
          mirrors = one_resumed (sizes_of boot starts) boot.sessions notes sessions course.sessions follows.mirrors i s new changed is_at o
              (λ own run b at_run. resumed own run b at_run (follows.mirrors.each i own s run b is_at at_run).1);
          wait = wait_beside chips sessions follows.wait i new changed o (λ j y at e. none_held (number_of s) held j y at (e ∙ ap Some number_new));
        }
