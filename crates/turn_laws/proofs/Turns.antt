-- Each turn that is not idle uses up something of what the commands of a boot cost.
use Rattle.std.proofs.Common.{◌-◌, ◌≡◌, ◌⊎◌, inl, inr, ℕ, zero, suc, ◌+◌, ◌*◌, ◌≤◌, ◌<◌, Bool, true, false, not, ◌&&◌, ◌||◌, List, [], ◌∷◌, ◌++◌, length, Option, Some, None, refl, ap, sym, ◌∙◌, subst, arith, length-append}
use Rattle.std.specs.Prelude.{slice_get, sum_by, fold, filter, find, is_none, is_some, ◌==◌, if◌then◌else◌}
use Rattle.std.proofs.lemmas.Bool.{cases_lt, false≢true, or_parts}
use Rattle.std.proofs.lemmas.Option.{none-some, same_Some, slice_get_within}
use Rattle.nand_model.specs.declared.tear.Tear.{Tear}
use Rattle.nand_model.specs.declared.words.Flip.{Flip}
use Rattle.nand_model.specs.declared.words.Op.{Op}
use Rattle.nand_model.specs.declared.words.Note.{Note}
use Rattle.nand_model.specs.Chip.{ChipState, FaultModel, ChipEvent, PageEvent, Complete, happens}
use Rattle.nand_model.specs.Path.{answer_to}
use Rattle.turn_laws.specs.Laws.{events_of_operation, steps_of_operation}
use Rattle.chip_paths.specs.Operation.{Known, Finished, operation_path}
use Rattle.nand_model.specs.Partitions.{device_of, chip_of}
use Rattle.chip_paths.specs.ChipRun.{ChipRun, Pending, next_event_by, next_chip_event, with_pending, with_finished, with_flips, answered_by, pending_after, advanced}
use Rattle.command_model.specs.Boot.{Boot}
use Rattle.run_model.specs.Course.{Course, can_begin, is_free_at, is_free, is_idle, is_pending_of, pending_chip, unattached, began, session_run, with_flip, with_flips_before, with_answer, finish, event_done, event_on, event_or_answer, chip_step, begin_on, begin_at, begin_step, session_step, turn_unless, turn_step, sizes_of}
use Rattle.nand_model.specs.Cuts.{tear_at}
use Rattle.command_model.specs.Session.{SessionRun, next_op, next_op_of}
use Rattle.run_model.specs.History.{notes_of_chip, events_in}
use Rattle.run_model.specs.Run.{HaveOneNumberEach}
use Rattle.run_laws.specs.Turns.{busy_turns}
use Rattle.run_laws.proofs.Paths.{result_by}
use Rattle.run_laws.proofs.Places.{none_there, position_is, position_none}
use Rattle.run_laws.proofs.Life.{ChipLawAt}
use Rattle.run_laws.proofs.Courses.{rest, rest_of, Rest, due_rest, place_start, asked_by, asked_on, LawOf, by_log, IsLive, Holds}
use Rattle.run_laws.proofs.Steps.{turn_step_holds}
use Rattle.turn_laws.proofs.Sums.{sum-change, sum-change_same, sum-bound, sum-below}
use Rattle.turn_laws.proofs.Paths.{operation_within, some_left, answers_within}
use Rattle.turn_laws.proofs.Costs.{EachGood, all_left, replied_good, replied_costs}

-- the turns that an operation in flight has taken: its begin, and one for each event
abbrev pub used_by : Option Pending → ℕ
used_by None = 0
used_by (Some pending) = length pending.answers + 1

abbrev pub used : {W : Type 0} → ChipRun W → ℕ
used c = used_by c.pending

abbrev pub all_used : {W : Type 0} → List (ChipRun W) → ℕ
all_used {W} chips = sum_by (λ (c : ChipRun W). used_by c.pending) chips

used_rest : Option Rest → ℕ
used_rest None = 0
used_rest (Some r) = used_by r.pending

some_there : {A : Type 0} (xs : List A) (k : ℕ) → k < length xs → slice_get xs k ≡ None → ⊥
some_there [] k h e = absurd (omega arith)
some_there (x ∷ xs) zero h e = none-some x (sym e)
some_there (x ∷ xs) (suc k) h e = some_there xs k (omega arith) e

module _ {W : Type 0} (model : FaultModel W) (boot : Boot) (starts : List (ChipState W)) where
  -- flips take no turn
  flips_use : (flips : List Flip) (chips : List (ChipRun W)) → all_used (fold (with_flip model boot) chips flips) ≡ all_used chips
  flips_use [] chips = refl
  flips_use (flip ∷ flips) chips =
      flips_use flips (with_flip model boot chips flip)
      ∙ sum-change_same (λ (c : ChipRun W). used_by c.pending) chips flip.chip (λ c. with_flips model c flip.page flip.bits) (λ c. refl)

  due_use : (n : ℕ) (chips : List (ChipRun W)) → all_used (with_flips_before model boot n chips) ≡ all_used chips
  due_use n chips = flips_use (filter (λ (flip : Flip). flip.before == n) boot.flips) chips

  -- an operation in flight has had at most six events
  used_at : (k : ℕ) (s : ChipState W) (c : ChipRun W) (notes : List Note) (whole : List (ℕ × ChipEvent)) (known : Option Known) (pending : Option Pending)
      → c.pending ≡ pending
      → ChipLawAt model boot.partitions k s c notes whole known pending → used_by pending ≤ steps_of_operation - 1
  used_at k s c notes whole None pending e law = subst (λ (p : Option Pending). used_by p ≤ steps_of_operation - 1) (sym law.idle ∙ e) (omega arith)
  used_at k s c notes whole (Some known) None e law = omega arith
  used_at k s c notes whole (Some known) (Some pending) e law =
      let few : length pending.answers ≤ events_of_operation =
      answers_within model events_of_operation (operation_path law.rested.geometry boot.partitions known pending.op)
      (operation_within law.rested.geometry boot.partitions known pending.op)
      law.rested (events_in law.trace) pending.answers law.goes.along law.goes.answers_are in
      omega (arith, few)

  module _ (course : Course W) (live : IsLive model boot starts course) where
    pub use_bound : (k : ℕ) (c : ChipRun W) → slice_get course.chips k ≡ Some c → used_by c.pending ≤ steps_of_operation - 1
    use_bound k c at =
        let p = place_start (LawOf model boot starts (by_log model boot starts live.log) k) (notes_of_chip boot.partitions k course.notes)
        (slice_get starts k) (slice_get course.chips k) c at (live.chips k) in
        used_at k p.0 c (notes_of_chip boot.partitions k course.notes) (by_log model boot starts live.log k p.0) c.known c.pending refl p.2

    -- there is a start of each chip
    no_more_chips : length course.chips ≤ length starts
    no_more_chips = by_order (cases_lt (length starts) (length course.chips))
      where
        by_chip : (o : Option (ChipState W)) → slice_get starts (length starts) ≡ o → (p : Option (ChipRun W)) → slice_get course.chips (length starts) ≡ p
            → length starts < length course.chips → length course.chips ≤ length starts
        by_chip (Some s) e p at less = absurd (omega (arith, slice_get_within starts (length starts) s e))
        by_chip None e (Some c) at less =
            let q = place_start (LawOf model boot starts (by_log model boot starts live.log) (length starts))
            (notes_of_chip boot.partitions (length starts) course.notes)
            (slice_get starts (length starts)) (slice_get course.chips (length starts)) c at (live.chips (length starts)) in
            absurd (none-some q.0 (sym e ∙ q.1))
        by_chip None e None at less = absurd (some_there course.chips (length starts) less at)

        by_order : (length starts < length course.chips) ⊎ (length course.chips ≤ length starts) → length course.chips ≤ length starts
        by_order (inl less) = by_chip (slice_get starts (length starts)) refl (slice_get course.chips (length starts)) refl less
        by_order (inr enough) = enough

    pub all_use : all_used course.chips ≤ (steps_of_operation - 1) * length starts
    all_use =
        let each : all_used course.chips ≤ (steps_of_operation - 1) * length course.chips = sum-bound (λ (c : ChipRun W). used_by c.pending) (steps_of_operation - 1) course.chips use_bound in
        omega (arith, each, no_more_chips)

    -- an operation that has an event left has taken fewer
    pub less_use : (k : ℕ) (c : ChipRun W) → slice_get course.chips k ≡ Some c → used_by c.pending + 1 ≤ steps_of_operation - 1 → all_used course.chips + 1 ≤ (steps_of_operation - 1) * length starts
    less_use k c at less =
        let each : all_used course.chips + 1 ≤ (steps_of_operation - 1) * length course.chips = sum-below
        (λ (x : ChipRun W). used_by x.pending) (steps_of_operation - 1) course.chips k c use_bound at less in
        omega (arith, each, no_more_chips)

  -- what a turn that is not idle does
  pub data Spends (course new : Course W) : Type 0 where
    -- it takes one of the turns that are left
    Takes : new.dark ≡ false → EachGood (sizes_of boot starts) new.sessions
        → steps_of_operation * all_left (sizes_of boot starts) new.sessions + all_used course.chips + 1 ≤ steps_of_operation * all_left
        (sizes_of boot starts) course.sessions + all_used new.chips → Spends course new
    -- or the controller goes dark
    Darkens : new.dark ≡ true → all_used course.chips + 1 ≤ (steps_of_operation - 1) * length starts → Spends course new

  -- what an event adds to the turns of an operation
  advance_use : (now : ChipRun W) (e : PageEvent) (known : Known) (pending : Pending) → now.known ≡ Some known → now.pending ≡ Some pending
      → used (advanced model now e) ≡ length pending.answers + 2
  advance_use now e known pending knows asks =
      let longer : length (pending.answers ++ answer_to model now.chip e ∷ []) ≡ length pending.answers + 1 =
      length-append pending.answers (answer_to model now.chip e ∷ []) in
      ap (λ (o : Option Known). used (answered_by now (happens model now.chip (Complete e)) (answer_to model now.chip e) o)) knows
      ∙ ap (λ (p : Option Pending). used_by (pending_after p (answer_to model now.chip e))) asks
      ∙ omega (arith, longer)

  module _ (one : HaveOneNumberEach boot.sessions) (course : Course W) (live : IsLive model boot starts course)
      (good : EachGood (sizes_of boot starts) course.sessions) where
    -- an operation begins
    begin_spends : (session k : ℕ) (op : Op) (c : ChipRun W) → slice_get course.chips k ≡ Some c → c.pending ≡ None → Spends course (began course session k op)
    begin_spends session k op c at idle =
        let more = sum-change (λ (x : ChipRun W). used_by x.pending) course.chips k c (λ x. with_pending x session op) at in
        let none : used_by c.pending ≡ 0 = ap used_by idle in
        Takes live.lit good (omega (arith, more, none))

    begin_on_spends : (session k : ℕ) (op : Op) (o : Option (ChipRun W)) → slice_get course.chips k ≡ o → is_free o ≡ true
        → Spends course (begin_on model boot course session op k o)
    begin_on_spends session k op None at h = absurd (false≢true h)
    begin_on_spends session k op (Some c) at h = by_pending c.pending refl h
      where
        by_pending : (p : Option Pending) → c.pending ≡ p → is_none p ≡ true → Spends course (if is_some p then course else began course session k op)
        by_pending None idle e = begin_spends session k op c at idle
        by_pending (Some pending) idle e = absurd (false≢true e)

    begin_at_spends : (session : ℕ) (op : Op) (o : Option ℕ) → is_free_at course o ≡ true → Spends course (begin_at model boot course session op o)
    begin_at_spends session op None h = absurd (false≢true h)
    begin_at_spends session op (Some k) h = begin_on_spends session k op (slice_get course.chips k) refl h

    begin_step_spends : (session : ℕ) (o : Option Op) → can_begin boot.partitions course o ≡ true → Spends course (begin_step model boot course session o)
    begin_step_spends session None h = absurd (false≢true h)
    begin_step_spends session (Some op) h = begin_at_spends session op (chip_of boot.partitions (device_of op)) h

    -- an event of an operation
    module _ (k : ℕ) (c : ChipRun W) (at : slice_get course.chips k ≡ Some c) (known : Known) (pending : Pending) (knows : c.known ≡ Some known)
        (asks : c.pending ≡ Some pending) where
      abbrev flipped : List (ChipRun W)
      flipped = with_flips_before model boot (course.events + 1) course.chips

      event_left : (e : PageEvent) → next_event_by boot.partitions c.chip c.attach_answers (Some known) (Some pending) ≡ Some e → used_by c.pending + 1 ≤ steps_of_operation - 1
      event_left e next =
          let few : length pending.answers < events_of_operation = some_left events_of_operation (operation_path c.chip.geometry boot.partitions known pending.op)
          (operation_within c.chip.geometry boot.partitions known pending.op) pending.answers e next in
          let so_far : used_by c.pending ≡ length pending.answers + 1 = ap used_by asks in
          omega (arith, few, so_far)

      done_spends : (now : ChipRun W) (e : PageEvent) (tear : Option Tear) → slice_get flipped k ≡ Some now → now.known ≡ Some known
          → now.pending ≡ Some pending
          → used_by c.pending + 1 ≤ steps_of_operation - 1 → Spends course (event_done model boot course flipped k (course.events + 1) now e tear)
      done_spends now e None there now_knows now_asks less =
          let more = sum-change (λ (x : ChipRun W). used_by x.pending) flipped k now (λ old. advanced model now e) there in
          let before : used_by now.pending ≡ length pending.answers + 1 = ap used_by now_asks in
          let after : used (advanced model now e) ≡ length pending.answers + 2 = advance_use now e known pending now_knows now_asks in
          let same : all_used flipped ≡ all_used course.chips = due_use (course.events + 1) course.chips in
          Takes refl good (omega (arith, more, before, after, same))
      done_spends now e (Some tear) there now_knows now_asks less = Darkens refl (less_use course live k c at less)

      event_spends : (e : PageEvent) → next_event_by boot.partitions c.chip c.attach_answers (Some known) (Some pending) ≡ Some e
          → (o : Option (ChipRun W)) → slice_get flipped k ≡ o → Spends course (event_on model boot course flipped k o e)
      event_spends e next None there = absurd (none-some _ (sym (ap rest_of there) ∙ due_rest model boot starts course.chips (course.events + 1) k
          ∙ ap rest_of at))
      event_spends e next (Some now) there =
          let same : Some (rest now) ≡ Some (rest c) = sym (ap rest_of there) ∙ due_rest model boot starts course.chips (course.events + 1) k ∙ ap rest_of at in
          let rests : rest now ≡ rest c = same_Some (rest now) (rest c) same in
          done_spends now e (tear_at boot.cut (course.events + 1)) there (ap (λ (r : Rest). r.known) rests ∙ knows)
          (ap (λ (r : Rest). r.pending) rests ∙ asks) (event_left e next)

      -- the session that asked has its operation next
      asker : (s : SessionRun) × (find (λ (t : SessionRun). t.number == pending.session) course.sessions ≡ Some s) ×
          (next_op_of (sizes_of boot starts) s.commands s.replies ≡ Some pending.op)
      asker =
          let law = live.sessions pending.session in
          let opened = (law.from k pending.op (ap asked_on at ∙ ap asked_by asks)).1 in
          let s = law.asker pending.op opened in
          let own = law.is_own s.0 s.1 in
          let follow = law.follow own.0 one own.1 in
          (follow.run, follow.found, follow.next pending.op opened)

      -- the answer to an operation
      answer_spends : (finished : Finished) → Spends course (finish (sizes_of boot starts) course k c pending.session (Some finished))
      answer_spends finished =
          let less = replied_costs (sizes_of boot starts) pending.session finished.reply course.sessions asker.0 pending.op good asker.1 asker.2 in
          let fewer = sum-change (λ (x : ChipRun W). used_by x.pending) course.chips k c (λ old. with_finished c finished) at in
          let bound : used_by c.pending ≤ steps_of_operation - 1 = use_bound course live k c at in
          Takes live.lit (replied_good (sizes_of boot starts) pending.session finished.reply course.sessions good) (omega (arith, less, fewer, bound))

      pending_spends : (o : Option PageEvent) → next_event_by boot.partitions c.chip c.attach_answers (Some known) (Some pending) ≡ o
          → Spends course (event_or_answer model boot (sizes_of boot starts) course k c o)
      pending_spends (Some e) next = event_spends e next (slice_get flipped k) refl
      pending_spends None over =
          let done = result_by _ over in
          subst (λ (o : Option Known). Spends course (with_answer boot.partitions (sizes_of boot starts) course k c o c.pending)) (sym knows)
          (subst (λ (p : Option Pending). Spends course (with_answer boot.partitions (sizes_of boot starts) course k c (Some known) p)) (sym asks)
          (subst (λ (o : Option Finished). Spends course (finish (sizes_of boot starts) course k c pending.session o)) (sym done.1) (answer_spends done.0)))

    -- the chip on which a session has its operation
    chip_spends : (k : ℕ) (c : ChipRun W) → slice_get course.chips k ≡ Some c → (known : Option Known) (pending : Option Pending) → c.known ≡ known
        → c.pending ≡ pending → is_none known ≡ false
        → (session : ℕ) → is_pending_of session pending ≡ true → Spends course (event_or_answer model boot (sizes_of boot starts) course k c
        (next_chip_event boot.partitions c))
    chip_spends k c at None pending knows asks attached session mine = absurd (false≢true (sym attached))
    chip_spends k c at (Some known) None knows asks attached session mine = absurd (false≢true mine)
    chip_spends k c at (Some known) (Some pending) knows asks attached session mine =
        pending_spends k c at known pending knows asks (next_chip_event boot.partitions c)
        (sym (ap (λ (o : Option Known). next_event_by boot.partitions c.chip c.attach_answers o c.pending) knows
        ∙ ap (λ (p : Option Pending). next_event_by boot.partitions c.chip c.attach_answers (Some known) p) asks))

    -- a turn that is not idle
    pub turn_spends : (session : ℕ) → is_idle boot.partitions (sizes_of boot starts) course session ≡ false
        → Spends course (turn_step model boot (sizes_of boot starts) course session)
    turn_spends session e =
        subst (λ b. Spends course (turn_unless model boot b (sizes_of boot starts) course session)) (sym e)
        (by_chip (pending_chip course session) refl (none_there (unattached course) (or_parts course.dark _ (or_parts _ _ e).0).1) (or_parts _ _ e).1)
      where
        free : (b : Bool) → (true && not b) ≡ false → b ≡ true
        free true h = refl
        free false h = absurd (false≢true (sym h))

        by_chip : (o : Option ℕ) → pending_chip course session ≡ o → unattached course ≡ None
            → (is_none o && not (can_begin boot.partitions course (next_op (sizes_of boot starts) (session_run course session)))) ≡ false
            → Spends course (session_step model boot (sizes_of boot starts) course session o)
        by_chip None h all e = begin_step_spends session (next_op (sizes_of boot starts) (session_run course session)) (free _ e)
        by_chip (Some k) h all e =
            let c = position_is (λ (z : ChipRun W). is_pending_of session z.pending) course.chips k h in
            subst (λ o. Spends course (chip_step model boot (sizes_of boot starts) course k o)) (sym c.1)
            (chip_spends k c.0 c.1 c.0.known c.0.pending refl refl (position_none (λ (z : ChipRun W). is_none z.known) course.chips all k c.0 c.1) session c.2)

  -- in the dark no turn does anything
  pub dark_turns : (turns : List ℕ) (course : Course W) → course.dark ≡ true → length (busy_turns model boot starts turns course) ≡ 0
  dark_turns [] course dark = refl
  dark_turns (session ∷ turns) course dark =
      let idle : is_idle boot.partitions (sizes_of boot starts) course session ≡ true =
      ap (λ (b : Bool). b || is_some (unattached course)
      || (is_none (pending_chip course session) && not (can_begin boot.partitions course (next_op (sizes_of boot starts) (session_run course session))))) dark
      in
      let stays : turn_step model boot (sizes_of boot starts) course session ≡ course =
      ap (λ (b : Bool). turn_unless model boot b (sizes_of boot starts) course session) idle in
      ap (λ (b : Bool). length ((if b then [] else session ∷ []) ++ busy_turns model boot starts turns
      (turn_step model boot (sizes_of boot starts) course session))) idle
      ∙ dark_turns turns (turn_step model boot (sizes_of boot starts) course session) (ap (λ (c : Course W). c.dark) stays ∙ dark)

  -- the turns that do anything take what is left
  pub turns_taken_few : HaveOneNumberEach boot.sessions → (turns : List ℕ) (course : Course W) → IsLive model boot starts course
      → EachGood (sizes_of boot starts) course.sessions
      → length (busy_turns model boot starts turns course) + all_used course.chips ≤ steps_of_operation * all_left (sizes_of boot starts) course.sessions + (steps_of_operation - 1) * length starts
  turns_taken_few one [] course live good = omega (arith, all_use course live)
  turns_taken_few one (session ∷ turns) course live good =
      by_idle (is_idle boot.partitions (sizes_of boot starts) course session) refl (turn_step_holds model boot starts course session (inl live))
      (λ now light kept. turns_taken_few one turns now light kept)
    where
      next : Course W
      next = turn_step model boot (sizes_of boot starts) course session

      Few : ℕ → Type 0
      Few count = count + all_used course.chips ≤ steps_of_operation * all_left (sizes_of boot starts) course.sessions + (steps_of_operation - 1) * length starts

      Later : Type 0
      Later = (now : Course W) → IsLive model boot starts now → EachGood (sizes_of boot starts) now.sessions
          → length (busy_turns model boot starts turns now) + all_used now.chips ≤ steps_of_operation * all_left (sizes_of boot starts) now.sessions + (steps_of_operation - 1) * length starts

      by_step : Holds model boot starts next → Later → Spends course next → Few (length (busy_turns model boot starts turns next) + 1)
      by_step (inl light) later (Takes lit kept spent) = omega (arith, later next light kept, spent)
      by_step (inr cut) later (Takes lit kept spent) = absurd (false≢true (sym lit ∙ cut.dark))
      by_step holds later (Darkens dark less) = omega (arith, dark_turns turns next dark, less)

      by_idle : (b : Bool) → is_idle boot.partitions (sizes_of boot starts) course session ≡ b → Holds model boot starts next → Later
          → Few (length ((if is_idle boot.partitions (sizes_of boot starts) course session then [] else session ∷ []) ++ busy_turns model boot starts turns
          next))
      by_idle true e holds later =
          let stays : next ≡ course = ap (λ (b : Bool). turn_unless model boot b (sizes_of boot starts) course session) e in
          subst (λ (b : Bool). Few (length ((if b then [] else session ∷ []) ++ busy_turns model boot starts turns next))) (sym e)
          (subst (λ (c : Course W). Few (length (busy_turns model boot starts turns c))) (sym stays) (later course live good))
      by_idle false e holds later =
          let more : length ((session ∷ []) ++ busy_turns model boot starts turns next) ≡ length (busy_turns model boot starts turns next) + 1 = omega arith in
          subst (λ (b : Bool). Few (length ((if b then [] else session ∷ []) ++ busy_turns model boot starts turns next))) (sym e)
          (subst Few (sym more) (by_step holds later (turn_spends one course live good session e)))
