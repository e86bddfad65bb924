-- How many turns of a boot do anything, and how many events they do.
use Rattle.std.proofs.Common.{◌≡◌, inl, inr, ℕ, zero, suc, ◌+◌, ◌≤◌, Bool, true, false, List, [], ◌∷◌, ◌++◌, length, Option, Some, None, refl, ap, sym, ◌∙◌, subst, arith}
use Rattle.std.specs.Prelude.{slice_get, is_none, if◌then◌else◌}
use Rattle.std.proofs.lemmas.Bool.{false≢true}
use Rattle.nand_model.specs.declared.geometry.Geometry.{Geometry}
use Rattle.nand_model.specs.declared.tear.Tear.{Tear}
use Rattle.nand_model.specs.declared.words.Command.{Command}
use Rattle.nand_model.specs.Chip.{ChipState, FaultModel, PageEvent}
use Rattle.chip_paths.specs.Operation.{Known}
use Rattle.chip_paths.specs.ChipRun.{ChipRun, next_chip_event}
use Rattle.command_model.specs.Boot.{Boot}
use Rattle.run_model.specs.Course.{Course, unattached, with_flips_before, with_answer, event_done, event_on, event_or_answer, chip_step, attach_first, attach_step, attach_steps, turn_step, turns_taken, start_of_boot, is_idle, sizes_of, course_after}
use Rattle.nand_model.specs.Cuts.{tear_at}
use Rattle.command_model.specs.Session.{SessionRun}
use Rattle.run_model.specs.Run.{HaveOneNumberEach}
use Rattle.run_laws.specs.Turns.{IsStep, Begins, DoesEvent, Answers, busy_turns}
use Rattle.run_laws.proofs.Places.{position_is}
use Rattle.run_laws.proofs.Turns.{turn_is_step}
use Rattle.run_laws.proofs.Courses.{Holds}
use Rattle.run_laws.proofs.Faithful.{course_holds}
use Rattle.run_model.specs.Start.{boot_cost, CanRunBoot}
use Rattle.turn_laws.specs.Laws.{BusyTurnsAreFew}
use Rattle.turn_laws.proofs.Costs.{EachGood, all_left, start_good, start_left}
use Rattle.turn_laws.proofs.Turns.{dark_turns, turns_taken_few}

module _ {W : Type 0} (model : FaultModel W) (boot : Boot) (starts : List (ChipState W)) where
  -- the attach leaves the sessions as they are
  on_keeps : (course : Course W) (k : ℕ) (chips : List (ChipRun W)) (e : PageEvent) (o : Option (ChipRun W))
      → (event_on model boot course chips k o e).sessions ≡ course.sessions
  on_keeps course k chips e None = refl
  on_keeps course k chips e (Some c) = by_tear (tear_at boot.cut (course.events + 1))
    where
      by_tear : (tear : Option Tear) → (event_done model boot course chips k (course.events + 1) c e tear).sessions ≡ course.sessions
      by_tear None = refl
      by_tear (Some tear) = refl

  chip_keeps : (sizes : Command → Geometry) (course : Course W) (k : ℕ) (c : ChipRun W) → is_none c.known ≡ true → (o : Option PageEvent)
      → (event_or_answer model boot sizes course k c o).sessions ≡ course.sessions
  chip_keeps sizes course k c none (Some e) =
      on_keeps course k (with_flips_before model boot (course.events + 1) course.chips) e
      (slice_get (with_flips_before model boot (course.events + 1) course.chips) k)
  chip_keeps sizes course k c none None = by_known c.known none
    where
      by_known : (known : Option Known) → is_none known ≡ true → (with_answer boot.partitions sizes course k c known c.pending).sessions ≡ course.sessions
      by_known None e = refl
      by_known (Some known) e = absurd (false≢true e)

  first_keeps : (sizes : Command → Geometry) (course : Course W) (o : Option ℕ) → unattached course ≡ o
      → (attach_first model boot sizes course o).sessions ≡ course.sessions
  first_keeps sizes course None h = refl
  first_keeps sizes course (Some k) h =
      let c = position_is (λ (z : ChipRun W). is_none z.known) course.chips k h in
      ap (λ (o : Option (ChipRun W)). (chip_step model boot sizes course k o).sessions) c.1
      ∙ chip_keeps sizes course k c.0 c.2 (next_chip_event boot.partitions c.0)

  attach_keeps : (sizes : Command → Geometry) (course : Course W) → (attach_step model boot sizes course).sessions ≡ course.sessions
  attach_keeps sizes course = by_dark course.dark
    where
      by_dark : (b : Bool) → (if b then course else attach_first model boot sizes course (unattached course)).sessions ≡ course.sessions
      by_dark true = refl
      by_dark false = first_keeps sizes course (unattached course) refl

  attaches_keep : (attaches : ℕ) (course : Course W) → (attach_steps model boot starts attaches course).sessions ≡ course.sessions
  attaches_keep zero course = refl
  attaches_keep (suc n) course = attaches_keep n (attach_step model boot (sizes_of boot starts) course) ∙ attach_keeps (sizes_of boot starts) course

  -- the turns that do anything
  pub busy_few : (attaches : ℕ) (turns : List ℕ) → CanRunBoot boot starts → HaveOneNumberEach boot.sessions → BusyTurnsAreFew model boot starts attaches turns
  busy_few attaches turns runs one = by_state (course_holds model boot starts attaches [])
    where
      course : Course W
      course = course_after model boot starts attaches []

      as_at_start : course.sessions ≡ (start_of_boot boot starts).sessions
      as_at_start = attaches_keep attaches (start_of_boot boot starts)

      by_state : Holds model boot starts course → BusyTurnsAreFew model boot starts attaches turns
      by_state (inr cut) = omega (arith, dark_turns model boot starts turns course cut.dark)
      by_state (inl live) =
          let good : EachGood (sizes_of boot starts) course.sessions = subst (EachGood (sizes_of boot starts)) (sym as_at_start)
          (start_good (sizes_of boot starts) boot.sessions runs) in
          let few = turns_taken_few model boot starts one turns course live good in
          let left : all_left (sizes_of boot starts) course.sessions ≤ boot_cost boot starts =
          subst (λ (sessions : List SessionRun). all_left (sizes_of boot starts) sessions ≤ boot_cost boot starts) (sym as_at_start)
          (start_left (sizes_of boot starts) boot.sessions) in
          omega (arith, few, left)

  -- a turn does at most one event
  one_event : (session : ℕ) (before after : Course W) → IsStep session before after → after.events ≤ before.events + 1
  one_event session before after (Begins op notes e) = omega (arith, e)
  one_event session before after (DoesEvent new notes e) = omega (arith, e)
  one_event session before after (Answers reply notes e) = omega (arith, e)

  pub events_few : (turns : List ℕ) (course : Course W) → (turns_taken model boot starts turns course).events ≤ course.events + length
      (busy_turns model boot starts turns course)
  events_few [] course = omega arith
  events_few (session ∷ turns) course =
      by_idle (is_idle boot.partitions (sizes_of boot starts) course session) refl
      (events_few turns (turn_step model boot (sizes_of boot starts) course session))
    where
      next : Course W
      next = turn_step model boot (sizes_of boot starts) course session

      last : ℕ
      last = (turns_taken model boot starts turns next).events

      by_idle : (b : Bool) → is_idle boot.partitions (sizes_of boot starts) course session ≡ b
          → last ≤ next.events + length (busy_turns model boot starts turns next)
          → last ≤ course.events + length ((if is_idle boot.partitions (sizes_of boot starts) course session then [] else session ∷ []) ++ busy_turns model
          boot starts turns next)
      by_idle true e later =
          let stays : next.events ≡ course.events = ap (λ (c : Course W). c.events)
          ((turn_is_step model boot (sizes_of boot starts) course session).nothing_where_idle e) in
          subst (λ (b : Bool). last ≤ course.events + length ((if b then [] else session ∷ []) ++ busy_turns model boot starts turns next)) (sym e)
          (omega (arith, later, stays))
      by_idle false e later =
          let more : next.events ≤ course.events + 1 = one_event session course next
          ((turn_is_step model boot (sizes_of boot starts) course session).step_else e) in
          subst (λ (b : Bool). last ≤ course.events + length ((if b then [] else session ∷ []) ++ busy_turns model boot starts turns next)) (sym e)
          (omega (arith, later, more))
