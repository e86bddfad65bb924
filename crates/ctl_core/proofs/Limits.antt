-- How many chips, events and turns a controller can have.
use Rattle.std.proofs.Common.{◌≡◌, ◌<◌, ◌≤◌, ◌⊎◌, inl, inr, ◌*◌, ◌-◌, ◌^◌, arith, ℕ, true, false, List, [], length, Option, Some, None, refl, ap, sym, ◌∙◌, subst, get_or}
use Rattle.std.specs.Prelude.{slice_get, position, option_map, ◌==◌}
use Rattle.std.proofs.lemmas.Bool.{cases_lt, eq-eqb, eqb-true}
use Rattle.std.proofs.lemmas.Option.{slice_get_within}
use Rattle.std.proofs.lemmas.List.Sums.{sum_by-le}
use Rattle.nand_iface.specs.declared.flash.Flash.{Ghosts}
use Rattle.nand_model.specs.declared.geometry.Geometry.{Geometry}
use Rattle.nand_model.specs.declared.words.Command.{Command}
use Rattle.nand_model.specs.Chip.{ChipState, FaultModel}
use Rattle.nand_model.specs.Partitions.{Partitions}
use Rattle.chip_paths.specs.Operation.{Known}
use Rattle.chip_paths.specs.ChipRun.{ChipRun, Pending}
use Rattle.nand_model.proofs.Bounds.{bounds_of}
use Rattle.command_model.specs.Boot.{Boot}
use Rattle.run_model.specs.Course.{Course, course_after, unattached}
use Rattle.run_model.specs.History.{notes_of_chip}
use Rattle.run_laws.specs.Turns.{busy_turns}
use Rattle.run_laws.proofs.Courses.{EndOf, by_log, Holds, place_start}
use Rattle.run_laws.proofs.Faithful.{log_of}
use Rattle.run_laws.proofs.Places.{position_is, position_none}
use Rattle.turn_laws.specs.Laws.{events_of_attach, events_of_attaches}
use Rattle.turn_laws.proofs.Bounds.{busy_few, events_few}
use Rattle.turn_laws.proofs.Attaches.{attaches_few}
use Rattle.session_steps.specs.declared.session.Session.{Session}
use Rattle.session_steps.specs.Standing.{number_of}
use Rattle.chip_paths.specs.Stage.{is_working, stage_by}
use Rattle.ctl_core.specs.declared.board.Board.{Board}
use Rattle.ctl_core.specs.declared.board.Slot.{Slot}
use Rattle.ctl_core.specs.SlotState.{SlotState, slot_as, holder_by, first_attaching, first_held_by, is_held_by}
use Rattle.ctl_core.specs.Past.{turn_limit, Past, starts_of, course_of}
use Rattle.ctl_core.specs.Start.{HasSession}
use Rattle.ctl_core.specs.Board.{slot_state, slot_states, IsOnCourse, IsAtTurn}
use Rattle.ctl_core.proofs.Places.{item_at}
use Rattle.ctl_core.proofs.Positions.{mapped_length, position_kept}
use Rattle.ctl_core.proofs.Sessions.{one_number_each}
use Rattle.ctl_core.proofs.Slots.{kept_at}
use Rattle.ctl_core.proofs.Turns.{chip_there, unattached_there, found_held}
use Rattle.ctl_core.proofs.OnCourse.{holds, mapped_some}

-- a chip of a course was there at the start
chips_began : {W : Type 0} (model : FaultModel W) (boot : Boot) (starts : List (ChipState W)) (course : Course W) → Holds model boot starts course
    → (k : ℕ) (c : ChipRun W)
    → slice_get course.chips k ≡ Some c → k < length starts
chips_began model boot starts course holds k c at =
    let log = log_of model boot starts course holds in
    let p = place_start (EndOf model boot starts (by_log model boot starts log.0) k) (notes_of_chip boot.partitions k course.notes) (slice_get starts k)
    (slice_get course.chips k) c at (log.2 k) in
    slice_get_within starts k p.0 p.1

no_more_chips : {W : Type 0} (model : FaultModel W) (boot : Boot) (starts : List (ChipState W)) (course : Course W) → Holds model boot starts course
    → length course.chips ≤ length starts
no_more_chips {W} model boot starts course holds = by_order (cases_lt (length starts) (length course.chips))
  where
    by_order : (length starts < length course.chips) ⊎ (length course.chips ≤ length starts) → length course.chips ≤ length starts
    by_order (inl l) = let c = item_at course.chips (length starts) l in absurd (let below = chips_began model boot starts course holds (length starts) c.0
        c.1 in omega (arith, below))
    by_order (inr h) = h

attaches_short : {W : Type 0} (starts : List (ChipState W)) → events_of_attaches starts ≤ length starts * 4112
attaches_short {W} starts = sum_by-le (λ (s : ChipState W). events_of_attach s.geometry) 4112 starts
    (λ k d h. small (get_or starts k d).geometry)
  where
    small : (g : Geometry) → events_of_attach g ≤ 4112
    small g = let high = (bounds_of g.page g.spare g.pages_per_block g.blocks g.t g.bbt g.threshold g.in_bounds).blocks_high in omega (arith, high)

-- a session that holds a chip has an operation in flight there
working_by : {W : Type 0} (partitions : Partitions) (c : ChipRun W) (k : Option Known) (p : Option Pending) (by : ℕ) → holder_by k p ≡ Some by
    → is_working (stage_by partitions c k p) ≡ true
working_by partitions c None p by h = cc
working_by partitions c (Some known) None by h = cc
working_by partitions c (Some known) (Some pending) by h = refl

module _ {F C : Type 0} {flash : Ghosts F} (past : Past F) (board : Board F C flash) (on : IsOnCourse past board) where
  pub few_slots : length board.slots.items ≤ 8
  few_slots =
      let kept : length (slot_states board) ≡ length (course_of flash.fault_model flash.state past).chips = ap length on.stands.keeps.of_chips
      ∙ mapped_length (slot_as past.boot.partitions) (course_of flash.fault_model flash.state past).chips in
      let all : length (slot_states board) ≡ length board.slots.items = mapped_length slot_state board.slots.items in
      let chips = no_more_chips flash.fault_model past.boot (starts_of flash.state past) (course_of flash.fault_model flash.state past) (holds past board on) in
      omega (arith, kept, all, chips, on.conditions.few)

  -- the turns of the list
  pub few_turns : length past.turns ≤ turn_limit flash.state past
  few_turns =
      let busy = busy_few flash.fault_model past.boot (starts_of flash.state past) past.attaches past.turns on.conditions.runnable
      (one_number_each past.boot.sessions on.conditions.ascending) in
      let same : length (busy_turns flash.fault_model past.boot (starts_of flash.state past) past.turns
      (course_after flash.fault_model past.boot (starts_of flash.state past) past.attaches [])) ≡ length past.turns =
      ap length on.all_busy in
      omega (arith, busy, same)

  -- the attach steps
  pub few_attaches : past.attaches ≤ events_of_attaches (starts_of flash.state past)
  few_attaches = subst (λ n. n ≤ events_of_attaches (starts_of flash.state past)) on.attach_events
      (attaches_few flash.fault_model past.boot (starts_of flash.state past) past.attaches)

  pub few_to_attach : events_of_attaches (starts_of flash.state past) ≤ 32896
  few_to_attach = let short = attaches_short (starts_of flash.state past) in omega (arith, short, on.conditions.few)

  -- the events
  pub few_events : board.events < 2 ^ 32 - 1
  few_events =
      let events = events_few flash.fault_model past.boot (starts_of flash.state past) past.turns
      (course_after flash.fault_model past.boot (starts_of flash.state past) past.attaches []) in
      let same : length (busy_turns flash.fault_model past.boot (starts_of flash.state past) past.turns
      (course_after flash.fault_model past.boot (starts_of flash.state past) past.attaches [])) ≡ length past.turns =
      ap length on.all_busy in
      omega (
        arith,
        events,
        same,
        on.attach_events,
        few_attaches,
        few_to_attach,
        few_turns,
        on.conditions.cheap,
        on.conditions.few,
        on.stands.keeps.of_events,
      )

  pub attached_there : unattached (course_of flash.fault_model flash.state past) ≡ first_attaching (slot_states board)
  attached_there = unattached_there flash.fault_model past.boot (starts_of flash.state past)
      (course_of flash.fault_model flash.state past) (slot_states board) board.events board.dark board.notes.notes board.sessions.items on.stands

  -- a session of the boot is found
  pub place_there : (session : ℕ) → HasSession past.boot session → position (λ (s : Session). number_of s == session) board.sessions.items ≡ None → ⊥
  place_there session has none =
      let b = mapped_some (λ (x : ℕ × List Command). x.0) (slice_get past.boot.sessions has.0) session has.1 in
      let within = slice_get_within past.boot.sessions has.0 b.0 b.1 in
      let s = item_at board.sessions.items has.0 (omega (arith, within, on.stands.mirrors.many)) in
      let r = item_at (course_of flash.fault_model flash.state past).sessions has.0 (omega (arith, within, on.stands.mirrors.runs_many)) in
      let each = on.stands.mirrors.each has.0 b.0 s.0 r.0 b.1 s.1 r.1 in
      let yes : (number_of s.0 == session) ≡ true = eq-eqb _ _ (each.0 ∙ b.2) in
      let no : (number_of s.0 == session) ≡ false = position_none (λ (x : Session). number_of x == session) board.sessions.items none has.0 s.0 s.1 in
      cc (yes, no)

  pub at_turn : (lit : board.dark ≡ false) (session place : ℕ) → unattached (course_of flash.fault_model flash.state past) ≡ None
      → position (λ (s : Session). number_of s == session) board.sessions.items ≡ Some place → (place < length board.sessions.items)
      × IsAtTurn past session place board
  at_turn lit session place attached here =
      let s = position_is (λ (x : Session). number_of x == session) board.sessions.items place here in (
        slice_get_within board.sessions.items place s.0 s.1,
        record {
          on_course = on;
          lit = lit;
          attached = sym attached_there ∙ attached;
          own = ap (option_map number_of) s.1 ∙ ap Some (eqb-true _ _ s.2);
        },
      )

  -- the chip that a session holds is at work
  pub held_works : (lit : board.dark ≡ false) (session k : ℕ) → first_held_by session (slot_states board) ≡ Some k
      → option_map (λ (c : SlotState flash.FaultState). is_working c.stage) (slice_get (slot_states board) k) ≡ Some true
  held_works lit session k h =
      let x = position_is (λ (y : SlotState flash.FaultState). is_held_by session y.holder) (slot_states board) k h in
      let holder = found_held flash.fault_model past.boot (starts_of flash.state past) (course_of flash.fault_model flash.state past)
      (slot_states board) board.events board.dark board.notes.notes board.sessions.items on.stands lit
      on.conditions.ascending (holds past board on) session k x.0 h x.1 in
      let c = chip_there flash.fault_model past.boot (starts_of flash.state past) (course_of flash.fault_model flash.state past)
      (slot_states board) board.events board.dark board.notes.notes board.sessions.items on.stands k x.0 x.1 in
      ap (option_map (λ (y : SlotState flash.FaultState). is_working y.stage)) x.1
      ∙ ap Some (ap (λ (y : SlotState flash.FaultState). is_working y.stage) (sym c.2)
      ∙ working_by past.boot.partitions c.0 c.0.known c.0.pending session (ap (λ (y : SlotState flash.FaultState). y.holder) c.2 ∙ holder))

  -- in its slot
  pub held_slot : (lit : board.dark ≡ false) (session k : ℕ) (slot : Slot F C flash) → first_held_by session (slot_states board) ≡ Some k → slot ≡ get_or board.slots.items k slot
      → (x : SlotState flash.FaultState) × (slice_get (slot_states board) k ≡ Some x) × (slot_state slot ≡ x) × (is_working x.stage ≡ true)
  held_slot lit session k slot h is =
      let x = mapped_some (λ (y : SlotState flash.FaultState). is_working y.stage) (slice_get (slot_states board) k) true (held_works lit session k h) in
      let here = kept_at slot_state board.slots.items k slot x.0 is x.1 in
      (x.0, x.1, here.1, x.2)

-- a search in the slots is one in what is kept of them
pub held_in_slots : {F C : Type 0} {flash : Ghosts F} (board : Board F C flash) (session : ℕ)
    → position (λ slot. is_held_by session slot.holder) board.slots.items ≡ first_held_by session (slot_states board)
held_in_slots board session = position_kept _ _ slot_state board.slots.items (λ k slot h. refl)
