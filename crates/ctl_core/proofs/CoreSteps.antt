-- A controller stays on its course.
use Rattle.std.proofs.Common.{◌≡◌, ◌+◌, arith, ℕ, true, false, not, List, [], ◌∷◌, ◌++◌, Option, Some, None, refl, ap, sym, ◌∙◌, subst, subst₂}
use Rattle.std.specs.Prelude.{slice_get, option_map, position, is_none, is_some, if◌then◌else◌, ◌==◌}
use Rattle.std.proofs.lemmas.Bool.{eqb-true}
use Rattle.nand_iface.specs.declared.flash.Flash.{Ghosts}
use Rattle.nand_iface.specs.NotesAndRoom.{NotesAndRoom}
use Rattle.nand_model.specs.declared.words.Command.{Command}
use Rattle.nand_model.specs.declared.words.Flip.{Flip}
use Rattle.nand_model.specs.Chip.{PageEvent}
use Rattle.chip_paths.specs.Operation.{Known}
use Rattle.chip_paths.specs.ChipRun.{ChipRun, Pending, next_chip_event}
use Rattle.nand_model.specs.declared.words.CutAt.{CutAt}
use Rattle.run_model.specs.Course.{Course, attach_step, attach_first, chip_step, event_or_answer, with_answer, course_after, is_idle, unattached}
use Rattle.nand_model.specs.Cuts.{tear_at}
use Rattle.command_model.specs.Boot.{change_at}
use Rattle.run_laws.specs.Turns.{busy_turns}
use Rattle.run_laws.proofs.AttachTurns.{attach_is_step}
use Rattle.run_laws.proofs.Places.{position_is}
use Rattle.session_steps.specs.declared.session.Session.{Session}
use Rattle.session_steps.specs.Standing.{number_of}
use Rattle.chip_paths.specs.Stage.{stage_event, is_attached}
use Rattle.ctl_core.specs.declared.board.Board.{Board}
use Rattle.ctl_core.specs.SlotState.{SlotState, first_attaching, slot_after, notes_after}
use Rattle.ctl_core.specs.Past.{Past, with_attach, with_turn, starts_of, sizes_in, course_of, next_course}
use Rattle.ctl_core.specs.Answer.{attach_answer, dark_if, did_if_some}
use Rattle.ctl_core.specs.Start.{HasSession}
use Rattle.ctl_core.specs.Board.{slot_state, slot_states, StandsAt, IsOnCourse, DidEvent}
use Rattle.ctl_core.specs.Flips.{slot_flips_before}
use Rattle.ctl_core.proofs.ChipSteps.{next_is}
use Rattle.ctl_core.proofs.Flipped.{flipped_at}
use Rattle.ctl_core.proofs.Positions.{position_kept}
use Rattle.ctl_core.proofs.Known.{stays_attached}
use Rattle.ctl_core.proofs.CourseSteps.{turn_is_idle}
use Rattle.ctl_core.proofs.Sessions.{placed}
use Rattle.ctl_core.proofs.Turns.{chip_there, follows_as, follows_attach}
use Rattle.ctl_core.proofs.PastSteps.{one_more_turn, one_more_attach, one_more_busy}
use Rattle.ctl_core.proofs.Limits.{attached_there, place_there}

-- a search in the slots is one in what is kept of them
pub attaching_in_slots : {F C : Type 0} {flash : Ghosts F} (board : Board F C flash) → position (λ slot. not (is_attached (slot_state slot).stage))
    board.slots.items ≡ first_attaching (slot_states board)
attaching_in_slots board = position_kept _ _ slot_state board.slots.items (λ k slot h. refl)

module _ {F C : Type 0} {flash : Ghosts F} (past : Past F) (board : Board F C flash) (on : IsOnCourse past board) where
  -- with another room for notes
  pub renoted : (notes : NotesAndRoom) → notes.notes ≡ board.notes.notes → IsOnCourse past (record board { notes = notes })
  renoted notes same = record {
    conditions = on.conditions;
    attached_first = on.attached_first;
    attach_events = on.attach_events;
    all_busy = on.all_busy;
    stands = follows_as past.boot (starts_of flash.state past) (course_of flash.fault_model flash.state past) (slot_states board) (slot_states board)
        board.events board.events board.dark board.dark
        board.notes.notes notes.notes board.sessions.items board.sessions.items refl refl refl same refl on.stands;
  }

  -- with other lists of the same turns and notes
  pub relisted : (turns : List ℕ) (notes : NotesAndRoom) → turns ≡ past.turns → notes.notes ≡ board.notes.notes
      → IsOnCourse (record past { turns = turns }) (record board { notes = notes })
  relisted turns notes same_turns same_notes = subst (λ ts. IsOnCourse (record past { turns = ts }) (record board { notes = notes })) (sym same_turns)
      (renoted notes same_notes)

  -- at the same course with other chips, notes or sessions
  pub stayed_on : (new : Board F C flash) → StandsAt past (course_of flash.fault_model flash.state past) new → IsOnCourse past new
  stayed_on new stands = record {
    conditions = on.conditions;
    attached_first = on.attached_first;
    attach_events = on.attach_events;
    all_busy = on.all_busy;
    stands = stands;
  }

  pub dark_course : board.dark ≡ true → (course_of flash.fault_model flash.state past).dark ≡ true
  dark_course dark = sym on.stands.keeps.of_dark ∙ dark

  pub lit_course : board.dark ≡ false → (course_of flash.fault_model flash.state past).dark ≡ false
  lit_course lit = sym on.stands.keeps.of_dark ∙ lit

  -- the answer of an attach turn, where the power has not failed
  pub attach_answer_is : (lit : board.dark ≡ false) (first : Option ℕ) → unattached (course_of flash.fault_model flash.state past) ≡ first
      → did_if_some first ≡ attach_answer (course_of flash.fault_model flash.state past)
  attach_answer_is lit first is = sym (λ d. dark_if (lit_course lit d) (did_if_some (is d)))

  -- the first chip that is not attached has an event
  pub attach_there : (lit : board.dark ≡ false) (k : ℕ) → first_attaching (slot_states board) ≡ Some k
      → (x : SlotState flash.FaultState) × (e : PageEvent) × (slice_get (slot_states board) k ≡ Some x) × (stage_event x.stage ≡ Some e)
  attach_there lit k h =
      let x = position_is (λ (y : SlotState flash.FaultState). not (is_attached y.stage)) (slot_states board) k h in
      let c = chip_there flash.fault_model past.boot (starts_of flash.state past) (course_of flash.fault_model flash.state past)
      (slot_states board) board.events board.dark board.notes.notes board.sessions.items on.stands k x.0 x.1 in
      let first : unattached (course_of flash.fault_model flash.state past) ≡ Some k = attached_there past board on ∙ h in
      let unknown = position_is (λ (d : ChipRun flash.FaultState). is_none d.known) (course_of flash.fault_model flash.state past).chips k first in
      let same : unknown.0 ≡ c.0 = cc (unknown.1, c.1) in
      let step = (attach_is_step flash.fault_model past.boot (starts_of flash.state past) (sizes_in flash.state past) past.attaches past.turns).event_else k
      (lit_course lit) first in
      let is : stage_event x.0.stage ≡ next_chip_event past.boot.partitions c.0 = sym (next_is past.boot.partitions c.0
      ∙ ap (λ (y : SlotState flash.FaultState). stage_event y.stage) c.2) in
      let e = by_event c.0 c.1 first (ap (λ (d : ChipRun flash.FaultState). is_none d.known) (sym same) ∙ unknown.2) step
      (next_chip_event past.boot.partitions c.0) refl in
      (x.0, e.0, x.1, is ∙ e.1)
    where
      by_known : (c : ChipRun flash.FaultState) (known : Option Known) (pending : Option Pending) → is_none known ≡ true
          → with_answer past.boot.partitions (sizes_in flash.state past) (course_of flash.fault_model flash.state past) k c known pending
          ≡ course_of flash.fault_model flash.state past
      by_known c None pending h = refl
      by_known c (Some known) pending h = cc

      by_event : (c : ChipRun flash.FaultState) → slice_get (course_of flash.fault_model flash.state past).chips k ≡ Some c
          → unattached (course_of flash.fault_model flash.state past) ≡ Some k → is_none c.known ≡ true
          → (attach_step flash.fault_model past.boot (sizes_in flash.state past) (course_of flash.fault_model flash.state past)).events
          ≡ (course_of flash.fault_model flash.state past).events + 1
          → (o : Option PageEvent) → next_chip_event past.boot.partitions c ≡ o → (e : PageEvent) × (o ≡ Some e)
      by_event c at first unknown counts (Some e) h = (e, refl)
      by_event c at first unknown counts None h =
          let stays : attach_step flash.fault_model past.boot (sizes_in flash.state past) (course_of flash.fault_model flash.state past)
          ≡ course_of flash.fault_model flash.state past =
          ap (λ b. if b then course_of flash.fault_model flash.state past else attach_first flash.fault_model past.boot (sizes_in flash.state past)
          (course_of flash.fault_model flash.state past) (unattached (course_of flash.fault_model flash.state past))) (lit_course lit)
          ∙ ap (attach_first flash.fault_model past.boot (sizes_in flash.state past) (course_of flash.fault_model flash.state past)) first
          ∙ ap (chip_step flash.fault_model past.boot (sizes_in flash.state past) (course_of flash.fault_model flash.state past) k) at
          ∙ ap (event_or_answer flash.fault_model past.boot (sizes_in flash.state past) (course_of flash.fault_model flash.state past) k c) h
          ∙ by_known c c.known c.pending unknown in
          let same : (course_of flash.fault_model flash.state past).events ≡ (course_of flash.fault_model flash.state past).events + 1 = ap
          (λ (d : Course flash.FaultState). d.events) (sym stays) ∙ counts in
          absurd (omega (arith, same))

  -- no turn was taken while a chip is not attached
  no_turns : (k : ℕ) → first_attaching (slot_states board) ≡ Some k → past.turns ≡ []
  no_turns k h = on.attached_first k (attached_there past board on ∙ h)

  -- one more attach step
  pub next_attach : (k : ℕ) → first_attaching (slot_states board) ≡ Some k
      → course_of flash.fault_model flash.state (with_attach past) ≡ attach_step flash.fault_model past.boot (sizes_in flash.state past)
      (course_of flash.fault_model flash.state past)
  next_attach k h =
      ap (course_after flash.fault_model past.boot (starts_of flash.state past) (past.attaches + 1)) (no_turns k h)
      ∙ one_more_attach flash.fault_model past.boot (starts_of flash.state past) past.attaches
      ∙ ap (λ ts. attach_step flash.fault_model past.boot (sizes_in flash.state past) (course_after flash.fault_model past.boot (starts_of flash.state past)
      past.attaches ts)) (sym (no_turns k h))

  attached_on : (lit : board.dark ≡ false) (k : ℕ) (x y : SlotState flash.FaultState) (e : PageEvent) (new : Board F C flash) → first_attaching (slot_states board) ≡ Some k
      → slice_get (slot_states board) k ≡ Some x
      → stage_event x.stage ≡ Some e → slice_get (slot_flips_before flash.fault_model past.boot.flips (board.events + 1) (slot_states board)) k ≡ Some y
      → DidEvent past.boot.flips past.boot.cut k y e board new → IsOnCourse (with_attach past) new
  attached_on lit k x y e new first at has flipped did = record {
    conditions = on.conditions;
    stands = subst (λ course. StandsAt past course new) (sym (next_attach k first))
        (follows_as past.boot (starts_of flash.state past) (attach_step flash.fault_model past.boot (sizes_in flash.state past)
        (course_of flash.fault_model flash.state past))
        (change_at (slot_flips_before flash.fault_model past.boot.flips (board.events + 1) (slot_states board)) k
        (slot_after flash.fault_model e (tear_at past.boot.cut (board.events + 1)))) (slot_states new) (board.events + 1) new.events
        (is_some (tear_at past.boot.cut (board.events + 1))) new.dark
        (notes_after flash.fault_model k (board.events + 1) e (tear_at past.boot.cut (board.events + 1)) y board.notes.notes) new.notes.notes
        board.sessions.items new.sessions.items did.chips did.events did.dark did.notes did.sessions
        (follows_attach flash.fault_model past.boot (starts_of flash.state past) (course_of flash.fault_model flash.state past)
        (slot_states board) board.events board.dark board.notes.notes board.sessions.items
        on.stands lit k x y e first at has flipped));
    attached_first = λ j h. no_turns k first;
    attach_events = counted;
    all_busy = subst (λ ts. busy_turns flash.fault_model past.boot (starts_of flash.state past) ts
        (course_after flash.fault_model past.boot (starts_of flash.state past) (past.attaches + 1) []) ≡ ts) (sym (no_turns k first)) refl;
  }
    where
      here : course_of flash.fault_model flash.state past ≡ course_after flash.fault_model past.boot (starts_of flash.state past) past.attaches []
      here = ap (course_after flash.fault_model past.boot (starts_of flash.state past) past.attaches) (no_turns k first)

      counted : (course_after flash.fault_model past.boot (starts_of flash.state past) (past.attaches + 1) []).events ≡ past.attaches + 1
      counted = ap (λ (d : Course flash.FaultState). d.events) (one_more_attach flash.fault_model past.boot (starts_of flash.state past) past.attaches)
          ∙ (attach_is_step flash.fault_model past.boot (starts_of flash.state past) (sizes_in flash.state past) past.attaches []).event_else k
          (ap (λ (d : Course flash.FaultState). d.dark) (sym here) ∙ (lit_course lit)) (ap unattached (sym here) ∙ attached_there past board on ∙ first)
          ∙ ap (λ n. n + 1) on.attach_events

  -- the flips that are due are made, and the first chip that is not attached does its event
  pub attached_now : (lit : board.dark ≡ false) (k : ℕ) (new : Board F C flash) → first_attaching (slot_states board) ≡ Some k
      → (flips : List Flip) (cut : Option CutAt) → flips ≡ past.boot.flips → cut ≡ past.boot.cut
      → ((y : SlotState flash.FaultState) (e : PageEvent) → slice_get (slot_flips_before flash.fault_model flips (board.events + 1) (slot_states board)) k
      ≡ Some y → stage_event y.stage ≡ Some e
      → DidEvent flips cut k y e board new)
      → IsOnCourse (with_attach past) new
  attached_now lit k new first flips cut same same_cut did =
      let there = attach_there lit k first in
      let flipped = flipped_at flash.fault_model past.boot.flips (board.events + 1) (slot_states board) k there.0 there.2 in
      let now = subst₂ (λ fs o. (y : SlotState flash.FaultState) (e : PageEvent) → slice_get
      (slot_flips_before flash.fault_model fs (board.events + 1) (slot_states board)) k ≡ Some y
      → stage_event y.stage ≡ Some e → DidEvent fs o k y e board new) same same_cut did in
      attached_on lit k there.0 flipped.0 there.1 new first there.2 there.3 flipped.1
      (now flipped.0 there.1 flipped.1 (ap stage_event flipped.2.stage ∙ there.3))

  -- one more turn
  pub next_turn : (session : ℕ) → course_of flash.fault_model flash.state (with_turn past session) ≡ next_course flash.fault_model flash.state past session
  next_turn session = one_more_turn flash.fault_model past.boot (starts_of flash.state past) past.attaches past.turns session

  pub next_attached : (session : ℕ) → unattached (course_of flash.fault_model flash.state past) ≡ None
      → unattached (course_of flash.fault_model flash.state (with_turn past session)) ≡ None
  next_attached session h = ap unattached (next_turn session) ∙ stays_attached flash.fault_model past.boot (sizes_in flash.state past)
      (course_of flash.fault_model flash.state past) session h

  pub turned_on : (session : ℕ) (new : Board F C flash) → unattached (course_of flash.fault_model flash.state past) ≡ None
      → is_idle past.boot.partitions (sizes_in flash.state past) (course_of flash.fault_model flash.state past) session ≡ false
      → StandsAt past (next_course flash.fault_model flash.state past session) new → IsOnCourse (with_turn past session) new
  turned_on session new attached busy stands = record {
    conditions = on.conditions;
    stands = subst (λ course. StandsAt past course new) (sym (next_turn session)) stands;
    attached_first = λ k h. let none : None ≡ Some k = sym (next_attached session attached) ∙ h in cc;
    attach_events = on.attach_events;
    all_busy = one_more_busy flash.fault_model past.boot (starts_of flash.state past) past.turns session
        (course_after flash.fault_model past.boot (starts_of flash.state past) past.attaches []) busy
        ∙ ap (λ zs. zs ++ session ∷ []) on.all_busy;
  }

  -- a turn that does nothing
  pub idle_turn : (lit : board.dark ≡ false) (session : ℕ) → unattached (course_of flash.fault_model flash.state past) ≡ None
      → is_idle past.boot.partitions (sizes_in flash.state past) (course_of flash.fault_model flash.state past) session ≡ true
      → next_course flash.fault_model flash.state past session ≡ course_of flash.fault_model flash.state past
  idle_turn lit session attached idle =
      turn_is_idle flash.fault_model past.boot (sizes_in flash.state past) (course_of flash.fault_model flash.state past) session (lit_course lit) attached
      idle

  -- a session of the boot is one that is found
  pub has_found : (session : ℕ) → (o : Option ℕ) → o ≡ position (λ (s : Session). number_of s == session) board.sessions.items
      → ((is_some o ≡ true) → HasSession past.boot session) × (HasSession past.boot session → is_some o ≡ true)
  has_found session None h = ((λ e. cc), (λ has. absurd (place_there past board on session has (sym h))))
  has_found session (Some k) h = ((λ e. there), (λ has. refl))
    where
      there : HasSession past.boot session
      there =
          let s = position_is (λ (x : Session). number_of x == session) board.sessions.items k (sym h) in
          let p = placed (sizes_in flash.state past) past.boot.sessions board.notes.notes board.sessions.items
          (course_of flash.fault_model flash.state past).sessions on.stands.mirrors k s.0 s.1 in
          (k, ap (option_map (λ (x : ℕ × List Command). x.0)) p.begun_at ∙ ap Some (sym p.number ∙ eqb-true _ _ s.2))
