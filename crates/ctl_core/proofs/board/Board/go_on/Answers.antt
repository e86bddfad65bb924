use Rattle.std.proofs.Common.{◌≡◌, true, false, Option, Some, None, refl, ap, sym, ◌∙◌, subst}
use Rattle.std.specs.Prelude.{option_and_then, option_map, is_some, slice_get, All, IsSome}
use Rattle.std.proofs.lemmas.Option.{slice_get_within}
use Rattle.nand_model.specs.Chip.{PageEvent}
use Rattle.chip_paths.specs.ChipRun.{name_of}
use Rattle.nand_model.specs.declared.words.Event.{Event}
use Rattle.chip_core.specs.Chip.{chip_stage}
use Rattle.chip_paths.specs.Stage.{stage_event, finished_in}
use Rattle.session_steps.specs.Standing.{number_of}
use Rattle.run_model.specs.Start.{AreFewFlips}
use Rattle.ctl_core.specs.Board.{slot_states, past_of}
use Rattle.fault_plan.specs.BootFaults.{BootFaults}
use Rattle.ctl_core.specs.Flips.{CanFlip}
use Rattle.ctl_core.specs.SlotState.{SlotState}
use Rattle.ctl_core.specs.Past.{course_of}
use Rattle.ctl_core.proofs.Limits.{few_events, few_slots, held_slot}
use Rattle.ctl_core.proofs.OnCourse.{can_flip, mapped_some, stands_alike, stands_now, where_err, works_on}
use Rattle.ctl_core.proofs.board.Board.go_on.Goals as goal

-- the event that is named
named : (o : Option PageEvent) (name : Option Event) → name ≡ option_map name_of o → true ≡ is_some name → (e : PageEvent) × (o ≡ Some e)
named None name h i = cc
named (Some e) name h i = (e, refl)

not_named : (o : Option PageEvent) (name : Option Event) → name ≡ option_map name_of o → false ≡ is_some name → o ≡ None
not_named None name h i = refl
not_named (Some e) name h i = cc

pub do_event-requires-clause-lit : goal.do_event-requires-clause-lit
do_event-requires-clause-lit g c = c.requires.turn.lit

pub do_event-requires-clause-few : goal.do_event-requires-clause-few
do_event-requires-clause-few g c = few_slots (past_of c.args.journal.now) c.args.self.now c.requires.turn.on_course

pub do_event-requires-clause-event : goal.do_event-requires-clause-event
do_event-requires-clause-event g c =
    let x = held_slot (past_of c.args.journal.now) c.args.self.now c.requires.turn.on_course c.requires.turn.lit c.args.session c.args.k c.index.result.now c.requires.held
    c.index.ensures in
    let e = named (stage_event (chip_stage c.index.result.now.chip)) c.next_event.result c.next_event.ensures (sym c.if-is_some.true ∙ c.is_some.ensures) in
    let has : stage_event x.0.stage ≡ Some e.0 = ap (λ (y : SlotState g.F.Flash.FaultState). stage_event y.stage) (sym x.2) ∙ e.1 in
    let event = ap (option_and_then (λ (y : SlotState g.F.Flash.FaultState). stage_event y.stage)) x.1 ∙ has in
    subst (λ o. IsSome o) (sym event) refl

pub do_event-requires-clause-number : goal.do_event-requires-clause-number
do_event-requires-clause-number g c = few_events (past_of c.args.journal.now) c.args.self.now c.requires.turn.on_course

pub do_event-requires-clause-few_flips : goal.do_event-requires-clause-few_flips
do_event-requires-clause-few_flips g c = subst AreFewFlips (sym (ap (λ (f : BootFaults). f.flips) c.faults.ensures)) c.requires.turn.on_course.conditions.few_flips

pub do_event-requires-clause-flips : goal.do_event-requires-clause-flips
do_event-requires-clause-flips g c =
    subst (λ flips. All (CanFlip (slot_states c.args.self.now)) flips) (sym (ap (λ (f : BootFaults). f.flips) c.faults.ensures))
    (can_flip (past_of c.args.journal.now) c.args.self.now c.requires.turn.on_course)

pub returns-in_err-do_event-clause-no_memory : goal.returns-in_err-do_event-clause-no_memory
returns-in_err-do_event-clause-no_memory g c =
    let past = past_of c.args.journal.now in
    where_err c.from_residual.result _
    (stands_alike past c.args.self.now c.requires.turn.on_course (course_of g.F.Flash.fault_model g.F.Flash.state past) c.do_event.new.self
    c.requires.turn.on_course.stands c.in_err-do_event.ensures.no_memory)

pub answer-requires-clause-finished : goal.answer-requires-clause-finished
answer-requires-clause-finished g c =
    let x = held_slot (past_of c.args.journal.now) c.args.self.now c.requires.turn.on_course c.requires.turn.lit c.args.session c.args.k c.index.result.now c.requires.held
    c.index.ensures in
    let none = not_named (stage_event (chip_stage c.index.result.now.chip)) c.next_event.result c.next_event.ensures
    (sym c.if-is_some.false ∙ c.is_some.ensures) in
    let over = works_on x.0.stage x.3 (ap (λ (y : SlotState g.F.Flash.FaultState). stage_event y.stage) (sym x.2) ∙ none) in
    let finished = ap (option_and_then (λ (y : SlotState g.F.Flash.FaultState). finished_in y.stage)) x.1 ∙ over.1 in
    subst (λ o. IsSome o) (sym finished) refl

pub answer-requires-clause-place : goal.answer-requires-clause-place
answer-requires-clause-place g c =
    let s = mapped_some number_of (slice_get c.args.self.now.sessions.items c.args.place) c.args.session c.requires.turn.own in
    slice_get_within c.args.self.now.sessions.items c.args.place s.0 s.1

pub returns-in_ok-do_event-clause-stands : goal.returns-in_ok-do_event-clause-stands
returns-in_ok-do_event-clause-stands g c =
    let past = past_of c.args.journal.now in
    let x = held_slot past c.args.self.now c.requires.turn.on_course c.requires.turn.lit c.args.session c.args.k c.index.result.now c.requires.held c.index.ensures in
    let e = named (stage_event (chip_stage c.index.result.now.chip)) c.next_event.result c.next_event.ensures (sym c.if-is_some.true ∙ c.is_some.ensures) in
    let has : stage_event x.0.stage ≡ Some e.0 = ap (λ (y : SlotState g.F.Flash.FaultState). stage_event y.stage) (sym x.2) ∙ e.1 in
    stands_now past c.args.self.now c.requires.turn.on_course c.requires.turn.lit c.args.session c.args.k x.0 e.0 c.do_event.new.self c.requires.turn.attached c.requires.held x.1
    has
    c.faults.result.now.flips c.faults.result.now.cut (ap (λ (f : BootFaults). f.flips) c.faults.ensures) (ap (λ (f : BootFaults). f.cut) c.faults.ensures)
    c.in_ok-do_event.ensures.did

pub returns-else-is_some-clause-stands : goal.returns-else-is_some-clause-stands
returns-else-is_some-clause-stands g c = c.answer.ensures (past_of c.args.journal.now) c.requires.turn c.requires.held
