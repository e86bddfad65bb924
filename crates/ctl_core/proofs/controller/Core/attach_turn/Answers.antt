use Rattle.std.proofs.Common.{◌≡◌, ◌≤◌, arith, Some, None, refl, ap, sym, ◌∙◌, subst}
use Rattle.std.specs.Prelude.{IsSome, option_and_then, All}
use Rattle.fault_plan.specs.BootFaults.{BootFaults}
use Rattle.run_model.specs.Course.{attach_step}
use Rattle.run_laws.proofs.AttachTurns.{attach_is_step}
use Rattle.chip_paths.specs.Stage.{stage_event}
use Rattle.turn_laws.specs.Laws.{events_of_attaches}
use Rattle.ctl_core.specs.Answer.{attach_answer}
use Rattle.ctl_core.specs.SlotState.{SlotState}
use Rattle.ctl_core.specs.Past.{Past, starts_of, sizes_in, course_of, with_attach}
use Rattle.ctl_core.specs.declared.board.Board.{Board}
use Rattle.run_model.specs.Start.{AreFewFlips}
use Rattle.ctl_core.specs.Board.{past_of, slot_states}
use Rattle.ctl_core.specs.Flips.{CanFlip}
use Rattle.ctl_core.proofs.Limits.{few_slots, few_events, few_attaches, few_to_attach, attached_there}
use Rattle.ctl_core.proofs.CourseSteps.{dark_attach_answer}
use Rattle.ctl_core.proofs.CoreSteps.{attaching_in_slots, attach_answer_is, dark_course, renoted, stayed_on, attach_there, next_attach, attached_now}
use Rattle.ctl_core.proofs.OnCourse.{can_flip, stands_alike}
use Rattle.ctl_core.proofs.controller.Core.attach_turn.Goals as goal

pub returns-then-self-clause-answer : goal.returns-then-self-clause-answer
returns-then-self-clause-answer g c =
    dark_attach_answer g.F.Flash.fault_model c.self.inside.journal.boot (sizes_in g.F.Flash.state (past_of c.self.inside.journal))
    (course_of g.F.Flash.fault_model g.F.Flash.state (past_of c.self.inside.journal)) 0
    (dark_course (past_of c.self.inside.journal) c.self.inside.board c.self.invariant c.if-self.true)
    ∙ ap (λ (p : Past g.row.F.Denot). attach_answer (course_of g.F.Flash.fault_model g.F.Flash.state p)) c.self.view_is

pub returns-then-self-clause-step : goal.returns-then-self-clause-step
returns-then-self-clause-step g c =
    let past = past_of c.self.inside.journal in
    let step = attach_is_step g.F.Flash.fault_model past.boot (starts_of g.F.Flash.state past) (sizes_in g.F.Flash.state past) past.attaches past.turns in
    subst (λ (p : Past g.row.F.Denot). course_of g.F.Flash.fault_model g.F.Flash.state p
    ≡ attach_step g.F.Flash.fault_model p.boot (sizes_in g.F.Flash.state p) (course_of g.F.Flash.fault_model g.F.Flash.state p))
    c.self.view_is (sym (step.nothing_where_dark (dark_course past c.self.inside.board c.self.invariant c.if-self.true)))

pub returns-then-self-clause-few : goal.returns-then-self-clause-few
returns-then-self-clause-few g c =
    subst (λ (p : Past g.row.F.Denot). p.attaches ≤ events_of_attaches (starts_of g.F.Flash.state p)) c.self.view_is
    (few_attaches (past_of c.self.inside.journal) c.self.inside.board c.self.invariant)

pub returns-in_err-reserve-clause-few : goal.returns-in_err-reserve-clause-few
returns-in_err-reserve-clause-few g c = few_attaches (past_of c.self.inside.journal) c.self.inside.board c.self.invariant

pub returns-in_default-clause-answer : goal.returns-in_default-clause-answer
returns-in_default-clause-answer g c =
    let none = attached_there (past_of c.self.inside.journal) c.self.inside.board c.self.invariant ∙ sym (attaching_in_slots c.self.inside.board)
    ∙ sym c.first_attaching.ensures ∙ c.in_default.is in
    attach_answer_is (past_of c.self.inside.journal) c.self.inside.board c.self.invariant c.if-self.false None none
    ∙ ap (λ (p : Past g.row.F.Denot). attach_answer (course_of g.F.Flash.fault_model g.F.Flash.state p)) c.self.view_is

pub returns-in_default-clause-step : goal.returns-in_default-clause-step
returns-in_default-clause-step g c =
    let past = past_of c.self.inside.journal in
    let none = attached_there past c.self.inside.board c.self.invariant ∙ sym (attaching_in_slots c.self.inside.board) ∙ sym c.first_attaching.ensures
    ∙ c.in_default.is in
    let step = attach_is_step g.F.Flash.fault_model past.boot (starts_of g.F.Flash.state past) (sizes_in g.F.Flash.state past) past.attaches past.turns in
    subst (λ (p : Past g.row.F.Denot). course_of g.F.Flash.fault_model g.F.Flash.state past
    ≡ attach_step g.F.Flash.fault_model p.boot (sizes_in g.F.Flash.state p) (course_of g.F.Flash.fault_model g.F.Flash.state p))
    c.self.view_is (sym (step.nothing_where_attached none))

pub returns-in_default-clause-few : goal.returns-in_default-clause-few
returns-in_default-clause-few g c = few_attaches (past_of c.self.inside.journal) c.self.inside.board c.self.invariant

pub do_event-requires-clause-lit : goal.do_event-requires-clause-lit
do_event-requires-clause-lit g c = c.if-self.false

pub do_event-requires-clause-few : goal.do_event-requires-clause-few
do_event-requires-clause-few g c = few_slots (past_of c.self.inside.journal) c.self.inside.board c.self.invariant

pub do_event-requires-clause-event : goal.do_event-requires-clause-event
do_event-requires-clause-event g c =
    let first = sym (attaching_in_slots c.self.inside.board) ∙ sym c.first_attaching.ensures ∙ c.in-Some.is in
    let there = attach_there (past_of c.self.inside.journal) c.self.inside.board c.self.invariant c.if-self.false c.in-Some.k first in
    let event = ap (option_and_then (λ (y : SlotState g.F.Flash.FaultState). stage_event y.stage)) there.2 ∙ there.3 in
    subst (λ o. IsSome o) (sym event) refl

pub do_event-requires-clause-number : goal.do_event-requires-clause-number
do_event-requires-clause-number g c = few_events (past_of c.self.inside.journal) c.self.inside.board c.self.invariant

pub do_event-requires-clause-few_flips : goal.do_event-requires-clause-few_flips
do_event-requires-clause-few_flips g c = subst AreFewFlips (sym (ap (λ (f : BootFaults). f.flips) c.faults.ensures)) c.self.invariant.conditions.few_flips

pub do_event-requires-clause-flips : goal.do_event-requires-clause-flips
do_event-requires-clause-flips g c =
    subst (λ flips. All (CanFlip (slot_states c.self.inside.board)) flips) (sym (ap (λ (f : BootFaults). f.flips) c.faults.ensures))
    (can_flip (past_of c.self.inside.journal) c.self.inside.board c.self.invariant)

pub overflow_add-self : goal.overflow_add-self
overflow_add-self g c =
    let few = few_attaches (past_of c.self.inside.journal) c.self.inside.board c.self.invariant in
    let blocks = few_to_attach (past_of c.self.inside.journal) c.self.inside.board c.self.invariant in
    omega (arith, few, blocks)

pub invariant_of-self-in_err-do_event : goal.invariant_of-self-in_err-do_event
invariant_of-self-in_err-do_event g c =
    let past = past_of c.self.inside.journal in
    let before : Board g.row.F.Denot g.row.C.Denot g.F.Flash = record c.self.inside.board { notes = c.reserve.new.self } in
    let on = renoted past c.self.inside.board c.self.invariant c.reserve.new.self c.reserve.ensures.notes in
    stayed_on past before on c.do_event.new.self
    (stands_alike past before on (course_of g.F.Flash.fault_model g.F.Flash.state past) c.do_event.new.self on.stands c.in_err-do_event.ensures.no_memory)

pub returns-in_err-do_event-clause-few : goal.returns-in_err-do_event-clause-few
returns-in_err-do_event-clause-few g c = few_attaches (past_of c.self.inside.journal) c.self.inside.board c.self.invariant

pub invariant_of-self-2 : goal.invariant_of-self-2
invariant_of-self-2 g c =
    let past = past_of c.self.inside.journal in
    let before : Board g.row.F.Denot g.row.C.Denot g.F.Flash = record c.self.inside.board { notes = c.reserve.new.self } in
    attached_now past before (renoted past c.self.inside.board c.self.invariant c.reserve.new.self c.reserve.ensures.notes) c.if-self.false c.in-Some.k c.do_event.new.self
    (sym (attaching_in_slots c.self.inside.board) ∙ sym c.first_attaching.ensures ∙ c.in-Some.is) c.faults.result.now.flips
    c.faults.result.now.cut (ap (λ (f : BootFaults). f.flips) c.faults.ensures) (ap (λ (f : BootFaults). f.cut) c.faults.ensures)
    c.in_ok-do_event.ensures.did

pub returns-clause-answer : goal.returns-clause-answer
returns-clause-answer g c =
    let some = attached_there (past_of c.self.inside.journal) c.self.inside.board c.self.invariant ∙ sym (attaching_in_slots c.self.inside.board)
    ∙ sym c.first_attaching.ensures ∙ c.in-Some.is in
    attach_answer_is (past_of c.self.inside.journal) c.self.inside.board c.self.invariant c.if-self.false (Some c.in-Some.k) some
    ∙ ap (λ (p : Past g.row.F.Denot). attach_answer (course_of g.F.Flash.fault_model g.F.Flash.state p)) c.self.view_is

pub returns-clause-step : goal.returns-clause-step
returns-clause-step g c =
    let past = past_of c.self.inside.journal in
    let first = sym (attaching_in_slots c.self.inside.board) ∙ sym c.first_attaching.ensures ∙ c.in-Some.is in
    subst (λ (p : Past g.row.F.Denot). course_of g.F.Flash.fault_model g.F.Flash.state (with_attach past)
    ≡ attach_step g.F.Flash.fault_model p.boot (sizes_in g.F.Flash.state p) (course_of g.F.Flash.fault_model g.F.Flash.state p))
    c.self.view_is (next_attach past c.self.inside.board c.self.invariant c.in-Some.k first)

pub returns-clause-few : goal.returns-clause-few
returns-clause-few g c =
    let past = past_of c.self.inside.journal in
    let before : Board g.row.F.Denot g.row.C.Denot g.F.Flash = record c.self.inside.board { notes = c.reserve.new.self } in
    few_attaches (with_attach past) c.do_event.new.self
    (attached_now past before (renoted past c.self.inside.board c.self.invariant c.reserve.new.self c.reserve.ensures.notes) c.if-self.false c.in-Some.k c.do_event.new.self
    (sym (attaching_in_slots c.self.inside.board) ∙ sym c.first_attaching.ensures ∙ c.in-Some.is) c.faults.result.now.flips
    c.faults.result.now.cut (ap (λ (f : BootFaults). f.flips) c.faults.ensures) (ap (λ (f : BootFaults). f.cut) c.faults.ensures)
    c.in_ok-do_event.ensures.did)
