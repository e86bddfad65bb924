use Rattle.std.proofs.Common.{◌≡◌, ◌≤◌, ◌+◌, arith, Some, None, refl, ap, sym, ◌∙◌, subst}
use Rattle.std.specs.Prelude.{slice_get, option_copied, IsSome}
use Rattle.chip_paths.specs.Stage.{stage_event}
use Rattle.chip_core.specs.Chip.{chip_page_room}
use Rattle.ctl_core.specs.declared.board.Slot.{Slot}
use Rattle.ctl_core.specs.Board.{slot_state}
use Rattle.ctl_core.specs.SlotState.{SlotState, slot_after, notes_after}
use Rattle.ctl_core.proofs.FlipSteps.{event_there}
use Rattle.ctl_core.proofs.Slots.{at_some, kept_at}
use Rattle.ctl_core.proofs.Torn.{did_event, lent_tear}
use Rattle.ctl_core.proofs.board.Board.do_event.Goals as goal

pub index_mut-slot-requires : goal.index_mut-slot-requires
index_mut-slot-requires g c =
    let there = event_there c.args.faults.now.flips _ c.args.self.now.slots.items c.make_due_flips.new.slots.items c.args.k
    c.requires.event
    c.in_ok-make_due_flips.ensures.made in
    rw c.make_due_flips.new.slots.ok.0 there.5

pub overflow_cast-k : goal.overflow_cast-k
overflow_cast-k g c =
    let there = event_there c.args.faults.now.flips _ c.args.self.now.slots.items c.make_due_flips.new.slots.items c.args.k
    c.requires.event
    c.in_ok-make_due_flips.ensures.made in
    omega (arith, there.4, c.requires.few)

pub advance-requires-clause-event : goal.advance-requires-clause-event
advance-requires-clause-event g c =
    let there = event_there c.args.faults.now.flips _ c.args.self.now.slots.items c.make_due_flips.new.slots.items c.args.k
    c.requires.event
    c.in_ok-make_due_flips.ensures.made in
    let slot = kept_at slot_state c.make_due_flips.new.slots.items c.args.k c.index_mut-slot.result.now there.0 c.index_mut-slot.ensures.value there.2 in
    let event = ap (λ (y : SlotState g.F.Flash.FaultState). stage_event y.stage) slot.1 ∙ there.3 in
    subst (λ o. IsSome o) (sym event) refl

pub tear-requires-clause-event : goal.tear-requires-clause-event
tear-requires-clause-event g c =
    let there = event_there c.args.faults.now.flips _ c.args.self.now.slots.items c.make_due_flips.new.slots.items c.args.k
    c.requires.event
    c.in_ok-make_due_flips.ensures.made in
    let slot = kept_at slot_state c.make_due_flips.new.slots.items c.args.k c.index_mut-slot.result.now there.0 c.index_mut-slot.ensures.value there.2 in
    let event = ap (λ (y : SlotState g.F.Flash.FaultState). stage_event y.stage) slot.1 ∙ there.3 in
    subst (λ o. IsSome o) (sym event) refl

pub tear-requires-clause-page_room : goal.tear-requires-clause-page_room
tear-requires-clause-page_room g c =
    let there = event_there c.args.faults.now.flips _ c.args.self.now.slots.items c.make_due_flips.new.slots.items c.args.k
    c.requires.event
    c.in_ok-make_due_flips.ensures.made in
    subst (λ (slot : Slot g.row.F.Denot g.row.C.Denot g.F.Flash). 1 ≤ chip_page_room slot.chip) (sym c.index_mut-slot.ensures.value)
    (c.in_ok-make_due_flips.ensures.room c.args.k c.index_mut-slot.result.now there.5).page_room

pub returns-in-None-clause-did : goal.returns-in-None-clause-did
returns-in-None-clause-did g c x e at has =
    let made = c.in_ok-make_due_flips.ensures.made in
    let k = kept_at slot_state c.make_due_flips.new.slots.items c.args.k c.index_mut-slot.result.now x c.index_mut-slot.ensures.value
    (ap (λ cs. slice_get cs c.args.k) made ∙ at) in
    let event = ap (λ (y : SlotState g.F.Flash.FaultState). stage_event y.stage) k.1 ∙ has in
    did_event c.args.faults.now.flips c.args.faults.now.cut c.args.k x e c.args.self.now _ c.make_due_flips.new.slots.items c.index_mut-slot.result.now
    c.advance.new.self None made k.0 k.1
    (lent_tear c.args.faults.now.cut (c.args.self.now.events + 1) c.cut_at.result None c.cut_at.ensures (ap option_copied c.in-None.is)) refl
    (at_some (λ e'. slot_state c.advance.new.self ≡ slot_after g.F.Flash.fault_model e' None (slot_state c.index_mut-slot.result.now)) _ e
    c.advance.ensures.slot event)
    refl c.requires.lit
    (at_some (λ e'. c.advance.new.notes.notes
    ≡ notes_after g.F.Flash.fault_model c.args.k (c.args.self.now.events + 1) e' None (slot_state c.index_mut-slot.result.now) c.args.self.now.notes.notes) _ e
    c.advance.ensures.notes event) refl

pub returns-in-Some-clause-did : goal.returns-in-Some-clause-did
returns-in-Some-clause-did g c x e at has =
    let made = c.in_ok-make_due_flips.ensures.made in
    let k = kept_at slot_state c.make_due_flips.new.slots.items c.args.k c.index_mut-slot.result.now x c.index_mut-slot.ensures.value
    (ap (λ cs. slice_get cs c.args.k) made ∙ at) in
    let event = ap (λ (y : SlotState g.F.Flash.FaultState). stage_event y.stage) k.1 ∙ has in
    let tear = Some c.in-Some.tear.now in
    did_event c.args.faults.now.flips c.args.faults.now.cut c.args.k x e c.args.self.now _ c.make_due_flips.new.slots.items c.index_mut-slot.result.now
    c.tear.new.self tear made k.0 k.1
    (lent_tear c.args.faults.now.cut (c.args.self.now.events + 1) c.cut_at.result tear c.cut_at.ensures (ap option_copied c.in-Some.is)) refl
    (at_some (λ e'. slot_state c.tear.new.self ≡ slot_after g.F.Flash.fault_model e' tear (slot_state c.index_mut-slot.result.now)) _ e
    c.tear.ensures.slot event)
    refl refl
    (at_some (λ e'. c.tear.new.notes.notes
    ≡ notes_after g.F.Flash.fault_model c.args.k (c.args.self.now.events + 1) e' tear (slot_state c.index_mut-slot.result.now) c.args.self.now.notes.notes) _ e
    c.tear.ensures.notes event) refl
