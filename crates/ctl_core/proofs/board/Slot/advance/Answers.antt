use Rattle.std.proofs.Common.{◌≡◌, ◌∙◌}
use Rattle.nand_model.specs.Chip.{Complete, happens}
use Rattle.chip_paths.specs.Stage.{failure_told, stage_after, stage_event, pending_note_after}
use Rattle.nand_model.specs.Path.{answer_to}
use Rattle.nand_model.specs.Quiet.{is_quiet}
use Rattle.chip_core.specs.Chip.{chip_state, chip_stage, chip_pending_note}
use Rattle.ctl_core.specs.Board.{slot_state}
use Rattle.ctl_core.specs.SlotState.{after_event, with_note_written}
use Rattle.ctl_core.proofs.Slots.{both_some, notes_of_event}
use Rattle.ctl_core.proofs.board.Slot.advance.Goals as goal

pub returns-clause-notes : goal.returns-clause-notes
returns-clause-notes g c =
    let chip = c.args.self.now.chip in
    notes_of_event (stage_event (chip_stage chip)) c.next_event-event.result (failure_told g.F.Flash.fault_model (chip_state chip)) c.advance-told.result
    (λ e. pending_note_after (is_quiet (chip_state chip).geometry (chip_state chip).pages) (answer_to g.F.Flash.fault_model (chip_state chip) e) (chip_stage chip)
    (chip_pending_note chip)) (chip_pending_note c.advance-told.new.self)
    c.args.chip c.args.number c.failure_note.result c.attach_note.result c.args.notes.now.notes c.put_down.new.notes.notes c.put_down-2.new.notes.notes
    c.next_event-event.ensures c.advance-told.ensures.told c.advance-told.ensures.pending_note c.failure_note.ensures c.put_down.ensures.notes
    c.attach_note.ensures.note c.put_down-2.ensures.notes

pub returns-clause-slot : goal.returns-clause-slot
returns-clause-slot g c =
    let chip = c.args.self.now.chip in
    both_some (λ e. chip_state c.advance-told.new.self ≡ happens g.F.Flash.fault_model (chip_state chip) (Complete e))
    (λ e. chip_stage c.advance-told.new.self
    ≡ stage_after (is_quiet (chip_state chip).geometry (chip_state chip).pages) (answer_to g.F.Flash.fault_model (chip_state chip) e) (chip_stage chip))
    (λ e. slot_state (record c.args.self.now { chip = c.attach_note.new.self })
    ≡ with_note_written (after_event g.F.Flash.fault_model e (slot_state c.args.self.now)))
    (stage_event (chip_stage chip)) c.advance-told.ensures.state c.advance-told.ensures.stage
    (λ e state stage. λ j. record {
      state = (c.attach_note.ensures.state ∙ state) j;
      stage = (c.attach_note.ensures.stage ∙ stage) j;
      pending_note = c.attach_note.ensures.once j;
      holder = c.args.self.now.holder;
    })
