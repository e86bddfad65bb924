use Rattle.std.proofs.Common.{◌≡◌}
use Rattle.nand_model.specs.Quiet.{is_quiet}
use Rattle.chip_paths.specs.Stage.{stage_event}
use Rattle.chip_core.specs.Chip.{chip_state, chip_stage}
use Rattle.chip_core.specs.Torn.{stage_torn, state_torn, tear_told}
use Rattle.ctl_core.specs.Board.{slot_state}
use Rattle.ctl_core.specs.SlotState.{after_tear}
use Rattle.ctl_core.proofs.Slots.{both_some, note_of_tear}
use Rattle.ctl_core.proofs.board.Slot.tear.Goals as goal

pub returns-clause-notes : goal.returns-clause-notes
returns-clause-notes g c =
    let chip = c.args.self.now.chip in
    note_of_tear (stage_event (chip_stage chip)) c.next_event.result c.in-Some.event (tear_told g.F.Flash.fault_model c.args.tear.now (chip_state chip))
    c.torn-fairness.result c.args.chip c.args.number c.args.notes.now.notes c.push.new.self.notes
    c.next_event.ensures c.in-Some.is c.torn-fairness.ensures.told c.push.ensures.notes

pub returns-clause-slot : goal.returns-clause-slot
returns-clause-slot g c =
    let chip = c.args.self.now.chip in
    both_some (λ e. chip_state c.torn-fairness.new.self ≡ state_torn g.F.Flash.fault_model c.args.tear.now e (chip_state chip))
    (λ e. chip_stage c.torn-fairness.new.self ≡ stage_torn (is_quiet (chip_state chip).geometry (chip_state chip).pages) (chip_stage chip))
    (λ e. slot_state (record c.args.self.now { chip = c.torn-fairness.new.self })
    ≡ after_tear g.F.Flash.fault_model e c.args.tear.now (slot_state c.args.self.now))
    (stage_event (chip_stage chip)) c.torn-fairness.ensures.state c.torn-fairness.ensures.stage
    (λ e state stage. λ j. record {
      state = state j;
      stage = stage j;
      pending_note = c.torn-fairness.ensures.pending_note j;
      holder = c.args.self.now.holder;
    })
