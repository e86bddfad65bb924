use Rattle.std.proofs.Common.{◌∙◌, ap, sym}
use Rattle.nand_model.specs.Chip.{ChipState, PowerCut, EraseEvent, SimFaults, done_bits, happens, sim_faults}
use Rattle.nand_model.specs.Sizes.{raw_len}
use Rattle.onfi_bus.specs.Lab.{lab_state}
use Rattle.onfi_bus.specs.declared.lab.LabChip.{LabChip}
use Rattle.onfi_bus.proofs.lab.LabChipFlash.torn_erase.Goals as goal

pub returns-in-Plain-clause-state : goal.returns-in-Plain-clause-state
returns-in-Plain-clause-state c =
    let torn : LabChip → ChipState SimFaults = λ lab.
    happens sim_faults (lab_state lab) (PowerCut (EraseEvent c.args.block) (done_bits (raw_len (lab_state lab).geometry) c.args.tear.now)) in
    c.torn_erase.ensures.state ∙ ap torn (sym c.in-Plain.is)

pub returns-in-Bus-clause-state : goal.returns-in-Bus-clause-state
returns-in-Bus-clause-state c =
    let torn : LabChip → ChipState SimFaults = λ lab.
    happens sim_faults (lab_state lab) (PowerCut (EraseEvent c.args.block) (done_bits (raw_len (lab_state lab).geometry) c.args.tear.now)) in
    c.torn_erase-in-Bus.ensures.state ∙ ap torn (sym c.in-Bus.is)
