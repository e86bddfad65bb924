use Rattle.std.proofs.Common.{◌≡◌, ◌≤◌, ◌-◌}
use Rattle.chip_core.specs.Chip.{chip_bits, chip_pending_note, chip_page_room, chip_stage, chip_state}
use Rattle.chip_core.proofs.Performing.{HasCome}
use Rattle.chip_core.proofs.whole.perform.Given as goal

-- the operation has come so far
abbrev pub invariant-loop : goal.invariant-loop
invariant-loop g l =
    record {
      come : HasCome g.F.Flash.fault_model l.parts l.op (chip_state l.fn.chip) (14 - l.counter) (chip_stage l.fn.chip) (chip_state l.chip) (chip_stage l.chip);
      note : chip_pending_note l.chip ≡ chip_pending_note l.fn.chip;
      page_room : chip_page_room l.chip ≡ chip_page_room l.fn.chip;
      bits : chip_bits l.fn.chip ≤ chip_bits l.chip;
    }
