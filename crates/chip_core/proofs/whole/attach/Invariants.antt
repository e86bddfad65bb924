use Rattle.chip_core.specs.Chip.{chip_pending_note, chip_stage, chip_state}
use Rattle.chip_core.proofs.Attached.{IsAttachedTo}
use Rattle.chip_core.proofs.whole.attach.Given as goal

-- the markers so far are read
abbrev pub invariant-loop : goal.invariant-loop
invariant-loop g l = IsAttachedTo (g.F.Flash.state l.fn.flash) l.counter (chip_state l.chip) (chip_stage l.chip) (chip_pending_note l.chip)
