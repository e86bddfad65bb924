use Rattle.std.proofs.Common.{◌∙◌, sym}
use Rattle.chip_sim.specs.State.{sim_state}
use Rattle.chip_tests.proofs.Telling.{good_erase}
use Rattle.chip_tests.proofs.told.ToldChipFlash.erase_block.Goals as goal

pub returns-clause-state : goal.returns-clause-state
returns-clause-state c =
    let s = c.args.self.now in
    good_erase (sim_state s.chip) (sim_state c.erase_block.new.self) s.failures s.faults c.args.block s.no_weak_place
    (sym c.is_told-fails.ensures ∙ c.if-fails.false) c.erase_block.ensures.state
