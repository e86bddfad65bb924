use Rattle.nand_model.specs.Chip.{done_bits}
use Rattle.nand_model.specs.Sizes.{raw_len}
use Rattle.chip_sim.specs.State.{sim_state}
use Rattle.chip_tests.proofs.Telling.{torn_erase}
use Rattle.chip_tests.proofs.told.ToldChipFlash.torn_erase.Goals as goal

pub returns-clause-state : goal.returns-clause-state
returns-clause-state c =
    let s = c.args.self.now in
    torn_erase (sim_state s.chip) (sim_state c.torn_erase.new.self) s.failures s.faults c.args.block
    (done_bits (raw_len (sim_state s.chip).geometry) c.args.tear.now) c.torn_erase.ensures.state
