use Rattle.std.proofs.Common.{refl}
use Rattle.nand_model.specs.Chip.{EraseCall, done_bits, torn_erase, with_block, weak_after_call}
use Rattle.nand_model.specs.Sizes.{raw_len}
use Rattle.chip_sim.specs.Store.{stored_pages}
use Rattle.chip_sim.proofs.Happening.{changed}
use Rattle.chip_sim.proofs.chip.SimChipFlash.torn_erase.Goals as goal

pub returns-clause-state : goal.returns-clause-state
returns-clause-state c =
    let s = c.args.self.now in
    changed s.store.geometry (with_block s.store.geometry (stored_pages s.store) c.args.block (torn_erase (done_bits (raw_len s.store.geometry) c.args.tear.now))) (weak_after_call s.weak (EraseCall c.args.block)) s.faults
    c.tear_erase.new.self c.count.new.self s.faults c.tear_erase.ensures.geometry c.tear_erase.ensures.pages c.count.ensures refl
