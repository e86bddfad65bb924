use Rattle.std.proofs.Common.{refl}
use Rattle.nand_model.specs.Chip.{ProgramCall, done_bits, torn_program, with_page, weak_after_call}
use Rattle.nand_model.specs.Sizes.{raw_len}
use Rattle.chip_sim.specs.Store.{stored_pages}
use Rattle.chip_sim.proofs.Happening.{changed}
use Rattle.chip_sim.proofs.chip.SimChipFlash.torn_program.Goals as goal

pub returns-clause-state : goal.returns-clause-state
returns-clause-state c =
    let s = c.args.self.now in
    changed s.store.geometry (with_page (stored_pages s.store) c.args.page (torn_program (stored_pages s.store c.args.page) c.args.image.now
    (done_bits (raw_len s.store.geometry) c.args.tear.now))) (weak_after_call s.weak (ProgramCall c.args.page)) s.faults
    c.tear_program.new.self c.count.new.self s.faults c.tear_program.ensures.geometry c.tear_program.ensures.pages c.count.ensures refl
