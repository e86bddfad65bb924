use Rattle.std.proofs.Common.{◌≡◌, None, Some, refl}
use Rattle.nand_model.specs.Chip.{ProgramCall, good_program, done_bits, torn_program, with_page, weak_after_call, weak_fails}
use Rattle.nand_model.specs.Sizes.{raw_len}
use Rattle.chip_sim.specs.Store.{stored_pages}
use Rattle.chip_sim.proofs.Happening.{changed}
use Rattle.chip_sim.proofs.chip.SimChipFlash.program_page.Goals as goal

pub returns-in_default-clause-state : goal.returns-in_default-clause-state
returns-in_default-clause-state c =
    let s = c.args.self.now in
    let raw = raw_len c.args.self.now.store.geometry in
    let good : None ≡ weak_fails (raw_len c.args.self.now.store.geometry) c.args.self.now.weak (ProgramCall c.args.page) = c.in_default.ensures raw in
    rw (← good)
    (changed s.store.geometry (with_page (stored_pages s.store) c.args.page (good_program (stored_pages s.store c.args.page) c.args.image.now)) (weak_after_call s.weak (ProgramCall c.args.page)) s.faults
    c.program.new.self c.count.new.self s.faults c.program.ensures.geometry c.program.ensures.pages c.count.ensures refl)

pub returns-clause-state : goal.returns-clause-state
returns-clause-state c =
    let s = c.args.self.now in
    let raw = raw_len c.args.self.now.store.geometry in
    let failed : Some (done_bits (raw_len c.args.self.now.store.geometry) c.in-Some.weakness.now)
    ≡ weak_fails (raw_len c.args.self.now.store.geometry) c.args.self.now.weak (ProgramCall c.args.page) = c.in-Some.ensures raw in
    rw (← failed)
    (changed s.store.geometry (with_page (stored_pages s.store) c.args.page (torn_program (stored_pages s.store c.args.page) c.args.image.now
    (done_bits (raw_len s.store.geometry) c.in-Some.weakness.now))) (weak_after_call s.weak (ProgramCall c.args.page)) _
    c.tear_program.new.self c.count-2.new.self c.saturating_add-self.result c.tear_program.ensures.geometry c.tear_program.ensures.pages c.count-2.ensures c.saturating_add-self.ensures)
