use Rattle.std.proofs.Common.{◌≡◌, None, Some, refl}
use Rattle.nand_model.specs.Chip.{EraseCall, blank_page, done_bits, torn_erase, with_block, weak_after_call, weak_fails}
use Rattle.nand_model.specs.Sizes.{raw_len}
use Rattle.chip_sim.specs.Store.{stored_pages}
use Rattle.chip_sim.proofs.Happening.{changed}
use Rattle.chip_sim.proofs.chip.SimChipFlash.erase_block.Goals as goal

pub returns-in_default-clause-state : goal.returns-in_default-clause-state
returns-in_default-clause-state c =
    let s = c.args.self.now in
    let raw = raw_len c.args.self.now.store.geometry in
    let good : None ≡ weak_fails (raw_len c.args.self.now.store.geometry) c.args.self.now.weak (EraseCall c.args.block) = c.in_default.ensures raw in
    rw (← good)
    (changed s.store.geometry (with_block s.store.geometry (stored_pages s.store) c.args.block (λ q old. blank_page s.store.geometry)) (weak_after_call s.weak (EraseCall c.args.block)) s.faults
    c.erase.new.self c.count.new.self s.faults c.erase.ensures.geometry c.erase.ensures.pages c.count.ensures refl)

pub returns-clause-state : goal.returns-clause-state
returns-clause-state c =
    let s = c.args.self.now in
    let raw = raw_len c.args.self.now.store.geometry in
    let failed : Some (done_bits (raw_len c.args.self.now.store.geometry) c.in-Some.weakness.now)
    ≡ weak_fails (raw_len c.args.self.now.store.geometry) c.args.self.now.weak (EraseCall c.args.block) = c.in-Some.ensures raw in
    rw (← failed)
    (changed s.store.geometry (with_block s.store.geometry (stored_pages s.store) c.args.block (torn_erase (done_bits (raw_len s.store.geometry) c.in-Some.weakness.now))) (weak_after_call s.weak (EraseCall c.args.block)) _
    c.tear_erase.new.self c.count-2.new.self c.saturating_add-self.result c.tear_erase.ensures.geometry c.tear_erase.ensures.pages c.count-2.ensures c.saturating_add-self.ensures)
