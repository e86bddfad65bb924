use Rattle.std.proofs.Common.{◌∙◌, fold, refl, sym}
use Rattle.nand_model.specs.Chip.{flipped, sim_faults, with_page}
use Rattle.chip_sim.specs.State.{sim_state}
use Rattle.chip_sim.specs.Store.{stored_pages}
use Rattle.chip_sim.proofs.Flipping.{after_flips}
use Rattle.chip_sim.proofs.Happening.{changed}
use Rattle.chip_sim.proofs.chip.SimChipFlash.flip.Goals as goal

pub returns-clause-state : goal.returns-clause-state
returns-clause-state c =
    let s = c.args.self.now in
    changed s.store.geometry (with_page (stored_pages s.store) c.args.page (fold flipped (stored_pages s.store c.args.page) c.args.bits.now)) s.weak s.faults
    c.flip.new.self s.weak s.faults c.flip.ensures.geometry c.flip.ensures.pages refl refl
    ∙ sym (after_flips sim_faults (sim_state s) c.args.page c.args.bits.now)
