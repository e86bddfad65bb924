use Rattle.std.proofs.Common.{◌∙◌, ap, length}
use Rattle.nand_model.specs.Chip.{ChipState, SimFaults}
use Rattle.chip_sim.specs.State.{sim_state}
use Rattle.chip_tests.specs.Failures.{told_of}
use Rattle.chip_tests.proofs.Telling.{flips_keep_weak, flips_told}
use Rattle.chip_tests.proofs.told.ToldChipFlash.flip.Goals as goal

pub invariant_of-self : goal.invariant_of-self
invariant_of-self c =
    let s = c.args.self.now in
    record {
      no_weak_place = ap (λ (t : ChipState SimFaults). length t.fault_state.weak) c.flip.ensures.state
          ∙ ap length (flips_keep_weak (sim_state s.chip) c.args.page c.args.bits.now)
          ∙ s.no_weak_place;
    }

pub returns-clause-state : goal.returns-clause-state
returns-clause-state c =
    let s = c.args.self.now in
    ap (λ t. told_of t s.failures s.faults) c.flip.ensures.state
    ∙ flips_told (sim_state s.chip) s.failures s.faults c.args.page c.args.bits.now
