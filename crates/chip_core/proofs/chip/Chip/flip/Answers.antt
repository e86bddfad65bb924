use Rattle.std.proofs.Common.{◌∙◌, ap, arith}
use Rattle.nand_iface.proofs.FlashLemmas.{after_trace-geometry}
use Rattle.nand_model.specs.Chip.{ChipState, flip_events}
use Rattle.chip_core.proofs.chip.Chip.flip.Goals as goal

pub invariant_of-self : goal.invariant_of-self
invariant_of-self g c =
    let chip = c.args.self.now in
    record {
      sizes =
          ap (λ (s : ChipState g.F.Flash.FaultState). s.geometry) c.flip.ensures.state
          ∙ after_trace-geometry g.F.Flash.fault_model (g.F.Flash.state chip.flash) (flip_events c.args.page c.args.bits.now) ∙ chip.sizes;
      judge_sizes = chip.judge_sizes;
      quiet = c.flip.ensures.knows;
      fits = c.flip.ensures.fits chip.known.geometry chip.known.table chip.known.sums chip.fits;
      few = omega (arith, chip.few);
      room = omega (arith, chip.room, c.flip.ensures.room, c.flip.ensures.programs chip.known.geometry);
    }
