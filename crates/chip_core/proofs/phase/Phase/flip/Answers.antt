use Rattle.std.proofs.Common.{subst}
use Rattle.chip_core.specs.Phase.{AttachFits, PhaseFits}
use Rattle.chip_core.proofs.phase.Phase.flip.Goals as goal

pub returns-in-Attaching-clause-fits : goal.returns-in-Attaching-clause-fits
returns-in-Attaching-clause-fits g c =
    λ h table sums fits.
    let old : AttachFits h sums c.in-Attaching.run' = subst (PhaseFits h table sums) c.in-Attaching.is fits in
    record { run_fits = c.flip.ensures.fits h old.run_fits; fresh = old.fresh }
