use Rattle.std.proofs.Common.{◌∙◌, List, length, true, ap, sym, subst}
use Rattle.nand_model.specs.Chip.{ChipState}
use Rattle.nand_model.specs.declared.geometry.Geometry.{Geometry}
use Rattle.chip_paths.specs.Attach.{attach_path}
use Rattle.chip_paths.specs.Stage.{Attaches}
use Rattle.chip_core.specs.AttachRun.{RunFits, Watches}
use Rattle.chip_core.specs.declared.sums.DeviceSums.{DeviceSums}
use Rattle.chip_core.proofs.chip.Chip.attach_start.Goals as goal

pub returns-clause-stage : goal.returns-clause-stage
returns-clause-stage g c =
    (λ i. Attaches (c.in_ok-run.ensures.left i) (c.in_ok-run.ensures.quiet i))
    ∙ ap (λ (h : Geometry). Attaches (attach_path h) true) c.geometry-geometry.ensures.sizes

pub invariant_of-result-clause-fits : goal.invariant_of-result-clause-fits
invariant_of-result-clause-fits g c =
    record {
      run_fits = subst (λ (h : Geometry). RunFits h c.in_ok-run.run') (sym c.in_ok-known.ensures.geometry) c.in_ok-run.ensures.fits;
      fresh = ap (λ (sums : List DeviceSums). length sums) c.in_ok-known.ensures.sums;
    }

pub invariant_of-result-clause-quiet : goal.invariant_of-result-clause-quiet
invariant_of-result-clause-quiet g c =
    subst (λ (s : ChipState g.F.Flash.FaultState). Watches s c.in_ok-run.run') (sym c.in_ok-reserve.ensures.state) c.in_ok-run.ensures.watches
