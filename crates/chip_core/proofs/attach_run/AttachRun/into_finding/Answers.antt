use Rattle.std.proofs.Common.{◌∙◌, ap}
use Rattle.nand_model.specs.declared.geometry.Geometry.{Geometry}
use Rattle.chip_core.proofs.attach_run.AttachRun.into_finding.Goals as goal

pub take_found-requires-clause-blocks : goal.take_found-requires-clause-blocks
take_found-requires-clause-blocks c = c.finish-attached.ensures.blocks ∙ ap (λ (g : Geometry). g.blocks) c.requires.fits.sizes

pub take_found-requires-clause-primary : goal.take_found-requires-clause-primary
take_found-requires-clause-primary c = rw (← c.requires.fits.sizes) c.finish-attached.ensures.primary

pub take_found-requires-clause-mirror : goal.take_found-requires-clause-mirror
take_found-requires-clause-mirror c = rw (← c.requires.fits.sizes) c.finish-attached.ensures.mirror
