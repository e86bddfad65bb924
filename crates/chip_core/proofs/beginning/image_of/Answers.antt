use Rattle.std.proofs.Common.{◌≡◌, length, ap, ◌∙◌}
use Rattle.chip_core.proofs.Imaging.{encoded_is, refilled}
use Rattle.chip_core.proofs.beginning.image_of.Goals as goal

pub returns-clause-image : goal.returns-clause-image
returns-clause-image g c =
    let kept : length c.encode.new.image ≡ length c.in_ok-image.image = c.encode.auto.image ∙ c.put.auto.image ∙ ap length c.as_mut_slice-bytes.ensures.value in
    refilled c.in_ok-image.image c.encode.new.image kept ∙ c.encode.ensures
    ∙ encoded_is c.args.g.now c.put.new.image c.args.body.now c.args.free.now c.requires c.put.ensures.body c.put.ensures.free
