use Rattle.page_ops.proofs.Places.{marker_image-set}
use Rattle.page_ops.proofs.ops.put_marker.Goals as goal

pub returns : goal.returns
returns c = marker_image-set c.args.g.now c.clear.new.image (rw (← c.requires) c.clear.ensures)
