use Rattle.headline_laws.proofs.Sizes.{plan_sizes}
use Rattle.headline_laws.proofs.sizes_stay.Goals as goal

pub returns : goal.returns
returns c = plan_sizes
