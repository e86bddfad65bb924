use Rattle.headline_laws.proofs.Parts.{ascending}
use Rattle.headline_laws.proofs.sessions_ascend.Goals as goal

pub returns : goal.returns
returns c = ascending
