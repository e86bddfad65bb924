use Rattle.headline_laws.proofs.Replays.{replays_joined}
use Rattle.headline_laws.proofs.replays_join.Goals as goal

pub returns : goal.returns
returns c = replays_joined
