use Rattle.headline_laws.proofs.Replays.{only_replay}
use Rattle.headline_laws.proofs.replay_is_the_only_one.Goals as goal

pub returns : goal.returns
returns c = only_replay
