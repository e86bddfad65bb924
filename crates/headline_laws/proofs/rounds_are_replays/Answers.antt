use Rattle.headline_laws.proofs.Replays.{of_replayed}
use Rattle.headline_laws.proofs.Turns.{replay_turns-rounds}
use Rattle.headline_laws.proofs.rounds_are_replays.Goals as goal

pub returns-clause-turns : goal.returns-clause-turns
returns-clause-turns c = replay_turns-rounds

pub returns-clause-replay : goal.returns-clause-replay
returns-clause-replay c = of_replayed
