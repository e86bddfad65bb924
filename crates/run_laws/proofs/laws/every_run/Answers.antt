-- Boot after boot.
use Rattle.run_laws.proofs.Runs.{runs_faithful}
use Rattle.run_laws.proofs.laws.every_run.Goals as goal

pub returns : goal.returns
returns g c = λ model partitions starts boots turns courses d h. runs_faithful model partitions starts boots turns courses d h
