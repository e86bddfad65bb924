use Rattle.headline_laws.proofs.Histories.{run_histories}
use Rattle.headline_laws.proofs.runs_have_true_histories.Goals as goal

pub returns : goal.returns
returns c = run_histories
