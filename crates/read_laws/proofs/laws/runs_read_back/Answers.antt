use Rattle.read_laws.proofs.Lives.{run_reads}
use Rattle.read_laws.proofs.laws.runs_read_back.Goals as goal

pub returns : goal.returns
returns g c = run_reads
