-- Some session has a pending operation, or one that can begin.
use Rattle.run_laws.proofs.Progress.{go_on}
use Rattle.run_laws.proofs.laws.courses_go_on.Goals as goal

pub returns : goal.returns
returns g c = λ model boot starts attaches turns once chips. go_on model boot starts attaches turns once chips
