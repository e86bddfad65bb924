use Rattle.run_laws.proofs.Once.{replayed_once}
use Rattle.run_laws.proofs.laws.replays_end_alike.Goals as goal

pub returns : goal.returns
returns g c = λ model boot starts schedule course other numbers first second. replayed_once model boot starts numbers schedule course other first second
