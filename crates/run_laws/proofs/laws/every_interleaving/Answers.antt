-- Every interleaving is one thread's: the invariant holds of each course.
use Rattle.run_laws.proofs.Faithful.{faithful}
use Rattle.run_laws.proofs.laws.every_interleaving.Goals as goal

pub returns : goal.returns
returns g c = λ model boot starts attaches turns. faithful model boot starts attaches turns
