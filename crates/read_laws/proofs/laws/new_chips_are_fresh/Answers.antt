use Rattle.read_laws.proofs.Filled.{new_fresh}
use Rattle.read_laws.proofs.laws.new_chips_are_fresh.Goals as goal

pub returns : goal.returns
returns c = λ g bad weak. new_fresh g bad
