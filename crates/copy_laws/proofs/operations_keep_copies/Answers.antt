-- From one moment to each later one, by what is told of the chip.
use Rattle.copy_laws.proofs.Moments.{operations_keep}
use Rattle.copy_laws.proofs.operations_keep_copies.Goals as goal

pub returns : goal.returns
returns g c = operations_keep
