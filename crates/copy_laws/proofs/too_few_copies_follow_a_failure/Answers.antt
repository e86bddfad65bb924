-- At each moment, by what is told of the chip.
use Rattle.copy_laws.proofs.Moments.{too_few_follow}
use Rattle.copy_laws.proofs.too_few_copies_follow_a_failure.Goals as goal

pub returns : goal.returns
returns g c = too_few_follow
