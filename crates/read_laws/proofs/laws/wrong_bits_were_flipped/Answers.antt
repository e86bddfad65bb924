use Rattle.read_laws.proofs.Filled.{few_wrong}
use Rattle.read_laws.proofs.laws.wrong_bits_were_flipped.Goals as goal

pub returns : goal.returns
returns g c = few_wrong
