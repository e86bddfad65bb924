-- At each moment, by what is told of the chip and how it stands.
use Rattle.copy_laws.proofs.Boots.{writings_whole}
use Rattle.copy_laws.proofs.writings_end_whole.Goals as goal

pub returns : goal.returns
returns c = writings_whole
