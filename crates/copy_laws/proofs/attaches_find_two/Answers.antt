-- By what the chip holds where the next boot begins.
use Rattle.copy_laws.proofs.Boots.{attaches_find}
use Rattle.copy_laws.proofs.attaches_find_two.Goals as goal

pub returns : goal.returns
returns c = attaches_find
