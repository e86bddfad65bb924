-- At each moment, by what the chip stands at.
use Rattle.crash_laws.proofs.Copies.{one_copy_stays}
use Rattle.crash_laws.proofs.one_copy_stays.Goals as goal

pub returns : goal.returns
returns c = one_copy_stays
