-- At each moment, by what the chip stands at.
use Rattle.crash_laws.proofs.Copies.{whole_copies_hold}
use Rattle.crash_laws.proofs.whole_copies_hold.Goals as goal

pub returns : goal.returns
returns c = whole_copies_hold
