-- Boot after boot, from a new chip on.
use Rattle.crash_laws.proofs.LifeTables.{two_copies_hold}
use Rattle.crash_laws.proofs.two_copies_hold_the_table.Goals as goal

pub returns : goal.returns
returns c = λ partitions k g bad weak. two_copies_hold partitions k g bad weak
