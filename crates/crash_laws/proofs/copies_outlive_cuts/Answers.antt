-- Boot after boot, from a new chip on.
use Rattle.crash_laws.proofs.LifeCopies.{copies_outlive_cuts}
use Rattle.crash_laws.proofs.copies_outlive_cuts.Goals as goal

pub returns : goal.returns
returns c = λ partitions k g bad weak. copies_outlive_cuts partitions k g bad weak
