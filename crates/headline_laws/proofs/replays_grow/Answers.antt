use Rattle.headline_laws.proofs.Replays.{one_boot_more}
use Rattle.headline_laws.proofs.replays_grow.Goals as goal

pub returns : goal.returns
returns c = λ plan k chips starts boots courses boot course h last. one_boot_more plan k chips boots starts courses boot course h last
