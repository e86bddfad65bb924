use Rattle.plan_laws.proofs.Again.{reads_again}
use Rattle.plan_laws.proofs.laws.canonical_texts_are_read_again.Goals as goal

pub returns : goal.returns
returns c = reads_again
