use Rattle.session_steps.proofs.TakenOps.{next_taken}
use Rattle.session_steps.proofs.laws.next_operations_are_taken.Goals as goal

pub returns : goal.returns
returns c = next_taken
