-- Event by event.
use Rattle.relocation_laws.proofs.Public.{writing-goes-on}
use Rattle.relocation_laws.proofs.writings_keep_the_invariant.Goals as goal

pub returns : goal.returns
returns c = λ g bad acked begun w holds erased keeps. writing-goes-on g bad acked begun w holds erased keeps
