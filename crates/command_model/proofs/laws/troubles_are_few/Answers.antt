-- Block by block.
use Rattle.command_model.proofs.Troubles.{troubles_are_few}
use Rattle.command_model.proofs.laws.troubles_are_few.Goals as goal

pub returns : goal.returns
returns c = λ g. troubles_are_few g
