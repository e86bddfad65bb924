-- Two lives of one chip that are asked alike.
use Rattle.run_laws.proofs.Replies.{depend_on_the_chip}
use Rattle.run_laws.proofs.laws.chips_stand_alone.Goals as goal

pub returns : goal.returns
returns g c = λ model. depend_on_the_chip model
