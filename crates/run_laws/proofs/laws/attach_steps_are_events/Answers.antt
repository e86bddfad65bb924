-- The first chip that is not attached has a next event.
use Rattle.run_laws.proofs.AttachTurns.{attach_is_step}
use Rattle.run_laws.proofs.laws.attach_steps_are_events.Goals as goal

pub returns : goal.returns
returns g c = λ model boot starts sizes attaches turns. attach_is_step model boot starts sizes attaches turns
