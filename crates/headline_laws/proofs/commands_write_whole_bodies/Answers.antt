use Rattle.headline_laws.proofs.Bodies.{bodies_whole}
use Rattle.headline_laws.proofs.commands_write_whole_bodies.Goals as goal

pub returns : goal.returns
returns c = bodies_whole
