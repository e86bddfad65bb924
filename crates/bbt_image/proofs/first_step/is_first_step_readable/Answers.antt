use Rattle.bbt_image.proofs.StepLemmas.{alone_tells}
use Rattle.bbt_image.proofs.first_step.is_first_step_readable.Goals as goal

pub returns : goal.returns
returns g c = λ image has. alone_tells c.args.g.now image c.args.alone.now c.decode.result.failed has c.decode.ensures.failed
