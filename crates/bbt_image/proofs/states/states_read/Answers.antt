use Rattle.std.proofs.Common.{arith}
use Rattle.bbt_image.proofs.Bytes.{states_are_read}
use Rattle.bbt_image.proofs.states.states_read.Goals as goal

pub returns : goal.returns
returns c = states_are_read c.args.byte (omega arith)
