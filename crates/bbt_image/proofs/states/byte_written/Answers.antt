use Rattle.std.proofs.Common.{arith}
use Rattle.bbt_image.proofs.Bytes.{byte_is_written}
use Rattle.bbt_image.proofs.states.byte_written.Goals as goal

pub returns : goal.returns
returns c = byte_is_written c.args.states (omega arith)
