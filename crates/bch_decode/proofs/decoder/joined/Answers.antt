use Rattle.bch_decode.proofs.StepLemmas.{joined_bytes}
use Rattle.bch_decode.proofs.decoder.joined.Goals as goal

pub returns : goal.returns
returns c =
    joined_bytes 512 c.args.step.now c.copy_from_slice.new.self _ c.args.parity.now c.copy_from_slice-2.new.self _ c.told-step c.copy_from_slice.ensures.after c.copy_from_slice-2.ensures.after
