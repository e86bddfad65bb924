use Rattle.std.proofs.Common.{refl}
use Rattle.onfi_bus.specs.State.{failed_of, sizes_of}
use Rattle.onfi_bus.proofs.Sending.{status_told}
use Rattle.onfi_bus.proofs.transfer.has_failed.Goals as goal

pub returns : goal.returns
returns g c =
    c.has_fail_bit.ensures (failed_of c.args.bus.now)
    (status_told g.F.Flash.fault_model (g.F.Flash.state c.args.flash.now) (sizes_of c.args.bus.now) c.args.bus.now c.send.new.bus c.byte_out.result refl c.send.ensures.sizes
    c.requires.idle c.send.ensures.follows c.byte_out.ensures.byte)
