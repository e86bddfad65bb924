use Rattle.std.proofs.Common.{refl}
use Rattle.onfi_bus.specs.State.{sizes_of}
use Rattle.onfi_bus.proofs.Sending.{column_sent}
use Rattle.onfi_bus.proofs.transfer.send_column.Goals as goal

pub returns-clause-phase : goal.returns-clause-phase
returns-clause-phase g c = λ to at.
    (column_sent g.F.Flash.fault_model (g.F.Flash.state c.args.flash.now) (sizes_of c.args.bus.now) c.args.bus.now c.send.new.bus c.send-2.new.bus to refl
    c.send.ensures.sizes c.send.ensures.follows c.send-2.ensures.follows at).0

pub returns-clause-device : goal.returns-clause-device
returns-clause-device g c = λ to at.
    (column_sent g.F.Flash.fault_model (g.F.Flash.state c.args.flash.now) (sizes_of c.args.bus.now) c.args.bus.now c.send.new.bus c.send-2.new.bus to refl
    c.send.ensures.sizes c.send.ensures.follows c.send-2.ensures.follows at).1
