use Rattle.std.proofs.Common.{◌∙◌, refl}
use Rattle.onfi_bus.specs.State.{sizes_of}
use Rattle.onfi_bus.proofs.Sending.{read_begun}
use Rattle.onfi_bus.proofs.transfer.begin_read.Goals as goal

pub returns-clause-phase : goal.returns-clause-phase
returns-clause-phase g c =
    (read_begun g.F.Flash.fault_model (g.F.Flash.state c.args.flash.now) (sizes_of c.args.bus.now) c.args.bus.now c.send.new.bus c.send_column.new.bus c.send_row.new.bus c.send-2.new.bus
    c.args.page refl (c.send_row.ensures.sizes ∙ c.send_column.ensures.sizes ∙ c.send.ensures.sizes) c.requires.idle c.send.ensures.follows c.send_column.ensures.phase
    c.send_row.ensures.phase c.send-2.ensures.follows).0

pub returns-clause-register : goal.returns-clause-register
returns-clause-register g c =
    (read_begun g.F.Flash.fault_model (g.F.Flash.state c.args.flash.now) (sizes_of c.args.bus.now) c.args.bus.now c.send.new.bus c.send_column.new.bus c.send_row.new.bus c.send-2.new.bus
    c.args.page refl (c.send_row.ensures.sizes ∙ c.send_column.ensures.sizes ∙ c.send.ensures.sizes) c.requires.idle c.send.ensures.follows c.send_column.ensures.phase
    c.send_row.ensures.phase c.send-2.ensures.follows).1
