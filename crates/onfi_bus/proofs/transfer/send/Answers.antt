use Rattle.std.proofs.Common.{◌≡◌}
use Rattle.onfi_bus.specs.Device.{after_act}
use Rattle.onfi_bus.specs.State.{device_of, move_of, phase_of}
use Rattle.onfi_bus.specs.declared.phase.Act.{Act}
use Rattle.onfi_bus.specs.declared.phase.Phase.{Phase}
use Rattle.onfi_bus.proofs.Sending.{at_some}
use Rattle.onfi_bus.proofs.transfer.send.Goals as goal

pub returns-clause-follows : goal.returns-clause-follows
returns-clause-follows g c = λ next act move.
    let chip = g.F.Flash.state c.args.flash.now in (
      at_some (λ (m : Phase × Act). phase_of c.step_read.new.self ≡ m.0) (move_of c.args.bus.now c.args.cycle) (next, act) move c.step_read.ensures.phase,
      at_some (λ (m : Phase × Act). device_of chip c.step_read.new.self ≡ after_act g.F.Flash.fault_model (device_of chip c.args.bus.now) m.1)
          (move_of c.args.bus.now c.args.cycle) (next, act) move c.step_read.ensures.device,
    )
