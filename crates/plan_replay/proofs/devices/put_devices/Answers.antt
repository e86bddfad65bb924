use Rattle.report_model.proofs.Printed.{one_printed}
use Rattle.plan_replay.specs.Ends.{device_text}
use Rattle.plan_replay.proofs.devices.put_devices.Goals as goal

pub loop-n-preserved : goal.loop-n-preserved
loop-n-preserved c =
    one_printed device_text c.loop-n.out c.put_device.new.out _ c.args.stats.now c.loop-n.n c.get-device.result.now
    c.get-device.ensures c.in_ok-put_device.ensures c.loop-n.invariant
