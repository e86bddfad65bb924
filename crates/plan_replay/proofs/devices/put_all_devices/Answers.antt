use Rattle.report_model.proofs.Printed.{one_printed}
use Rattle.plan_replay.specs.Boots.{devices_text}
use Rattle.plan_replay.proofs.devices.put_all_devices.Goals as goal

pub loop-n-preserved : goal.loop-n-preserved
loop-n-preserved c =
    one_printed devices_text c.loop-n.out c.put_devices.new.out _ c.args.ends.now c.loop-n.n c.get-ended.result.now
    c.get-ended.ensures c.in_ok-put_devices.ensures c.loop-n.invariant
