use Rattle.std.proofs.Common.{[]}
use Rattle.bus_script.specs.Answer.{event_line}
use Rattle.report_model.proofs.Printed.{one_printed}
use Rattle.bus_script.proofs.text.run_text.Goals as goal

pub loop-n-preserved : goal.loop-n-preserved
loop-n-preserved c =
    one_printed event_line c.loop-n.out c.put_event.new.out [] c.args.run.now.events c.loop-n.n c.get.result.now
    c.get.ensures c.in_ok-put_event.ensures c.loop-n.invariant
