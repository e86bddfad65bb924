use Rattle.report_model.specs.Report.{note_text}
use Rattle.report_model.proofs.Printed.{one_printed}
use Rattle.report_text.proofs.notes.put_notes.Goals as goal

pub loop-n-preserved : goal.loop-n-preserved
loop-n-preserved c =
    one_printed (note_text c.args.controller) c.loop-n.out c.put_note.new.out c.args.out.now c.args.notes.now.notes c.loop-n.n c.get.result.now
    c.get.ensures c.in_ok-put_note.ensures c.loop-n.invariant
