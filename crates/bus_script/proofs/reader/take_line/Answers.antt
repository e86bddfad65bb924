use Rattle.bus_script.proofs.Lines.{breaks_long}
use Rattle.bus_script.proofs.reader.take_line.Goals as goal

pub returns-in_default : goal.returns-in_default
returns-in_default c = breaks_long c.args.script c.args.bytes.now c.in_default.ensures
