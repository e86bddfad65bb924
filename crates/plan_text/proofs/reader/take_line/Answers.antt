use Rattle.plan_text.proofs.FirstLine.{breaks_long}
use Rattle.plan_text.proofs.reader.take_line.Goals as goal

pub returns-in_default : goal.returns-in_default
returns-in_default c = breaks_long c.args.draft c.args.bytes.now c.requires c.in_default.ensures
