use Rattle.headline_laws.proofs.Marks.{run_marks}
use Rattle.headline_laws.proofs.marks_are_kept.Goals as goal

pub returns : goal.returns
returns c = run_marks
