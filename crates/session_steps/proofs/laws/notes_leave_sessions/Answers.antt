use Rattle.session_steps.proofs.Mirrors.{mirrors_later}
use Rattle.session_steps.proofs.laws.notes_leave_sessions.Goals as goal

pub returns : goal.returns
returns c = mirrors_later
