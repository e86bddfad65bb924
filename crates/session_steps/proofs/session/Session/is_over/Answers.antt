use Rattle.session_steps.proofs.Mirrors.{none_left}
use Rattle.session_steps.proofs.session.Session.is_over.Goals as goal

pub returns : goal.returns
returns c = none_left c.next_command.result _ c.is_none.result c.next_command.ensures c.is_none.ensures
