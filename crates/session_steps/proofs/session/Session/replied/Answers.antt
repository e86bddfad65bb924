use Rattle.session_steps.proofs.Mirrors.{mirrors_reply}
use Rattle.session_steps.proofs.session.Session.replied.Goals as goal

pub returns : goal.returns
returns c sizes commands notes later run session reply mirrors waits there = mirrors_reply sizes commands notes later c.args.self.now run session reply
    c.args.at mirrors waits there
