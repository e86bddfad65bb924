-- Which marks say that they have begun.
use Rattle.crash_laws.proofs.Begun.{marks_say}
use Rattle.crash_laws.proofs.marks_say_whether_they_began.Goals as goal

pub returns : goal.returns
returns c = marks_say
