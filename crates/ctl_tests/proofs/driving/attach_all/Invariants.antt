use Rattle.std.proofs.Common.{◌-◌}
use Rattle.turn_laws.specs.Laws.{events_of_attaches}
use Rattle.ctl_core.specs.Past.{starts_of}
use Rattle.ctl_tests.proofs.driving.attach_all.Given as goal

abbrev pub decreases-loop : goal.decreases-loop
decreases-loop g l = events_of_attaches (starts_of g.F.Flash.state l.core) - l.core.attaches
