use Rattle.turn_laws.proofs.Attaches.{attaches_few}
use Rattle.turn_laws.proofs.Bounds.{busy_few, events_few}
use Rattle.run_model.specs.Course.{course_after}
use Rattle.std.proofs.Common.{[]}
use Rattle.turn_laws.proofs.laws.courses_end.Goals as goal

pub returns-clause-turns : goal.returns-clause-turns
returns-clause-turns g c model boot starts attaches turns runs one = busy_few model boot starts attaches turns runs one

pub returns-clause-events : goal.returns-clause-events
returns-clause-events g c model boot starts attaches turns = events_few model boot starts turns (course_after model boot starts attaches [])

pub returns-clause-attaches : goal.returns-clause-attaches
returns-clause-attaches g c model boot starts attaches = attaches_few model boot starts attaches
