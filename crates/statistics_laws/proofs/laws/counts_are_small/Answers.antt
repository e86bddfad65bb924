use Rattle.statistics_laws.proofs.Courses.{counts_small}
use Rattle.statistics_laws.proofs.laws.counts_are_small.Goals as goal

pub returns : goal.returns
returns g c model boot starts attaches turns = counts_small model boot starts attaches turns
