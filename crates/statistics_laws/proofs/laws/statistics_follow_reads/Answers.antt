use Rattle.statistics_laws.proofs.Follows.{statistics_follow}
use Rattle.statistics_laws.proofs.laws.statistics_follow_reads.Goals as goal

pub returns : goal.returns
returns g c model boot starts attaches turns numbers dev once = statistics_follow model boot starts attaches turns numbers once dev
