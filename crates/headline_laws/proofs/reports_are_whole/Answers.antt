use Rattle.headline_laws.proofs.Reports.{legal_reported, one_report, replay_reported}
use Rattle.headline_laws.proofs.reports_are_whole.Goals as goal

pub returns-clause-replay : goal.returns-clause-replay
returns-clause-replay c = replay_reported

pub returns-clause-legal : goal.returns-clause-legal
returns-clause-legal c = legal_reported

pub returns-clause-one : goal.returns-clause-one
returns-clause-one c = one_report
