use Rattle.onfi_bus.proofs.Runs.{legal_or_not, one_meaning}
use Rattle.onfi_bus.proofs.laws.cycles_have_one_meaning.Goals as goal

pub returns-clause-one : goal.returns-clause-one
returns-clause-one c = λ g one other legal also e. one_meaning g one other legal also e

pub returns-clause-never_both : goal.returns-clause-never_both
returns-clause-never_both c = λ g cycles n legal first. legal_or_not g cycles n legal first
