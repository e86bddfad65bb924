use Rattle.code_model.proofs.NearestLemmas.{code_512-bch, code_1024-bch}
use Rattle.code_laws.proofs.bound.bch_codes.Goals as goal

pub returns-clause-small : goal.returns-clause-small
returns-clause-small c = code_512-bch

pub returns-clause-large : goal.returns-clause-large
returns-clause-large c = code_1024-bch
