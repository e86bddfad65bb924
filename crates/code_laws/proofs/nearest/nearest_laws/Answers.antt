use Rattle.code_model.proofs.NearestLemmas.{nearest-decodes, decodes-nearest}
use Rattle.code_laws.proofs.nearest.nearest_laws.Goals as goal

pub returns-clause-decodes : goal.returns-clause-decodes
returns-clause-decodes c code w bch bits long = nearest-decodes code bch w bits long

pub returns-clause-only : goal.returns-clause-only
returns-clause-only c code w answer bch bits long decodes = decodes-nearest code bch w answer bits long decodes
