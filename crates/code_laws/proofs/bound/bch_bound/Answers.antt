use Rattle.code_model.proofs.NearestLemmas.{near_code_words-equal}
use Rattle.code_laws.proofs.bound.bch_bound.Goals as goal

pub returns : goal.returns
returns c code w v u bch long first near second near' = near_code_words-equal code bch w v u long first second near near'
