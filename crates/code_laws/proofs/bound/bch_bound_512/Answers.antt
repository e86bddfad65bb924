use Rattle.code_model.specs.Code.{code_512}
use Rattle.code_model.proofs.NearestLemmas.{near_code_words-equal, code_512-bch}
use Rattle.code_laws.proofs.bound.bch_bound_512.Goals as goal

pub returns : goal.returns
returns c t w v u small long first near second near' = near_code_words-equal (code_512 t) (code_512-bch t small) w v u long first second near near'
