use Rattle.code_model.proofs.NearestLemmas.{is_code_word-sound, is_code_word-complete}
use Rattle.code_laws.proofs.nearest.code_word_test.Goals as goal

pub returns : goal.returns
returns c code w bch = (is_code_word-sound code bch w, is_code_word-complete code bch w)
