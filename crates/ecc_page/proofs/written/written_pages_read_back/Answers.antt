use Rattle.ecc_page.proofs.WrittenLemmas.{gives_back}
use Rattle.ecc_page.proofs.written.written_pages_read_back.Goals as goal

pub returns : goal.returns
returns c g body free cells lb lf lc bytes near = gives_back g body free cells lb lf lc bytes near
