use Rattle.read_laws.proofs.Writes.{done_write_fills}
use Rattle.read_laws.proofs.laws.done_writes_fill_pages.Goals as goal

pub returns : goal.returns
returns g c = done_write_fills
