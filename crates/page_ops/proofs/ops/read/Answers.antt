use Rattle.std.proofs.Common.{sym}
use Rattle.nand_model.specs.Page.{Decoding, decoded}
use Rattle.page_ops.proofs.ops.read.Goals as goal

pub returns-clause-kind : goal.returns-clause-kind
returns-clause-kind g c =
    let page : Decoding = decoded c.geometry-g.result c.read_page.new.out in
    rw (← c.geometry-g.ensures.sizes, ← c.read_page.ensures)
    (c.kind.ensures page (sym c.decode-read.ensures.failed) (sym c.decode-read.ensures.greatest))
