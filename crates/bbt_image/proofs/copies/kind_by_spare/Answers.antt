use Rattle.std.proofs.Common.{sym, ◌∙◌}
use Rattle.bbt_image.proofs.KindLemmas.{spare_failed}
use Rattle.bbt_image.proofs.copies.kind_by_spare.Goals as goal

pub returns-else-decode-eq0-clause-kind : goal.returns-else-decode-eq0-clause-kind
returns-else-decode-eq0-clause-kind g c =
    spare_failed c.args.g.now c.args.image.now c.in-Some.which c.requires.in_spare (sym c.in-Some.ensures)
    (λ e. c.if-decode-eq0.false (c.decode.ensures.failed ∙ e))
