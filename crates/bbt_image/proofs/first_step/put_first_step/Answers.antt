use Rattle.std.proofs.Common.{◌+◌, replicate, ap, ◌∙◌, arith}
use Rattle.bbt_image.proofs.Alone.{alone_has}
use Rattle.bbt_image.proofs.Pages.{first_parity}
use Rattle.bbt_image.proofs.Parts.{overlaid}
use Rattle.bbt_image.proofs.first_step.put_first_step.Goals as goal

pub copy_part-requires-2-clause-within : goal.copy_part-requires-2-clause-within
copy_part-requires-2-clause-within c =
    let inside = first_parity c.args.g.now in
    let start = c.parity_start.ensures in
    let len = c.parity_len.ensures in
    let whole = c.requires.page in
    omega arith

pub returns-clause-step : goal.returns-clause-step
returns-clause-step c =
    let g = c.args.g.now in
    let image = c.args.image.now in
    let start = g.page + c.parity_start.result in
    let end = start + c.parity_len.result in
    alone_has g image c.fill.new.self c.copy_part-2.new.to start end c.requires.page
    (c.fill.ensures.after (λ y e. e) ∙ ap (λ n. replicate n 0xff) c.requires.room)
    (ap (λ n. g.page + n) c.parity_start.ensures) (ap (λ n. start + n) c.parity_len.ensures)
    (c.copy_part-2.ensures ∙ ap (λ xs. overlaid xs image start end) c.copy_part.ensures)
