use Rattle.std.proofs.Common.{◌≡◌, ◌++◌, ◌∷◌, [], length, replicate, ap, ap₂, sym, ◌∙◌, arith}
use Rattle.nand_model.specs.Table.{padded, pattern, table_bytes}
use Rattle.bbt_image.proofs.Pages.{body-long, layout_in_body}
use Rattle.bbt_image.proofs.image.put.Goals as goal

pub put_body-requires : goal.put_body-requires
put_body-requires c =
    let room = body-long c.args.g.now in
    let front = c.split_at_mut-body.ensures.front_len in
    omega (arith, c.requires.blocks)

pub returns-else-g-eq1 : goal.returns-else-g-eq1
returns-else-g-eq1 c =
    let g = c.args.g.now in
    let front = c.split_at_mut-body.ensures.front_len in
    let back = c.split_at_mut-body.ensures.back_len in
    let whole = c.requires.whole in
    let spare : length c.split_at_mut-body.result.1.now ≡ g.spare = omega arith in
    let bytes = pattern c.args.which ++ (c.args.version ∷ []) ++ table_bytes c.args.table.now in
    ap₂ (λ xs ys. xs ++ ys) (c.put_body.ensures ∙ ap (λ n. padded n bytes) front)
    (c.fill.ensures.after (λ y e. e) ∙ ap (λ n. replicate n 0xff) spare)
    ∙ sym (layout_in_body g c.args.which c.args.version c.args.table.now c.if-g-eq1.false)
