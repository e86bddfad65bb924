use Rattle.std.proofs.Common.{◌≡◌, ◌<◌, ◌*◌, ◌/◌, ◌%◌, ◌^◌, ◌∙◌, ap, arith}
use Rattle.code_model.specs.Binary.{remainder}
use Rattle.bch_quick.proofs.StepLemmas.{row_none, row_more, rows_all}
use Rattle.bch_quick.proofs.register.middle_sum.Goals as goal

pub loop-j-init : goal.loop-j-init
loop-j-init c = λ f rows. row_none 128 f c.args.top

pub loop-j-preserved : goal.loop-j-preserved
loop-j-preserved c = λ f rows.
    let j = c.loop-j.j in
    row_more 128 f c.args.top j c.loop-j.sum _ rows.low rows.high (c.loop-j.invariant f rows) (rows.rows j (c.args.top / 2 ^ (8 * j) % 256) (omega arith) (omega arith))

pub returns : goal.returns
returns c = λ f rows.
    let small : c.args.top < 2 ^ 32 = omega arith in
    let end : c.loop-j.j ≡ 4 = omega arith in
    c.loop-j.invariant f rows ∙ ap (λ j. remainder 128 f (c.args.top % 2 ^ (8 * j) * 2 ^ 128)) end
    ∙ rows_all 128 f c.args.top small
