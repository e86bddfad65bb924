use Rattle.std.proofs.Common.{◌≡◌, ◌≢◌, ◌∙◌, ◌-◌, ◌+◌, ◌<◌, ap, sym, suc, arith, length}
use Rattle.std.proofs.lemmas.List.{length-drop}
use Rattle.report_model.specs.Report.{rows_in}
use Rattle.report_model.proofs.RowLemmas.{leading}
use Rattle.report_text.proofs.RowSteps.{leading-next, leading-stop, leading-end, some_from, none_from, apart}
use Rattle.report_text.proofs.rows.leading_rows.Goals as goal

pub loop-rest-smaller : goal.loop-rest-smaller
loop-rest-smaller c =
    let later : length c.split_row.result.1.now ≡ length c.loop-rest.rest.now - 32 = ap length c.split_row.ensures.later
    ∙ length-drop 32 c.loop-rest.rest.now in
    let some = some_from c.is_empty.result (length c.loop-rest.rest.now) c.is_empty.ensures c.loop-rest-test.true in
    let smaller : length c.split_row.result.1.now < length c.loop-rest.rest.now = omega (arith, later, some) in smaller

pub loop-rest-preserved : goal.loop-rest-preserved
loop-rest-preserved c =
    let rest = c.loop-rest.rest.now in
    let later : length c.split_row.result.1.now ≡ length rest - 32 = ap length c.split_row.ensures.later ∙ length-drop 32 rest in
    let some = some_from c.is_empty.result (length rest) c.is_empty.ensures c.loop-rest-test.true in
    let inv = c.loop-rest.invariant in
    let exact = inv.1 some in
    let more = leading-next c.args.row.now rest c.split_row.result.0.now c.split_row.result.1.now some c.split_row.ensures.row c.split_row.ensures.later
    (c.is_same.ensures.0 c.if-not-is_same.false) in
    let one : c.loop-rest.count + suc (leading c.args.row.now (rows_in c.split_row.result.1.now))
    ≡ c.loop-rest.count + 1 + leading c.args.row.now (rows_in c.split_row.result.1.now) = omega arith in (
      inv.0 ∙ ap (λ n. c.loop-rest.count + n) more ∙ one,
      (λ left. omega (arith, later, exact, left)),
      omega (arith, later, exact, some),
    )

pub returns-after-loop-rest-clause-rows : goal.returns-after-loop-rest-clause-rows
returns-after-loop-rest-clause-rows c =
    let rest = c.loop-rest.rest.now in
    let none = none_from c.is_empty.result (length rest) c.is_empty.ensures c.loop-rest-test.false in
    let all : c.loop-rest.count ≡ c.loop-rest.count + 0 = omega arith in
    all ∙ sym (c.loop-rest.invariant.0 ∙ ap (λ n. c.loop-rest.count + n) (leading-end c.args.row.now rest none))

pub returns-then-not-is_same-clause-rows : goal.returns-then-not-is_same-clause-rows
returns-then-not-is_same-clause-rows c =
    let rest = c.loop-rest.rest.now in
    let some = some_from c.is_empty.result (length rest) c.is_empty.ensures c.loop-rest-test.true in
    let other : c.split_row.result.0.now ≢ c.args.row.now = (λ e. apart (sym c.if-not-is_same.true ∙ c.is_same.ensures.1 e)) in
    let all : c.loop-rest.count ≡ c.loop-rest.count + 0 = omega arith in
    all ∙ sym (c.loop-rest.invariant.0 ∙ ap (λ n. c.loop-rest.count + n)
    (leading-stop c.args.row.now rest c.split_row.result.0.now some c.split_row.ensures.row other))
