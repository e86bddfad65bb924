use Rattle.std.proofs.Common.{◌≡◌, ◌∙◌, ◌*◌, ◌-◌, ◌<◌, ap, arith, length}
use Rattle.std.proofs.lemmas.List.{length-drop, length-take}
use Rattle.report_text.proofs.RowSteps.{runs_printed, some_from}
use Rattle.report_text.proofs.rows.put_rows.Goals as goal

pub loop-rest-smaller : goal.loop-rest-smaller
loop-rest-smaller c =
    let later : length c.split_row.result.1.now ≡ length c.loop-rest.rest.now - 32 = ap length c.split_row.ensures.later
    ∙ length-drop 32 c.loop-rest.rest.now in
    let skipped : length c.skip_rows-rest.result.now ≡ length c.split_row.result.1.now - 32 * c.leading_rows-more.result = ap length c.skip_rows-rest.ensures
    ∙ length-drop (32 * c.leading_rows-more.result) c.split_row.result.1.now in
    let some = some_from c.is_empty.result (length c.loop-rest.rest.now) c.is_empty.ensures c.loop-rest-test.true in
    let smaller : length c.skip_rows-rest.result.now < length c.loop-rest.rest.now = omega (arith, later, skipped, some) in smaller

pub loop-rest-preserved : goal.loop-rest-preserved
loop-rest-preserved c =
    let few = c.leading_rows-more.ensures.few in
    let later : length c.split_row.result.1.now ≡ length c.loop-rest.rest.now - 32 = ap length c.split_row.ensures.later
    ∙ length-drop 32 c.loop-rest.rest.now in
    let skipped : length c.skip_rows-rest.result.now ≡ length c.split_row.result.1.now - 32 * c.leading_rows-more.result = ap length c.skip_rows-rest.ensures
    ∙ length-drop (32 * c.leading_rows-more.result) c.split_row.result.1.now in
    let inv = c.loop-rest.invariant in
    let some = some_from c.is_empty.result (length c.loop-rest.rest.now) c.is_empty.ensures c.loop-rest-test.true in
    let exact = inv.1 some in (
      runs_printed c.loop-rest.out c.put_run.new.out _ c.loop-rest.at c.leading_rows-more.result c.loop-rest.rest.now c.split_row.result.0.now
          c.split_row.result.1.now c.skip_rows-rest.result.now
          some c.split_row.ensures.row c.split_row.ensures.later c.leading_rows-more.ensures.rows c.skip_rows-rest.ensures c.in_ok-put_run.ensures inv.0,
      (λ left. omega (arith, later, skipped, exact, left)),
      omega (arith, later, few, exact, some),
    )

pub put_run-requires-clause-row : goal.put_run-requires-clause-row
put_run-requires-clause-row c =
    let row = ap length c.split_row.ensures.row in
    omega (arith, row, length-take 32 c.loop-rest.rest.now)
