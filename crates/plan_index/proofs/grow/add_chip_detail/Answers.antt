use Rattle.std.proofs.Common.{List, ◌-◌, length, ap, ◌∙◌}
use Rattle.std.specs.Prelude.{slice_set}
use Rattle.std.proofs.lemmas.Result.{on_ok_weaker}
use Rattle.plan_grammar.specs.declared.lines.DetailLine.{DetailLine}
use Rattle.plan_index.specs.Chip.{with_detail_line}
use Rattle.plan_index.proofs.LastItems.{last_set}
use Rattle.plan_index.proofs.grow.add_chip_detail.Goals as goal

pub returns-in-Some : goal.returns-in-Some
returns-in-Some c = on_ok_weaker c.append.result (λ done.
    ap (λ (ds : List DetailLine). slice_set c.args.chips.now (length c.args.chips.now - 1) (record c.in-Some.chip.now { details = ds })) done
    ∙ last_set (with_detail_line c.args.detail) c.args.chips.now c.in-Some.chip.now c.in-Some.ensures.item.1) c.append.ensures.ok
