use Rattle.std.proofs.Common.{◌-◌, length, ap, ◌∙◌}
use Rattle.std.specs.Prelude.{slice_set}
use Rattle.std.proofs.lemmas.Result.{on_ok_weaker}
use Rattle.plan_grammar.specs.Rules.{with_last}
use Rattle.plan_index.specs.Chip.{with_detail_line}
use Rattle.plan_index.proofs.LastItems.{last_set}
use Rattle.plan_index.proofs.grow.add_controller_detail.Goals as goal

pub returns-in-Some : goal.returns-in-Some
returns-in-Some c = on_ok_weaker c.add_list_detail.result (λ done. ap (slice_set c.args.controllers.now (length c.args.controllers.now - 1)) done
    ∙ last_set (with_last (with_detail_line c.args.detail)) c.args.controllers.now c.in-Some.chips.now c.in-Some.ensures.item.1) c.add_list_detail.ensures
