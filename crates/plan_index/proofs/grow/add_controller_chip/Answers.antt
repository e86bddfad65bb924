use Rattle.std.proofs.Common.{List, [], ◌∷◌, ◌++◌, ◌-◌, length, ap, ◌∙◌}
use Rattle.std.specs.Prelude.{slice_set}
use Rattle.std.proofs.lemmas.Result.{on_ok_weaker}
use Rattle.plan_grammar.specs.declared.lines.ChipLines.{ChipLines}
use Rattle.plan_index.proofs.LastItems.{last_set}
use Rattle.plan_index.proofs.grow.add_controller_chip.Goals as goal

pub returns-in-Some : goal.returns-in-Some
returns-in-Some c = on_ok_weaker c.append.result (λ done. ap (slice_set c.args.controllers.now (length c.args.controllers.now - 1)) done
    ∙ last_set (λ (chips : List ChipLines). chips ++ c.args.chip ∷ []) c.args.controllers.now c.in-Some.chips.now c.in-Some.ensures.item.1) c.append.ensures.ok
