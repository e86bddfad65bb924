use Rattle.std.proofs.Common.{List, ◌-◌, length, ap, ◌∙◌}
use Rattle.std.specs.Prelude.{slice_set}
use Rattle.std.proofs.lemmas.Result.{on_ok_weaker}
use Rattle.plan_grammar.specs.declared.lines.SessionLines.{SessionLines}
use Rattle.plan_index.specs.Boots.{with_boot_command}
use Rattle.plan_index.proofs.LastItems.{last_set}
use Rattle.plan_index.proofs.grow.add_boot_command.Goals as goal

pub returns-in-Some : goal.returns-in-Some
returns-in-Some c = on_ok_weaker c.add_list_command.result (λ done.
    ap (λ (items : List SessionLines). slice_set c.args.boots.now (length c.args.boots.now - 1) (record c.in-Some.boot.now { sessions = items })) done
    ∙ last_set (with_boot_command c.args.command) c.args.boots.now c.in-Some.boot.now c.in-Some.ensures.item.1) c.add_list_command.ensures
