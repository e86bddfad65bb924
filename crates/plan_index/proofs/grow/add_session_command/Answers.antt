use Rattle.std.proofs.Common.{List, ◌-◌, length, ap, ◌∙◌}
use Rattle.std.specs.Prelude.{slice_set}
use Rattle.std.proofs.lemmas.Result.{on_ok_weaker}
use Rattle.plan_grammar.specs.declared.lines.CommandLine.{CommandLine}
use Rattle.plan_index.specs.Boots.{with_command_line}
use Rattle.plan_index.proofs.LastItems.{last_set}
use Rattle.plan_index.proofs.grow.add_session_command.Goals as goal

pub returns-in-Some : goal.returns-in-Some
returns-in-Some c = on_ok_weaker c.append.result (λ done.
    ap (λ (items : List CommandLine). slice_set c.args.sessions.now (length c.args.sessions.now - 1) (record c.in-Some.session.now { commands = items })) done
    ∙ last_set (with_command_line c.args.command) c.args.sessions.now c.in-Some.session.now c.in-Some.ensures.item.1) c.append.ensures.ok
