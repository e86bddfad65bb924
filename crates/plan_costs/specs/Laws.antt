-- How the costs of a plan grow by a command.
use Rattle.std.specs.Prelude.{◌≡◌, ◌+◌, [], Some}
use Rattle.plan_grammar.specs.declared.lines.PlanLines.{PlanLines}
use Rattle.plan_grammar.specs.declared.lines.BootLines.{BootLines}
use Rattle.plan_grammar.specs.declared.lines.SessionLines.{SessionLines}
use Rattle.plan_grammar.specs.declared.lines.CommandLine.{CommandLine}
use Rattle.plan_grammar.specs.Rules.{last_of, with_last}
use Rattle.plan_grammar.specs.Devices.{Device, device_at}
use Rattle.plan_grammar.specs.Commands.{with_command}
use Rattle.plan_grammar.specs.Costs.{plan_cost, device_in}
use Rattle.plan_index.specs.Boots.{with_command_line}
use Rattle.plan_costs.specs.Troubles.{base_cost, troubles_cost}

-- with one more command the costs grow by what it costs where no page fails, and by the troubles of
-- the nandwrites of its boot on its device
abbrev pub CostsGrow : Type 0
CostsGrow =
    (plan : PlanLines) (boot : BootLines) (session : SessionLines) (command : CommandLine)
    (device : Device) → last_of plan.boots ≡ Some boot → last_of boot.sessions ≡ Some session →
    device_at plan (device_in command) ≡ Some device →
    plan_cost (with_command command plan) + troubles_cost device (device_in command) [] boot.sessions
    ≡ plan_cost plan + base_cost plan command
    + troubles_cost device (device_in command) []
    (with_last (with_command_line command) boot.sessions)
