-- Lines added to a boot or a session.
use Rattle.std.specs.Prelude.{ℕ, List, [], ◌∷◌, ◌++◌}
use Rattle.plan_grammar.specs.declared.lines.BootLines.{BootLines}
use Rattle.plan_grammar.specs.declared.lines.FaultLine.{FaultLine}
use Rattle.plan_grammar.specs.declared.lines.SessionLines.{SessionLines}
use Rattle.plan_grammar.specs.declared.lines.CommandLine.{CommandLine}
use Rattle.plan_grammar.specs.Rules.{with_last}

-- the boot with one more fault
abbrev pub with_fault_line : FaultLine → BootLines → BootLines
with_fault_line fault boot = record boot { faults = boot.faults ++ fault ∷ [] }

-- the boot with one more session
abbrev pub with_session_line : SessionLines → BootLines → BootLines
with_session_line session boot = record boot { sessions = boot.sessions ++ session ∷ [] }

-- the boot with this schedule
abbrev pub with_schedule_line : List ℕ → BootLines → BootLines
with_schedule_line schedule boot = record boot { schedule = schedule }

-- the session with one more command
abbrev pub with_command_line : CommandLine → SessionLines → SessionLines
with_command_line command session = record session { commands = session.commands ++ command ∷ [] }

-- the boot with one more command in its last session
abbrev pub with_boot_command : CommandLine → BootLines → BootLines
with_boot_command command boot = record boot { sessions = with_last (with_command_line command) boot.sessions }
