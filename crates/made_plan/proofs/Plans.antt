-- The plan of a number while its lines are added: its hardware, and its boots.
use Rattle.std.proofs.Common.{◌≡◌, ℕ, ◌*◌, ◌/◌, ◌%◌, true, List, [], length, refl}
use Rattle.plan_grammar.specs.declared.lines.PlanLines.{PlanLines}
use Rattle.plan_grammar.specs.declared.lines.ChipLines.{ChipLines}
use Rattle.plan_grammar.specs.declared.lines.BootLines.{BootLines}
use Rattle.plan_grammar.specs.declared.lines.FaultLine.{FaultLine}
use Rattle.plan_grammar.specs.declared.lines.SessionLines.{SessionLines}
use Rattle.plan_grammar.specs.declared.lines.CommandLine.{CommandLine}
use Rattle.plan_grammar.specs.Devices.{Device}
use Rattle.plan_grammar.specs.Hardware.{has_chip}
use Rattle.made_plan.specs.Made.{made_chip, made_controllers, made_payloads}

-- the plan of these chips without data and boots
abbrev pub hardware_of : List (List ChipLines) → PlanLines
hardware_of controllers = record { begun = true; controllers = controllers; payloads = []; boots = [] }

-- the plan with all chips and data, and these boots
abbrev pub whole : ℕ → List BootLines → PlanLines
whole n boots = record { begun = true; controllers = made_controllers; payloads = made_payloads n; boots = boots }

-- a boot without schedule
abbrev pub boot_of : List FaultLine → List SessionLines → BootLines
boot_of faults sessions = record { faults = faults; sessions = sessions; schedule = [] }

-- a session
abbrev pub session_of : ℕ → List CommandLine → SessionLines
session_of controller commands = record { controller = controller; commands = commands }

-- device J: every chip has two
abbrev pub made_device : ℕ → Device
made_device j = record { controller = j / 8; chip = made_chip; part = record { start = 14 * (j % 2); count = 14 } }

pub two_controllers : length made_controllers ≡ 2
unfolding made_controllers
two_controllers = refl

pub some_chip : (n : ℕ) (boots : List BootLines) → has_chip (whole n boots) ≡ true
unfolding made_controllers
some_chip n boots = refl
