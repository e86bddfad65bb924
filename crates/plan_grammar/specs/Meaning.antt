-- The plan that the lines stand for: controllers with chips, and boots with their commands.
use Rattle.std.specs.Prelude.{ℕ, List, [], ◌∷◌, map, flat_map, Option, Some, None}
use Rattle.nand_model.specs.declared.words.Flip.{Flip}
use Rattle.nand_model.specs.declared.words.CutAt.{CutAt}
use Rattle.nand_model.specs.declared.words.Command.{Command}
use Rattle.plan_model.specs.Plan.{PlanData, ChipPlan, BootPlan, SessionPlan}
use Rattle.plan_grammar.specs.declared.lines.PlanLines.{PlanLines}
use Rattle.plan_grammar.specs.declared.lines.ChipLines.{ChipLines}
use Rattle.plan_grammar.specs.declared.lines.PartLine.{PartLine}
use Rattle.plan_grammar.specs.declared.lines.BootLines.{BootLines}
use Rattle.plan_grammar.specs.declared.lines.SessionLines.{SessionLines}
use Rattle.plan_grammar.specs.declared.lines.CommandLine.{CommandLine}
use Rattle.plan_grammar.specs.declared.lines.FaultLine.{FaultLine}
use Rattle.plan_grammar.specs.declared.lines.FaultLine.TheVariants.{Flip as FlipOf, Cut as CutOf}
use Rattle.plan_grammar.specs.Devices.{Device, bad_blocks, weak_places, device_at}
use Rattle.plan_grammar.specs.Costs.{command_on, device_in}

-- a chip of the plan
abbrev pub chip_plan : ChipLines → ChipPlan
chip_plan chip =
    record {
      geometry = chip.geometry;
      bad = bad_blocks chip;
      weak = weak_places chip;
      parts = map (λ (part : PartLine). record { start = part.start; count = part.count }) chip.parts;
    }

-- the flip of a line
abbrev pub flips_in : FaultLine → List (ℕ × Flip)
flips_in (FlipOf controller flip) = (controller, flip) ∷ []
flips_in (CutOf controller cut) = []

-- the cut of a line
abbrev pub cuts_in : FaultLine → List (ℕ × CutAt)
cuts_in (FlipOf controller flip) = []
cuts_in (CutOf controller cut) = (controller, cut) ∷ []

-- the blocks of a device
abbrev pub blocks_of : Option Device → ℕ
blocks_of None = 0
blocks_of (Some device) = device.part.count

-- the command of a line
abbrev pub command_of : PlanLines → CommandLine → Command
command_of plan command = command_on plan (blocks_of (device_at plan (device_in command))) command

-- a session of the plan
abbrev pub session_plan : PlanLines → SessionLines → SessionPlan
session_plan plan session = record {
  controller = session.controller;
  commands = map
      (command_of plan) session.commands;
}

-- a boot of the plan
abbrev pub boot_plan : PlanLines → BootLines → BootPlan
boot_plan plan boot =
    record {
      flips = flat_map flips_in boot.faults;
      cuts = flat_map cuts_in boot.faults;
      sessions = map (session_plan plan) boot.sessions;
      schedule = boot.schedule;
    }

-- the plan
abbrev pub plan_of : PlanLines → PlanData
plan_of plan = record { controllers = map (map chip_plan) plan.controllers; boots = map (boot_plan plan) plan.boots }
