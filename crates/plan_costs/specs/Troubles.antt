-- What the pages of nandwrites that may fail cost, device by device.
use Rattle.std.specs.Prelude.{ℕ, ◌+◌, ◌*◌, ◌==◌, if◌then◌else◌, List, [], ◌∷◌, ◌++◌, sum_by, flat_map, Option, Some, None}
use Rattle.command_model.specs.Command.{cost_of}
use Rattle.plan_grammar.specs.declared.lines.PlanLines.{PlanLines}
use Rattle.plan_grammar.specs.declared.lines.SessionLines.{SessionLines}
use Rattle.plan_grammar.specs.declared.lines.CommandLine.{CommandLine}
use Rattle.plan_grammar.specs.declared.lines.CommandLine.TheVariants.{NandWrite}
use Rattle.plan_grammar.specs.Devices.{Device, device_at}
use Rattle.plan_grammar.specs.Costs.{command_on, device_in, weak_for}

-- the offset of a nandwrite on this device
abbrev pub offset_on : ℕ → CommandLine → List ℕ
offset_on dev (NandWrite d mark raw oob pad off name) = if d == dev then off ∷ [] else []
offset_on dev _ = []

-- the offsets of the nandwrites on this device
abbrev pub offsets_on : ℕ → List CommandLine → List ℕ
offsets_on dev commands = flat_map (offset_on dev) commands

-- what the pages that may fail cost, of nandwrites at these offsets of a device beside these other
-- sessions
abbrev pub trouble_cost : Device → ℕ → List SessionLines → List ℕ → ℕ
trouble_cost device dev others offsets =
    sum_by (λ off. (device.chip.geometry.pages_per_block + 2) * weak_for device dev off others) offsets

-- the same of sessions, of which some stand before them
abbrev pub troubles_cost : Device → ℕ → (before sessions : List SessionLines) → ℕ
troubles_cost device dev before [] = 0
troubles_cost device dev before (session ∷ later) =
    trouble_cost device dev (before ++ later) (offsets_on dev session.commands)
    + troubles_cost device dev (before ++ session ∷ []) later

-- what a command costs on a device that may be there, where no page fails
abbrev pub base_on : PlanLines → CommandLine → Option Device → ℕ
base_on plan command None = 0
base_on plan command (Some device) =
    cost_of device.chip.geometry (command_on plan device.part.count command) 0

-- what a command costs where no page fails
abbrev pub base_cost : PlanLines → CommandLine → ℕ
base_cost plan command = base_on plan command (device_at plan (device_in command))
