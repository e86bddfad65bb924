-- A controller's part of a boot, as it is put together from the lines of a plan.
use Rattle.std.specs.Prelude.{ℕ, ◌<◌, List, ◌++◌, map, flat_map, sum_by, take, All, Option}
use Rattle.nand_model.specs.Partitions.{Partitions, LiesWithin}
use Rattle.nand_model.specs.declared.words.Command.{Command}
use Rattle.nand_model.specs.declared.words.CutAt.{CutAt}
use Rattle.nand_model.specs.declared.words.Flip.{Flip}
use Rattle.nand_model.specs.declared.words.Part.{Part}
use Rattle.command_model.specs.Boot.{Boot}
use Rattle.fault_plan.specs.BootFaults.{BootFaults}
use Rattle.plan_model.specs.Plan.{PartPlan, first_of, items_of, part_count, parts_from, sessions_from}
use Rattle.plan_grammar.specs.declared.lines.PlanLines.{PlanLines}
use Rattle.plan_grammar.specs.declared.lines.ChipLines.{ChipLines}
use Rattle.plan_grammar.specs.declared.lines.PartLine.{PartLine}
use Rattle.plan_grammar.specs.declared.lines.FaultLine.{FaultLine}
use Rattle.plan_grammar.specs.declared.lines.SessionLines.{SessionLines}
use Rattle.plan_grammar.specs.Meaning.{chip_plan, cuts_in, flips_in, session_plan}
use Rattle.plan_text.specs.Plan.{HasSmallDevice}

-- the partitions of these lines, on the chip of this number
abbrev pub placed : ℕ → List PartLine → List Part
placed k parts =
    map (λ (p : PartPlan). record { chip = k; start = p.start; count = p.count })
    (map (λ (part : PartLine). record { start = part.start; count = part.count }) parts)

-- the partitions of these chips, numbered from 0
abbrev pub parts_of : List ChipLines → List Part
parts_of chips = parts_from 0 (map chip_plan chips)

-- how many they are
abbrev pub devices_on : List ChipLines → ℕ
devices_on chips = part_count (map chip_plan chips)

-- how many devices the controllers before this one have
abbrev pub devices_before : ℕ → List (List ChipLines) → ℕ
devices_before c controllers = sum_by part_count (take c (map (map chip_plan) controllers))

-- partitions with these behind them
abbrev pub with_parts : Partitions → List Part → Partitions
with_parts partitions parts = record partitions { parts = partitions.parts ++ parts }

-- each partition of a chip has a block, and all of its blocks are the chip's
abbrev pub HasPartsWithin : ChipLines → Type 0
HasPartsWithin chip =
    All (λ (p : PartLine). LiesWithin chip.geometry.blocks (record { chip = 0; start = p.start; count = p.count }))
    chip.parts

-- the flips of a controller among these lines
abbrev pub flips_for : ℕ → List FaultLine → List Flip
flips_for c faults = items_of c (flat_map flips_in faults)

-- the cut of a controller among these lines: the first one
abbrev pub cut_for : ℕ → List FaultLine → Option CutAt
cut_for c faults = first_of (items_of c (flat_map cuts_in faults))

-- the faults of a controller among these lines
abbrev pub faults_for : ℕ → List FaultLine → BootFaults
faults_for c faults = record { flips = flips_for c faults; cut = cut_for c faults }

-- the sessions of a controller among these lines, the first of which has this number
abbrev pub sessions_for : PlanLines → (controller first : ℕ) → List SessionLines → List (ℕ × List Command)
sessions_for plan c n sessions = sessions_from c n (map (session_plan plan) sessions)

-- a boot with these sessions behind its own
abbrev pub with_sessions : Boot → List (ℕ × List Command) → Boot
with_sessions boot sessions = record boot { sessions = boot.sessions ++ sessions }

-- the commands of a session have devices of 32 bits
abbrev pub AreSmall : SessionLines → Type 0
AreSmall session = All HasSmallDevice session.commands

-- the sessions have numbers below this one
abbrev pub AreBelow : ℕ → List (ℕ × List Command) → Type 0
AreBelow n sessions = All (λ (session : ℕ × List Command). session.0 < n) sessions
