-- What the calls of a plan tell of it as data.
use Rattle.std.specs.Prelude.{◌≡◌, ℕ, Bool, true, false, ◌^◌, ◌<◌, List, [], length, map, slice_get, slice_index_or, sum_by, count_by, Option, Some, None, All}
use Rattle.nand_model.specs.declared.words.Command.{Command}
use Rattle.nand_model.specs.declared.words.Weak.{Weak}
use Rattle.nand_model.specs.declared.words.WeakKind.{WeakKind}
use Rattle.fault_plan.specs.WeakPlaces.{are_apart}
use Rattle.plan_model.specs.Plan.{PlanData, ChipPlan, BootPlan, SessionPlan}
use Rattle.plan_grammar.specs.declared.lines.PlanLines.{PlanLines}
use Rattle.plan_grammar.specs.declared.lines.ChipLines.{ChipLines}
use Rattle.plan_grammar.specs.declared.lines.BootLines.{BootLines}
use Rattle.plan_grammar.specs.declared.lines.SessionLines.{SessionLines}
use Rattle.plan_grammar.specs.declared.lines.CommandLine.{CommandLine}
use Rattle.plan_grammar.specs.Costs.{device_in}
use Rattle.plan_grammar.specs.Grammar.{IsPlan}
use Rattle.plan_grammar.specs.Devices.{bad_blocks, has_bus, is_same_kind, weak_places}
use Rattle.plan_grammar.specs.Faults.{chip_at}
use Rattle.plan_grammar.specs.Meaning.{command_of}
use Rattle.plan_laws.specs.Ready.{boot_at}

-- the flip lines of all boots
abbrev pub flip_count : PlanData → ℕ
flip_count plan = sum_by (λ (boot : BootPlan). length boot.flips) plan.boots

-- the cut lines of all boots
abbrev pub cut_count : PlanData → ℕ
cut_count plan = sum_by (λ (boot : BootPlan). length boot.cuts) plan.boots

-- the weak places of a kind of a chip
abbrev pub weak_on : WeakKind → ChipPlan → ℕ
weak_on kind chip = count_by (λ (w : Weak). is_same_kind w.kind kind) chip.weak

-- the weak places of a kind of all chips
abbrev pub weak_count : WeakKind → PlanData → ℕ
weak_count kind plan = sum_by (sum_by (weak_on kind)) plan.controllers

-- a session without commands of controller 0
abbrev pub no_session : SessionPlan
no_session = record { controller = 0; commands = [] }

-- the session of this number of a boot (one without commands, where there is none)
abbrev pub session_at : PlanData → (boot session : ℕ) → SessionPlan
session_at plan n s = slice_index_or (boot_at plan n).sessions s no_session

-- a command of a session, where there is one
abbrev pub command_at : PlanData → (boot session n : ℕ) → Option Command
command_at plan b s n = slice_get (session_at plan b s).commands n

-- the commands of a boot's sessions
abbrev pub session_commands : PlanLines → BootLines → List (List Command)
session_commands plan boot = map (λ (session : SessionLines). map (command_of plan) session.commands) boot.sessions

-- the commands of each session of each boot
abbrev pub all_commands : PlanLines → List (List (List Command))
all_commands plan = map (session_commands plan) plan.boots

-- the number of a command's device has 32 bits
abbrev pub HasSmallDevice : CommandLine → Type 0
HasSmallDevice line = device_in line < 2 ^ 32

-- those of a boot's commands
abbrev pub HaveSmallDevices : BootLines → Type 0
HaveSmallDevices boot = All (λ (session : SessionLines). All HasSmallDevice session.commands) boot.sessions

-- some bytes are the plan
abbrev pub IsOfBytes : PlanLines → Type 0
IsOfBytes plan = (bytes : List ℕ) × IsPlan bytes plan

-- what is kept of a plan that was read: its commands, beside its lines
pub record IsKept (plan : PlanLines) (commands : List (List (List Command))) : Type 0 where
  pub read : IsOfBytes plan
  pub commands_are : commands ≡ all_commands plan

-- a chip that may be there is behind a bus
abbrev pub is_behind_bus : Option ChipLines → Bool
is_behind_bus None = false
is_behind_bus (Some chip) = has_bus chip

-- chip K of controller C is behind a bus
abbrev pub on_bus : PlanLines → (controller chip : ℕ) → Bool
on_bus plan c k = is_behind_bus (chip_at plan (c, k))

-- a chip that can be made: its bad blocks are there, and no two of its weak places are the same
abbrev pub IsMadeChip : ChipLines → Type 0
IsMadeChip chip = All (λ block. block < chip.geometry.blocks) (bad_blocks chip)
    × (are_apart (weak_places chip) ≡ true)
