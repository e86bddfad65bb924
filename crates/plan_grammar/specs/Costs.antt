-- How many operations the commands of a plan take at most.
use Rattle.std.specs.Prelude.{ℕ, ◌+◌, ◌-◌, ◌*◌, ◌/◌, Bool, false, ◌&&◌, ◌==◌, min, List, [], ◌∷◌, ◌++◌, sum_by, count_by, Option, Some, None}
use Rattle.nand_model.specs.declared.words.Command.{Command}
use Rattle.nand_model.specs.declared.words.Command.TheVariants.{FlashErase as Erase, NandWrite as Write, NandDump as Dump, NandTest as Test, MarkBad as Mark, IsBad as Ask, Stats as Count}
use Rattle.command_model.specs.Command.{cost_of, block_size}
use Rattle.plan_grammar.specs.declared.lines.PlanLines.{PlanLines}
use Rattle.plan_grammar.specs.declared.lines.BootLines.{BootLines}
use Rattle.plan_grammar.specs.declared.lines.SessionLines.{SessionLines}
use Rattle.plan_grammar.specs.declared.lines.DataLine.{DataLine}
use Rattle.plan_grammar.specs.declared.lines.CommandLine.{CommandLine}
use Rattle.plan_grammar.specs.declared.lines.CommandLine.TheVariants.{FlashErase, NandWrite, NandDump, NandTest, MarkBad, IsBad, Stats}
use Rattle.plan_grammar.specs.Devices.{Device, device_at, data_named, data_bytes, weak_programs}

-- the bytes of data that may be there
abbrev pub bytes_of : Option DataLine → List ℕ
bytes_of None = []
bytes_of (Some payload) = data_bytes payload

-- the command of a line on a device of so many blocks
abbrev pub command_on : PlanLines → ℕ → CommandLine → Command
command_on plan blocks (FlashErase dev no_scan start count) = Erase dev blocks no_scan start count
command_on plan blocks (NandWrite dev mark raw oob pad off name) = Write dev blocks mark raw oob pad off (bytes_of
    (data_named plan name))
command_on plan blocks (NandDump dev off len raw oob bad) = Dump dev blocks off len raw oob bad
command_on plan blocks (NandTest dev keep mark seed passes off len) = Test dev blocks keep mark seed passes off len
command_on plan blocks (MarkBad dev block) = Mark dev blocks block
command_on plan blocks (IsBad dev block) = Ask dev blocks block
command_on plan blocks (Stats dev) = Count dev blocks

-- a markbad of this device; a command with `-m` on it
abbrev pub marks_one : ℕ → CommandLine → Bool
marks_one dev (MarkBad d block) = d == dev
marks_one dev _ = false

-- a command with `-m` on this device
abbrev pub marks_many : ℕ → CommandLine → Bool
marks_many dev (NandWrite d mark raw oob pad off name) = mark && d == dev
marks_many dev (NandTest d keep mark seed passes off len) = mark && d == dev
marks_many dev _ = false

-- how many commands of these sessions pass a test
abbrev pub count_in : (CommandLine → Bool) → List SessionLines → ℕ
count_in test sessions = sum_by (λ (session : SessionLines). count_by test session.commands) sessions

-- how many written pages of a nandwrite may fail or be refused: its chip's weak pages, and the
-- blocks that other sessions of the boot may mark meanwhile, but at most one page for each block to
-- which it comes
abbrev pub weak_for : Device → ℕ → ℕ → List SessionLines → ℕ
weak_for device dev off others =
    min (device.part.count - off / block_size device.chip.geometry)
    (weak_programs device.chip + count_in (marks_one dev) others + count_in (marks_many dev) others * device.part.count)

-- the allowance of a command: only a nandwrite has one
abbrev pub allowance : Device → List SessionLines → CommandLine → ℕ
allowance device others (NandWrite dev mark raw oob pad off name) = weak_for device dev off others
allowance device others _ = 0

-- the cost of a command on a device that may be there
abbrev pub cost_on : PlanLines → List SessionLines → CommandLine → Option Device → ℕ
cost_on plan others command None = 0
cost_on plan others command (Some device) =
    cost_of device.chip.geometry (command_on plan device.part.count command) (allowance device others command)

-- the device that a command names
abbrev pub device_in : CommandLine → ℕ
device_in (FlashErase dev no_scan start count) = dev
device_in (NandWrite dev mark raw oob pad off name) = dev
device_in (NandDump dev off len raw oob bad) = dev
device_in (NandTest dev keep mark seed passes off len) = dev
device_in (MarkBad dev block) = dev
device_in (IsBad dev block) = dev
device_in (Stats dev) = dev

-- the cost of a command beside the other sessions of its boot
abbrev pub line_cost : PlanLines → List SessionLines → CommandLine → ℕ
line_cost plan others command = cost_on plan others command (device_at plan (device_in command))

-- the cost of sessions, of which some stand before them
abbrev pub sessions_cost : PlanLines → (before sessions : List SessionLines) → ℕ
sessions_cost plan before [] = 0
sessions_cost plan before (session ∷ later) =
    sum_by (line_cost plan (before ++ later)) session.commands + sessions_cost plan (before ++ session ∷ []) later

-- the cost of all commands of all boots
abbrev pub plan_cost : PlanLines → ℕ
plan_cost plan = sum_by (λ (boot : BootLines). sessions_cost plan [] boot.sessions) plan.boots
