-- The rules of a command by what is kept of its device and its data.
use Rattle.std.specs.Prelude.{◌≡◌, ℕ, ◌+◌, ◌%◌, Bool, ◌&&◌, ◌||◌, ◌==◌, nat_lt, nat_le, length, Option, Some, None, Result, Ok}
use Rattle.std.specs.Option.{option_map}
use Rattle.command_model.specs.Command.{unit_size, block_size, device_bytes}
use Rattle.plan_grammar.specs.declared.kind.PlanKind.{PlanKind}
use Rattle.plan_grammar.specs.declared.kind.PlanKind.TheVariants.{UnknownName, NotMultiple, OutOfChip, TooLarge}
use Rattle.plan_grammar.specs.declared.lines.PlanLines.{PlanLines}
use Rattle.plan_grammar.specs.declared.lines.BootLines.{BootLines}
use Rattle.plan_grammar.specs.declared.lines.SessionLines.{SessionLines}
use Rattle.plan_grammar.specs.declared.lines.CommandLine.{CommandLine}
use Rattle.plan_grammar.specs.declared.lines.CommandLine.TheVariants.{FlashErase, NandWrite, NandDump, NandTest, MarkBad, IsBad, Stats}
use Rattle.plan_grammar.specs.Limits.{most_operations}
use Rattle.plan_grammar.specs.Rules.{◌>>=◌, rule, there, last_of}
use Rattle.plan_grammar.specs.Devices.{Device, device_at, data_named, data_length}
use Rattle.plan_grammar.specs.Costs.{device_in, plan_cost}
use Rattle.plan_grammar.specs.Commands.{device_of, device_rules, range_rules, with_command}
use Rattle.plan_index.specs.declared.device.DeviceSize.{DeviceSize}
use Rattle.plan_index.specs.Devices.{size_of}

-- how many bytes the data are that a nandwrite names, where they are there
abbrev pub named_length : PlanLines → CommandLine → Option ℕ
named_length plan (NandWrite dev mark raw oob pad off name) = option_map data_length (data_named plan name)
named_length plan _ = None

-- the rules of a nandwrite on a device of this size, of data of so many bytes
unfoldable pub write_rules_on : DeviceSize → (oob pad : Bool) (off : ℕ) (len : Option ℕ) → Result (Unit {0}) PlanKind
write_rules_on size oob pad off len = do
  bytes ← there len UnknownName
  _ ← rule (off % size.geometry.page == 0 && (pad || bytes % unit_size size.geometry oob == 0)) NotMultiple
  rule (nat_lt off (device_bytes size.geometry size.blocks)) OutOfChip

-- the rules of a command on a device of this size
abbrev pub rules_on : DeviceSize → Option ℕ → CommandLine → Result (Unit {0}) PlanKind
rules_on size len (FlashErase dev no_scan start count) =
    rule (nat_lt start size.blocks && nat_le (start + count) size.blocks) OutOfChip
rules_on size len (NandWrite dev mark raw oob pad off name) = write_rules_on size oob pad off len
rules_on size len (NandDump dev off bytes raw oob bad) =
    range_rules size.geometry.page (device_bytes size.geometry size.blocks) off bytes
rules_on size len (NandTest dev keep mark seed passes off bytes) =
    range_rules (block_size size.geometry) (device_bytes size.geometry size.blocks) off bytes
rules_on size len (MarkBad dev block) = Ok tt
rules_on size len (IsBad dev block) = Ok tt
rules_on size len (Stats dev) = Ok tt

-- a device of this controller and its size
pub record IsDevice (plan : PlanLines) (controller dev : ℕ) (size : DeviceSize) : Type 0 where
  pub device : Device
  pub device_is : device_at plan dev ≡ Some device
  pub size_is : size_of device ≡ size
  pub found : device_of plan controller dev ≡ Ok device

-- the last boot has so many sessions, and one at least
pub record HasSession (plan : PlanLines) (sessions : ℕ) : Type 0 where
  pub boot : BootLines
  pub boot_is : last_of plan.boots ≡ Some boot
  pub session : SessionLines
  pub session_is : last_of boot.sessions ≡ Some session
  pub count_is : length boot.sessions ≡ sessions

-- the rules of a command of a session on this controller, and the plan with it
abbrev pub command_rules : PlanLines → ℕ → CommandLine → Result PlanLines PlanKind
command_rules plan controller command = do
  device ← device_of plan controller (device_in command)
  _ ← device_rules plan device command
  _ ← rule (nat_le (plan_cost (with_command command plan)) most_operations) TooLarge
  Ok (with_command command plan)
