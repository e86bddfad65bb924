-- What is kept of all commands so far tells their costs.
use Rattle.std.specs.Prelude.{◌≡◌, ℕ, ◌≤◌, nat_le, List, [], length, Option, Some, None, Result, Ok, Err}
use Rattle.std.specs.Ordering.{nat_cmp}
use Rattle.std.specs.BTreeMap.{BTreeMap, get}
use Rattle.plan_grammar.specs.declared.kind.PlanKind.{PlanKind}
use Rattle.plan_grammar.specs.declared.kind.PlanKind.TheVariants.{TooLarge}
use Rattle.plan_grammar.specs.declared.lines.PlanLines.{PlanLines}
use Rattle.plan_grammar.specs.declared.lines.BootLines.{BootLines}
use Rattle.plan_grammar.specs.declared.lines.SessionLines.{SessionLines}
use Rattle.plan_grammar.specs.declared.lines.CommandLine.{CommandLine}
use Rattle.plan_grammar.specs.declared.lines.CommandLine.TheVariants.{NandWrite}
use Rattle.plan_grammar.specs.Limits.{most_operations}
use Rattle.plan_grammar.specs.Rules.{rule, last_of}
use Rattle.plan_grammar.specs.Devices.{Device, device_at, data_named}
use Rattle.plan_grammar.specs.Costs.{plan_cost, device_in, bytes_of}
use Rattle.plan_words.specs.declared.error.LineError.{LineError}
use Rattle.plan_words.specs.declared.error.LineError.TheVariants.{Broken, OutOfMemory}
use Rattle.plan_index.specs.declared.device.DeviceSize.{DeviceSize}
use Rattle.plan_index.specs.Devices.{size_of}
use Rattle.plan_costs.specs.declared.troubles.DeviceTroubles.{DeviceTroubles}
use Rattle.plan_costs.specs.declared.costs.CostIndex.{CostIndex}
use Rattle.plan_costs.specs.Kept.{Knows}

-- what is kept of the last boot, device by device; of no boot nothing is kept
abbrev pub KnowsBoot : PlanLines → Option BootLines → BTreeMap ℕ DeviceTroubles → Type 0
KnowsBoot plan None devices = devices.entries ≡ []
KnowsBoot plan (Some boot) devices = (dev : ℕ) (device : Device) → device_at plan dev ≡ Some device →
    Knows (size_of device) dev boot.sessions (get nat_cmp devices dev)

-- the cost of all commands, and what is kept of the last boot
pub record AreCosts (plan : PlanLines) (index : CostIndex) : Type 0 where
  pub cost_is : index.cost ≡ plan_cost plan
  pub few : index.cost ≤ most_operations
  pub boot : KnowsBoot plan (last_of plan.boots) index.devices

-- how many bytes of data a command writes
abbrev pub data_of : PlanLines → CommandLine → ℕ
data_of plan (NandWrite dev mark raw oob pad off name) = length (bytes_of (data_named plan name))
data_of plan _ = 0

-- a command for the last session of the last boot, which has so many, on a device of this size, with
-- data of so many bytes
pub record IsNext (plan : PlanLines) (command : CommandLine) (size : DeviceSize) (len sessions : ℕ) :
    Type 0 where
  pub boot : BootLines
  pub boot_is : last_of plan.boots ≡ Some boot
  pub session : SessionLines
  pub session_is : last_of boot.sessions ≡ Some session
  pub count_is : length boot.sessions ≡ sessions
  pub device : Device
  pub device_is : device_at plan (device_in command) ≡ Some device
  pub size_is : size_of device ≡ size
  pub len_is : data_of plan command ≡ len

-- the costs are kept where the plan takes no more operations than a plan may, and it is refused
-- otherwise, unless memory ran out
abbrev pub TakesCosts : Result CostIndex LineError → PlanLines → Type 0
TakesCosts (Ok index) plan =
    (rule (nat_le (plan_cost plan) most_operations) TooLarge ≡ Ok tt) × AreCosts plan index
TakesCosts (Err (Broken kind)) plan = rule (nat_le (plan_cost plan) most_operations) TooLarge ≡ Err kind
TakesCosts (Err OutOfMemory) plan = Unit {0}
