-- A command's line by what is kept of its device and its data.
use Rattle.std.proofs.Common.{◌≡◌, ℕ, ◌≤◌, Bool, true, false, leb, List, length, map, Option, Some, None, Result, Ok, Err, refl, sym, ap, ◌∙◌, subst}
use Rattle.std.specs.Prelude.{unwrap_or}
use Rattle.plan_grammar.specs.declared.kind.PlanKind.{PlanKind}
use Rattle.plan_grammar.specs.declared.kind.PlanKind.TheVariants.{TooLarge}
use Rattle.plan_grammar.specs.declared.lines.PlanLines.{PlanLines}
use Rattle.plan_grammar.specs.declared.lines.CommandLine.{CommandLine}
use Rattle.plan_grammar.specs.Limits.{most_operations}
use Rattle.plan_grammar.specs.Rules.{◌>>=◌, rule}
use Rattle.plan_grammar.specs.Devices.{Device, device_at}
use Rattle.plan_grammar.specs.Costs.{device_in, plan_cost}
use Rattle.plan_grammar.specs.Commands.{device_of, device_rules, with_command}
use Rattle.plan_words.specs.declared.error.LineError.{LineError}
use Rattle.plan_words.specs.declared.error.LineError.TheVariants.{Broken, OutOfMemory}
use Rattle.plan_words.specs.Answer.{Answers}
use Rattle.plan_index.specs.declared.device.DeviceSize.{DeviceSize}
use Rattle.plan_index.specs.Devices.{size_of}
use Rattle.plan_costs.specs.declared.costs.CostIndex.{CostIndex}
use Rattle.plan_costs.specs.Costs.{IsNext, TakesCosts}
use Rattle.plan_store.specs.CommandRules.{HasSession, IsDevice, command_rules, named_length, rules_on}
use Rattle.plan_store.proofs.Named.{data_is, rules_same}

-- the rule of all commands' costs, and the plan
abbrev by_costs : PlanLines → CommandLine → Unit {0} → Result PlanLines PlanKind
by_costs plan command u =
    rule (leb (plan_cost (with_command command plan)) most_operations) TooLarge >>= λ (v : Unit {0}). Ok (with_command command plan)

-- a device that is not there
pub device_refused : (plan : PlanLines) (c : ℕ) (command : CommandLine) (kind : PlanKind) → device_of plan c (device_in command) ≡ Err kind →
    command_rules plan c command ≡ Err kind
device_refused plan c command kind e =
    ap (λ (r : Result Device PlanKind). r >>= λ (device : Device). device_rules plan device command >>= by_costs plan command) e

-- the rules of a device that is there
after_device : (plan : PlanLines) (c dev : ℕ) (command : CommandLine) (size : DeviceSize) (len : Option ℕ) → IsDevice plan c dev size →
    dev ≡ device_in command → len ≡ named_length plan command →
    command_rules plan c command ≡ (rules_on size len command >>= by_costs plan command)
after_device plan c dev command size len d at len_is =
    ap (λ (r : Result Device PlanKind). r >>= λ (device : Device). device_rules plan device command >>= by_costs plan command)
    (ap (device_of plan c) (sym at) ∙ d.found)
    ∙ ap (λ r. r >>= by_costs plan command) (rules_same plan d.device command)
    ∙ ap (λ (s : DeviceSize). rules_on s (named_length plan command) command >>= by_costs plan command) d.size_is
    ∙ ap (λ (o : Option ℕ). rules_on size o command >>= by_costs plan command) (sym len_is)

-- a command that breaks a rule of its device
pub rules_refused : (plan : PlanLines) (c dev : ℕ) (command : CommandLine) (size : DeviceSize) (len : Option ℕ) (kind : PlanKind) →
    IsDevice plan c dev size → dev ≡ device_in command → len ≡ named_length plan command → rules_on size len command ≡ Err kind →
    command_rules plan c command ≡ Err kind
rules_refused plan c dev command size len kind d at len_is broken =
    after_device plan c dev command size len d at len_is ∙ ap (λ r. r >>= by_costs plan command) broken

-- a command with which all take too many operations, or for which memory ran out
pub costs_refused : (plan : PlanLines) (c dev : ℕ) (command : CommandLine) (size : DeviceSize) (len : Option ℕ) (error : LineError) (u : Unit {0}) →
    IsDevice plan c dev size → dev ≡ device_in command → len ≡ named_length plan command → rules_on size len command ≡ Ok u →
    TakesCosts (Err error) (with_command command plan) → Answers {A = PlanLines} (Err error) (command_rules plan c command)
costs_refused plan c dev command size len (Broken kind) u d at len_is kept broken =
    after_device plan c dev command size len d at len_is ∙ ap (λ r. r >>= by_costs plan command) kept
    ∙ ap (λ (r : Result (Unit {0}) PlanKind). r >>= λ (v : Unit {0}). Ok (with_command command plan)) broken
costs_refused plan c dev command size len OutOfMemory u d at len_is kept broken = tt

-- a command that keeps all rules
pub command_taken : (plan : PlanLines) (c dev : ℕ) (command : CommandLine) (size : DeviceSize) (len : Option ℕ) (index : CostIndex) (u : Unit {0}) →
    IsDevice plan c dev size → dev ≡ device_in command → len ≡ named_length plan command → rules_on size len command ≡ Ok u →
    TakesCosts (Ok index) (with_command command plan) → command_rules plan c command ≡ Ok (with_command command plan)
command_taken plan c dev command size len index u d at len_is kept costs =
    after_device plan c dev command size len d at len_is ∙ ap (λ r. r >>= by_costs plan command) kept
    ∙ ap (λ (r : Result (Unit {0}) PlanKind). r >>= λ (v : Unit {0}). Ok (with_command command plan)) costs.0

-- what the costs of a command need
pub is_next : (plan : PlanLines) (c dev : ℕ) (command : CommandLine) (size : DeviceSize) (len : Option ℕ) (sessions : ℕ) →
    HasSession plan sessions → IsDevice plan c dev size → dev ≡ device_in command → len ≡ named_length plan command →
    (bytes : ℕ) → bytes ≡ unwrap_or len 0 → IsNext plan command size bytes sessions
is_next plan c dev command size len sessions s d at len_is bytes bytes_are = record {
  boot = s.boot;
  boot_is = s.boot_is;
  session = s.session;
  session_is = s.session_is;
  count_is = s.count_is;
  device = d.device;
  device_is = subst (λ k. device_at plan k ≡ Some d.device) at d.device_is;
  size_is = d.size_is;
  len_is = data_is plan command ∙ ap (λ o. unwrap_or o 0) (sym len_is) ∙ sym bytes_are;
}
