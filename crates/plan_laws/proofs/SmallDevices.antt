-- The devices of a plan have small numbers.
use Rattle.std.proofs.Common.{◌≡◌, ℕ, ◌+◌, ◌^◌, ◌<◌, List, [], ◌∷◌, length, map, refl, arith, length-append}
use Rattle.std.specs.Prelude.{All, sum_by}
use Rattle.std.proofs.lemmas.List.Elements.{All-weaker}
use Rattle.std.proofs.lemmas.List.Sums.{sum_by-cons}
use Rattle.plan_model.specs.Plan.{part_count}
use Rattle.plan_grammar.specs.declared.lines.PlanLines.{PlanLines}
use Rattle.plan_grammar.specs.declared.lines.ChipLines.{ChipLines}
use Rattle.plan_grammar.specs.declared.lines.BootLines.{BootLines}
use Rattle.plan_grammar.specs.declared.lines.SessionLines.{SessionLines}
use Rattle.plan_grammar.specs.declared.lines.CommandLine.{CommandLine}
use Rattle.plan_grammar.specs.Devices.{devices_of_chips, devices_from, device_at}
use Rattle.plan_grammar.specs.Costs.{device_in}
use Rattle.plan_grammar.specs.Grammar.{IsPlan}
use Rattle.plan_grammar.specs.Meaning.{chip_plan}
use Rattle.plan_laws.proofs.Lists.{got_below}
use Rattle.plan_laws.proofs.Goods.{hardware_of, KeepsCommand, KeepsSession, KeepsBoot}
use Rattle.plan_laws.proofs.Places.{length-devices}
use Rattle.plan_laws.proofs.Limits.{plan_keeps, plan_few_lines, devices_lines}
use Rattle.plan_laws.proofs.Ready.{is_on_by}

length-all_devices : (first : ℕ) (controllers : List (List ChipLines)) →
    length (devices_from first controllers) ≡ sum_by part_count (map (map chip_plan) controllers)
length-all_devices first [] = refl
length-all_devices first (chips ∷ controllers) =
    omega (
      arith,
      length-append (devices_of_chips first chips) (devices_from (first + 1) controllers),
      length-devices first chips,
      length-all_devices (first + 1) controllers,
      sum_by-cons part_count (map chip_plan chips) (map (map chip_plan) controllers),
    )

abbrev pub IsSmallDevice : CommandLine → Type 0
IsSmallDevice command = device_in command < 2 ^ 32

small_device : (bytes : List ℕ) (plan : PlanLines) (c : ℕ) (command : CommandLine) → IsPlan bytes plan →
    KeepsCommand plan.controllers plan.payloads c command → IsSmallDevice command
small_device bytes plan c command h k =
    let on = is_on_by c (device_at (hardware_of plan.controllers plan.payloads) (device_in command)) k.device k.named in
    omega (
      arith,
      got_below (devices_from 0 plan.controllers) (device_in command) k.device on.found,
      length-all_devices 0 plan.controllers,
      devices_lines plan,
      plan_few_lines bytes plan h,
    )

-- the devices of all commands
pub small_devices : (bytes : List ℕ) (plan : PlanLines) → IsPlan bytes plan →
    All (λ (boot : BootLines). All (λ (session : SessionLines). All IsSmallDevice session.commands) boot.sessions) plan.boots
small_devices bytes plan h =
    All-weaker (KeepsBoot plan.controllers plan.payloads) (λ (boot : BootLines). All (λ (session : SessionLines). All IsSmallDevice session.commands) boot.sessions)
    (λ (boot : BootLines) keeps. All-weaker (KeepsSession plan.controllers plan.payloads) (λ (session : SessionLines). All IsSmallDevice session.commands)
    (λ (session : SessionLines) own. All-weaker (KeepsCommand plan.controllers plan.payloads session.controller) IsSmallDevice
    (λ (command : CommandLine) k. small_device bytes plan session.controller command h k) session.commands own.commands)
    boot.sessions keeps.sessions)
    plan.boots (plan_keeps bytes plan h).boots
