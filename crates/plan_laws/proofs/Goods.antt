-- What the lines of a plan keep: what they name is there, and no limit is passed.
use Rattle.std.proofs.Common.{◌≡◌, ◌∙◌, ℕ, ◌+◌, ◌≤◌, ◌<◌, true, false, ltb, List, [], ◌∷◌, ◌++◌, length, Option, Some, None, Ok, sym, ap, append_assoc}
use Rattle.std.specs.Prelude.{All, sum_by}
use Rattle.std.specs.List.{list_all, list_any}
use Rattle.std.proofs.lemmas.List.{append-nil}
use Rattle.nand_model.specs.declared.geometry.Geometry.{Geometry}
use Rattle.nand_model.specs.declared.words.Weak.{Weak}
use Rattle.nand_model.specs.declared.words.Flip.{Flip as Turned}
use Rattle.command_model.specs.Command.{cost_of}
use Rattle.plan_grammar.specs.declared.lines.PlanLines.{PlanLines}
use Rattle.plan_grammar.specs.declared.lines.ChipLines.{ChipLines}
use Rattle.plan_grammar.specs.declared.lines.PartLine.{PartLine}
use Rattle.plan_grammar.specs.declared.lines.DataLine.{DataLine}
use Rattle.plan_grammar.specs.declared.lines.BootLines.{BootLines}
use Rattle.plan_grammar.specs.declared.lines.FaultLine.{FaultLine}
use Rattle.plan_grammar.specs.declared.lines.FaultLine.TheVariants.{Flip, Cut}
use Rattle.plan_grammar.specs.declared.lines.SessionLines.{SessionLines}
use Rattle.plan_grammar.specs.declared.lines.CommandLine.{CommandLine}
use Rattle.plan_grammar.specs.Limits.{most_controllers, most_chips, most_boots, most_flips, most_sessions, most_operations, most_data}
use Rattle.fault_plan.specs.WeakPlaces.{are_apart}
use Rattle.plan_grammar.specs.Devices.{Device, bad_blocks, weak_places, are_different, share_block, device_at, all_data}
use Rattle.plan_grammar.specs.Hardware.{leaves_table_blocks, place_count}
use Rattle.plan_grammar.specs.Faults.{flips_of, chip_at, has_bits}
use Rattle.plan_grammar.specs.Costs.{command_on, device_in}
use Rattle.plan_grammar.specs.Commands.{is_on, device_rules}
use Rattle.plan_laws.proofs.Commands.{HasFit}

-- controllers and data without boots
abbrev pub hardware_of : List (List ChipLines) → List DataLine → PlanLines
hardware_of controllers payloads = record { begun = true; controllers = controllers; payloads = payloads; boots = [] }

-- a partition has a block, and all of its blocks are the chip's
abbrev pub LiesOn : Geometry → PartLine → Type 0
LiesOn g part = (0 < part.count) × (part.start + part.count ≤ g.blocks)

-- none of these partitions shares a block with an earlier one
abbrev pub AreFree : (earlier parts : List PartLine) → Type 0
AreFree earlier [] = Unit {0}
AreFree earlier (part ∷ parts) = (list_any (share_block part) earlier ≡ false) × AreFree (earlier ++ part ∷ []) parts

pub free_push : (earlier parts : List PartLine) (part : PartLine) → AreFree earlier parts → list_any (share_block part) (earlier ++ parts) ≡ false →
    AreFree earlier (parts ++ part ∷ [])
free_push earlier [] part h e = (ap (list_any (share_block part)) (sym (append-nil earlier)) ∙ e, tt)
free_push earlier (p ∷ parts) part h e =
    (h.0, free_push (earlier ++ p ∷ []) parts part h.1 (ap (list_any (share_block part)) (append_assoc earlier (p ∷ []) parts) ∙ e))

-- a chip whose bad blocks, weak places and partitions are there
pub record KeepsChip (chip : ChipLines) : Type 0 where
  pub bad : list_all (λ b. ltb b chip.geometry.blocks) (bad_blocks chip) ≡ true
  pub different : are_different (bad_blocks chip) ≡ true
  pub tables : leaves_table_blocks chip.geometry (bad_blocks chip) ≡ true
  pub weak : All (λ (w : Weak). w.at < place_count chip.geometry w.kind) (weak_places chip)
  pub apart : are_apart (weak_places chip) ≡ true
  pub parts : All (LiesOn chip.geometry) chip.parts
  pub free : AreFree [] chip.parts

-- the chips of a controller
pub record KeepsChips (chips : List ChipLines) : Type 0 where
  pub few : length chips ≤ most_chips
  pub good : All KeepsChip chips

-- a command whose device, data and numbers are there
pub record KeepsCommand (controllers : List (List ChipLines)) (payloads : List DataLine) (c : ℕ) (command : CommandLine) : Type 0 where
  pub device : Device
  pub named : is_on c (device_at (hardware_of controllers payloads) (device_in command)) ≡ Some device
  pub rules : device_rules (hardware_of controllers payloads) device command ≡ Ok tt
  pub fits : HasFit command

pub record KeepsSession (controllers : List (List ChipLines)) (payloads : List DataLine) (session : SessionLines) : Type 0 where
  pub own : session.controller < length controllers
  pub commands : All (KeepsCommand controllers payloads session.controller) session.commands

-- a flip of bits that are there
pub record KeepsFlip (controllers : List (List ChipLines)) (c : ℕ) (flip : Turned) : Type 0 where
  pub chip : ChipLines
  pub named : chip_at (hardware_of controllers []) (c, flip.chip) ≡ Some chip
  pub within : has_bits chip flip.page flip.bits ≡ true
  pub short : length flip.bits ≤ 32768

abbrev pub KeepsFault : List (List ChipLines) → FaultLine → Type 0
KeepsFault controllers (Flip c flip) = KeepsFlip controllers c flip
KeepsFault controllers (Cut c cut) = c < length controllers

pub record KeepsBoot (controllers : List (List ChipLines)) (payloads : List DataLine) (boot : BootLines) : Type 0 where
  pub few : length boot.sessions ≤ most_sessions
  pub sessions : All (KeepsSession controllers payloads) boot.sessions
  pub schedule : All (λ s. s < length boot.sessions) boot.schedule
  pub faults : All (KeepsFault controllers) boot.faults

-- the operations of a command on a device that may be there, none of its pages failing
abbrev pub base_on : List (List ChipLines) → List DataLine → CommandLine → Option Device → ℕ
base_on controllers payloads command None = 0
base_on controllers payloads command (Some device) =
    cost_of device.chip.geometry (command_on (hardware_of controllers payloads) device.part.count command) 0

abbrev pub command_base : List (List ChipLines) → List DataLine → CommandLine → ℕ
command_base controllers payloads command =
    base_on controllers payloads command (device_at (hardware_of controllers payloads) (device_in command))

abbrev pub session_base : List (List ChipLines) → List DataLine → SessionLines → ℕ
session_base controllers payloads session = sum_by (command_base controllers payloads) session.commands

abbrev pub boot_base : List (List ChipLines) → List DataLine → BootLines → ℕ
boot_base controllers payloads boot = sum_by (session_base controllers payloads) boot.sessions

abbrev pub base_cost : List (List ChipLines) → List DataLine → List BootLines → ℕ
base_cost controllers payloads boots = sum_by (boot_base controllers payloads) boots

-- a controller has a chip
abbrev pub IsFull : List ChipLines → Type 0
IsFull chips = 0 < length chips

-- each controller but the last has a chip
abbrev pub AreFullBefore : List (List ChipLines) → Type 0
AreFullBefore [] = Unit {0}
AreFullBefore (chips ∷ []) = Unit {0}
AreFullBefore (chips ∷ next ∷ controllers) = IsFull chips × AreFullBefore (next ∷ controllers)

-- what the lines of a plan keep
pub record KeepsLines (plan : PlanLines) : Type 0 where
  pub few_controllers : length plan.controllers ≤ most_controllers
  pub chips : All KeepsChips plan.controllers
  pub full_before : AreFullBefore plan.controllers
  pub full : 0 < length plan.boots → All IsFull plan.controllers
  pub few_data : all_data plan ≤ most_data
  pub few_boots : length plan.boots ≤ most_boots
  pub boots : All (KeepsBoot plan.controllers plan.payloads) plan.boots
  pub few_flips : sum_by flips_of plan.boots ≤ most_flips
  pub cheap : base_cost plan.controllers plan.payloads plan.boots ≤ most_operations
