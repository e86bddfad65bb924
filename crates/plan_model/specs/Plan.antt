-- A plan as data: controllers with chips, and boots.
use Rattle.std.specs.Prelude.{ℕ, List, length, sum_by, ◌+◌, [], ◌∷◌, ◌++◌, map, take, ◌==◌, if◌then◌else◌, Option, Some, None}
use Rattle.nand_model.specs.Partitions.{Partitions}
use Rattle.nand_model.specs.Chip.{ChipState, SimFaults, new_chip}
use Rattle.command_model.specs.Boot.{Boot}
use Rattle.nand_model.specs.declared.geometry.Geometry.{Geometry}
use Rattle.nand_model.specs.declared.words.Weak.{Weak}
use Rattle.nand_model.specs.declared.words.Command.{Command}
use Rattle.nand_model.specs.declared.words.Flip.{Flip}
use Rattle.nand_model.specs.declared.words.CutAt.{CutAt}
use Rattle.nand_model.specs.declared.words.Part.{Part}

-- a partition of a chip: its first block and its number of blocks
pub record PartPlan : Type 0 where
  pub start : ℕ
  pub count : ℕ

-- a chip's line, its factory-bad blocks, its weak places and its partitions
pub record ChipPlan : Type 0 where
  pub geometry : Geometry
  pub bad : List ℕ
  pub weak : List Weak
  pub parts : List PartPlan

-- a session: its controller and its commands
pub record SessionPlan : Type 0 where
  pub controller : ℕ
  pub commands : List Command

-- a boot: flips and cuts stand with their controller
pub record BootPlan : Type 0 where
  pub flips : List (ℕ × Flip)
  pub cuts : List (ℕ × CutAt)
  pub sessions : List SessionPlan
  pub schedule : List ℕ

-- the chips of each controller, and the boots
pub record PlanData : Type 0 where
  pub controllers : List (List ChipPlan)
  pub boots : List BootPlan

-- the partitions of these chips
abbrev pub part_count : List ChipPlan → ℕ
part_count chips = sum_by (λ (c : ChipPlan). length c.parts) chips

-- the partitions of these chips, the first of which has number k
abbrev pub parts_from : ℕ → List ChipPlan → List Part
parts_from k [] = []
parts_from k (chip ∷ chips) =
    map (λ (p : PartPlan). record { chip = k; start = p.start; count = p.count }) chip.parts ++ parts_from (k + 1) chips

-- the devices of a controller: partitions are numbered over all controllers, in the order of their
-- lines
abbrev pub devices_of : PlanData → ℕ → List ChipPlan → Partitions
devices_of plan c chips = record { first = sum_by part_count (take c plan.controllers); parts = parts_from 0 chips }

-- the new chips of a controller
abbrev pub new_chips : List ChipPlan → List (ChipState SimFaults)
new_chips chips = map (λ (c : ChipPlan). new_chip c.geometry c.bad c.weak) chips

-- the items that stand with a controller
abbrev pub items_of : {A : Type 0} → ℕ → List (ℕ × A) → List A
items_of c [] = []
items_of c ((d, x) ∷ items) = (if c == d then x ∷ [] else []) ++ items_of c items

-- the sessions of a controller, with their numbers in the boot
abbrev pub sessions_from : ℕ → ℕ → List SessionPlan → List (ℕ × List Command)
sessions_from c n [] = []
sessions_from c n (s ∷ sessions) =
    (if s.controller == c then (n, s.commands) ∷ [] else []) ++ sessions_from c (n + 1) sessions

-- the first of a list
abbrev pub first_of : {A : Type 0} → List A → Option A
first_of [] = None
first_of (x ∷ xs) = Some x

-- a controller's part of a boot
abbrev pub boot_part : PlanData → ℕ → List ChipPlan → BootPlan → Boot
boot_part plan c chips boot =
    record {
      partitions = devices_of plan c chips;
      sessions = sessions_from c 0 boot.sessions;
      flips = items_of c boot.flips;
      cut = first_of (items_of c boot.cuts);
    }
