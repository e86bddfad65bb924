-- The device of a number is a partition of its controller.
use Rattle.std.proofs.Common.{◌≡◌, ◌∙◌, ℕ, zero, suc, ◌+◌, ◌-◌, ltb, List, [], ◌∷◌, ◌++◌, length, map, take, Some, None, sym, ap, refl, arith, length-append}
use Rattle.std.specs.Prelude.{slice_get, sum_by}
use Rattle.std.proofs.lemmas.Bool.{le-ltb, cond-false}
use Rattle.std.proofs.lemmas.List.Sums.{sum_by-cons}
use Rattle.nand_model.specs.Partitions.{part_of}
use Rattle.nand_model.specs.declared.words.Part.{Part as Placed}
use Rattle.plan_model.specs.Plan.{ChipPlan, PartPlan, part_count, parts_from}
use Rattle.plan_grammar.specs.declared.lines.ChipLines.{ChipLines}
use Rattle.plan_grammar.specs.declared.lines.PartLine.{PartLine}
use Rattle.plan_grammar.specs.Devices.{Device, devices_on, devices_of_chips, devices_from}
use Rattle.plan_grammar.specs.Meaning.{chip_plan}
use Rattle.plan_laws.proofs.Lists.{Front, Behind, in_either, got_front, got_behind}

length-devices_on : (c : ℕ) (chip : ChipLines) (parts : List PartLine) → length (devices_on c chip parts) ≡ length parts
length-devices_on c chip [] = refl
length-devices_on c chip (part ∷ parts) = ap suc (length-devices_on c chip parts)

abbrev placed : ℕ → PartLine → Placed
placed k part = record { chip = k; start = part.start; count = part.count }

abbrev placed_parts : ℕ → List PartLine → List Placed
placed_parts k parts =
    map (λ (p : PartPlan). record { chip = k; start = p.start; count = p.count })
    (map (λ (part : PartLine). record { start = part.start; count = part.count }) parts)

length-placed : (k : ℕ) (parts : List PartLine) → length (placed_parts k parts) ≡ length parts
length-placed k [] = refl
length-placed k (part ∷ parts) = ap suc (length-placed k parts)

-- a device on a chip, and its partition
record OnChip (c k : ℕ) (chip : ChipLines) (parts : List PartLine) (j : ℕ) (device : Device) : Type 0 where
  pub placed_at : slice_get (placed_parts k parts) j ≡ Some (placed k device.part)
  pub controller_is : device.controller ≡ c
  pub chip_is : device.chip ≡ chip
  pub part_at : slice_get parts j ≡ Some device.part

on_chip : (c k : ℕ) (chip : ChipLines) (parts : List PartLine) (j : ℕ) (device : Device) →
    slice_get (devices_on c chip parts) j ≡ Some device → OnChip c k chip parts j device
on_chip c k chip [] j device e = absurd (cc e)
on_chip c k chip (part ∷ parts) zero device e =
    let same : record { controller = c; chip = chip; part = part } ≡ device = cc e in
    record {
      placed_at = ap (λ (d : Device). Some (placed k d.part)) same;
      controller_is = ap (λ (d : Device). d.controller) (sym same);
      chip_is = ap (λ (d : Device). d.chip) (sym same);
      part_at = ap (λ (d : Device). Some d.part) same;
    }
on_chip c k chip (part ∷ parts) (suc j) device e =
    let more = on_chip c k chip parts j device e in
    record { placed_at = more.placed_at; controller_is = more.controller_is; chip_is = more.chip_is; part_at = more.part_at }

-- a device of a controller's chips, its chip and its partition
pub record OnChips (c k : ℕ) (chips : List ChipLines) (j : ℕ) (device : Device) : Type 0 where
  pub controller_is : device.controller ≡ c
  pub i : ℕ
  pub chip_at : slice_get chips i ≡ Some device.chip
  pub n : ℕ
  pub part_at : slice_get device.chip.parts n ≡ Some device.part
  pub placed_at : slice_get (parts_from k (map chip_plan chips)) j ≡ Some (placed (k + i) device.part)

pub on_chips : (c k : ℕ) (chips : List ChipLines) (j : ℕ) (device : Device) →
    slice_get (devices_of_chips c chips) j ≡ Some device → OnChips c k chips j device
on_chips c k [] j device e = absurd (cc e)
on_chips c k (chip ∷ chips) j device e =
    elim (in_either (devices_on c chip chip.parts) (devices_of_chips c chips) j device e) as (λ n h. OnChips c k (chip ∷ chips) n device) [
      | Front i f ↦
          let on = on_chip c k chip chip.parts i device f in
          let first : k ≡ k + 0 = omega arith in
          record {
            controller_is = on.controller_is;
            i = 0;
            chip_at = ap Some (sym on.chip_is);
            n = i;
            part_at = ap (λ (x : ChipLines). slice_get x.parts i) on.chip_is ∙ on.part_at;
            placed_at = got_front (placed_parts k chip.parts) (parts_from (k + 1) (map chip_plan chips)) i (placed k device.part) on.placed_at
                ∙ ap (λ m. Some (placed m device.part)) first;
          }
      | Behind i f ↦
          let on = on_chips c (k + 1) chips i device f in
          let place : k + 1 + on.i ≡ k + suc on.i = omega arith in
          let lengths : length (devices_on c chip chip.parts) + i ≡ length (placed_parts k chip.parts) + i =
          omega (arith, length-devices_on c chip chip.parts, length-placed k chip.parts) in
          record {
            controller_is = on.controller_is;
            i = suc on.i;
            chip_at = on.chip_at;
            n = on.n;
            part_at = on.part_at;
            placed_at = ap (slice_get (placed_parts k chip.parts ++ parts_from (k + 1) (map chip_plan chips))) lengths
                ∙ got_behind (placed_parts k chip.parts) (parts_from (k + 1) (map chip_plan chips)) i (Some (placed (k + 1 + on.i) device.part)) on.placed_at
                ∙ ap (λ m. Some (placed m device.part)) place;
          }
    ]

-- the partitions of controllers before one
abbrev pub parts_before : ℕ → List (List ChipLines) → ℕ
parts_before c controllers = sum_by part_count (take c (map (map chip_plan) controllers))

abbrev plan_parts : List PartLine → List PartPlan
plan_parts parts = map (λ (part : PartLine). record { start = part.start; count = part.count }) parts

length-plans : (parts : List PartLine) → length (plan_parts parts) ≡ length parts
length-plans [] = refl
length-plans (part ∷ parts) = ap suc (length-plans parts)

pub length-devices : (c : ℕ) (chips : List ChipLines) → length (devices_of_chips c chips) ≡ part_count (map chip_plan chips)
length-devices c [] = refl
length-devices c (chip ∷ chips) =
    omega (
      arith,
      length-append (devices_on c chip chip.parts) (devices_of_chips c chips),
      length-devices_on c chip chip.parts,
      length-plans chip.parts,
      length-devices c chips,
      sum_by-cons (λ (p : ChipPlan). length p.parts) (chip_plan chip) (map chip_plan chips),
    )

-- the controller of a device
pub record InControllers (first : ℕ) (controllers : List (List ChipLines)) (dev : ℕ) (device : Device) : Type 0 where
  pub i : ℕ
  pub chips : List ChipLines
  pub chips_at : slice_get controllers i ≡ Some chips
  pub controller_is : device.controller ≡ first + i
  pub j : ℕ
  pub dev_is : dev ≡ parts_before i controllers + j
  pub inside : slice_get (devices_of_chips (first + i) chips) j ≡ Some device

pub in_controllers : (first : ℕ) (controllers : List (List ChipLines)) (dev : ℕ) (device : Device) →
    slice_get (devices_from first controllers) dev ≡ Some device → InControllers first controllers dev device
in_controllers first [] dev device e = absurd (cc e)
in_controllers first (chips ∷ controllers) dev device e =
    elim (in_either (devices_of_chips first chips) (devices_from (first + 1) controllers) dev device e) as
    (λ n h. InControllers first (chips ∷ controllers) n device) [
      | Front j f ↦
          let same : first ≡ first + 0 = omega arith in
          record {
            i = 0;
            chips = chips;
            chips_at = refl;
            controller_is = (on_chips first 0 chips j device f).controller_is ∙ same;
            j = j;
            dev_is = omega arith;
            inside = ap (λ m. slice_get (devices_of_chips m chips) j) (sym same) ∙ f;
          }
      | Behind j f ↦
          let more = in_controllers (first + 1) controllers j device f in
          let same : first + 1 + more.i ≡ first + suc more.i = omega arith in
          record {
            i = suc more.i;
            chips = more.chips;
            chips_at = more.chips_at;
            controller_is = more.controller_is ∙ same;
            j = more.j;
            dev_is = omega (
              arith,
              length-devices first chips,
              more.dev_is,
              sum_by-cons part_count (map chip_plan chips) (take more.i (map (map chip_plan) controllers)),
            );
            inside = ap (λ m. slice_get (devices_of_chips m more.chips) more.j) (sym same) ∙ more.inside;
          }
    ]

-- the partition of a device
pub part_found : (first : ℕ) (parts : List Placed) (dev j : ℕ) (part : Placed) → dev ≡ first + j → slice_get parts j ≡ Some part →
    part_of (record { first = first; parts = parts }) dev ≡ Some part
part_found first parts dev j part e f =
    let place : dev - first ≡ j = omega (arith, e) in
    cond-false (ltb dev first) None (slice_get parts (dev - first)) (le-ltb dev first (omega (arith, e))) ∙ ap (slice_get parts) place ∙ f
