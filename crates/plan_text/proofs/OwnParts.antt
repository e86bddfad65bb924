-- The partitions of a controller's chips: how many they are, and that no two of them share a block.
use Rattle.std.proofs.Common.{◌≡◌, ◌∙◌, ℕ, zero, suc, ◌+◌, ◌≤◌, ◌<◌, true, false, ltb, List, [], ◌∷◌, ◌++◌, length, map, Some, sym, ap, refl, subst, arith, append_assoc, length-append}
use Rattle.std.specs.Prelude.{All, Any, option_map, slice_get, sum_by}
use Rattle.std.specs.List.{list_any}
use Rattle.std.proofs.lemmas.Bool.{and_from, or_parts, lt-ltb}
use Rattle.std.proofs.lemmas.List.{append-nil}
use Rattle.std.proofs.lemmas.List.Elements.{All-cons, All-nil, All-head, All-tail}
use Rattle.std.proofs.lemmas.List.Sums.{sum_by-cons, sum_by_more, sum_by_more_le}
use Rattle.std.proofs.lemmas.Option.{get_or_from_slice_get, slice_get-get_or, slice_get-map}
use Rattle.nand_model.specs.Partitions.{Partitions}
use Rattle.nand_model.specs.declared.words.Part.{Part}
use Rattle.mtd_part.specs.Blocks.{AreApart, SharesBlock, with_part}
use Rattle.mtd_part.proofs.Apart.{AreApart-append, SharesBlock-sym}
use Rattle.plan_model.specs.Plan.{ChipPlan, PartPlan, part_count, parts_from}
use Rattle.plan_grammar.specs.declared.lines.PlanLines.{PlanLines}
use Rattle.plan_grammar.specs.declared.lines.ChipLines.{ChipLines}
use Rattle.plan_grammar.specs.declared.lines.PartLine.{PartLine}
use Rattle.plan_grammar.specs.Devices.{share_block}
use Rattle.plan_grammar.specs.Limits.{most_bytes}
use Rattle.plan_grammar.specs.Meaning.{chip_plan}
use Rattle.plan_laws.proofs.Goods.{AreFree, KeepsChip, KeepsChips}
use Rattle.plan_laws.proofs.Limits.{devices_lines, length_map, plan_few_lines, plan_keeps}
use Rattle.plan_laws.proofs.Lists.{Front, Behind, in_either, got_front, got_behind, all_at}
use Rattle.plan_text.specs.Plan.{IsOfBytes}
use Rattle.plan_text.specs.Boot.{HasPartsWithin, devices_before, devices_on, parts_of, placed, with_parts}

-- the partition of a line, on the chip of this number
abbrev part_of_line : ℕ → PartLine → Part
part_of_line k part = record { chip = k; start = part.start; count = part.count }

-- how many they are
pub length-placed : (k : ℕ) (parts : List PartLine) → length (placed k parts) ≡ length parts
length-placed k [] = refl
length-placed k (part ∷ parts) = ap suc (length-placed k parts)

abbrev plan_part : PartLine → PartPlan
plan_part part = record { start = part.start; count = part.count }

abbrev of_parts : ℕ → List Part → Partitions
of_parts first parts = record { first = first; parts = parts }

-- the devices of one more chip
devices-cons : (chip : ChipLines) (chips : List ChipLines) → devices_on (chip ∷ chips) ≡ length chip.parts + devices_on chips
devices-cons chip chips =
    sum_by-cons (λ (p : ChipPlan). length p.parts) (chip_plan chip) (map chip_plan chips)
    ∙ ap (λ n. n + devices_on chips) (length_map (λ (part : PartLine). plan_part part) chip.parts)

pub devices_first : (rest later : List ChipLines) (chip : ChipLines) → rest ≡ chip ∷ later → devices_on rest ≡ length chip.parts + devices_on later
devices_first rest later chip split = ap devices_on split ∙ devices-cons chip later

length-parts_from : (k : ℕ) (chips : List ChipLines) → length (parts_from k (map chip_plan chips)) ≡ devices_on chips
length-parts_from k [] = refl
length-parts_from k (chip ∷ chips) =
    omega (
      arith,
      length-append (placed k chip.parts) (parts_from (k + 1) (map chip_plan chips)),
      length-placed k chip.parts,
      length-parts_from (k + 1) chips,
      devices-cons chip chips,
    )

-- the devices of one more controller
abbrev plans : List (List ChipLines) → List (List ChipPlan)
plans controllers = map (map chip_plan) controllers

plans_at : (controllers : List (List ChipLines)) (c : ℕ) (chips : List ChipLines) → slice_get controllers c ≡ Some chips →
    slice_get (plans controllers) c ≡ Some (map chip_plan chips)
plans_at controllers c chips e = slice_get-map (map chip_plan) controllers c ∙ ap (option_map (map chip_plan)) e

plans_within : (controllers : List (List ChipLines)) (c : ℕ) (chips : List ChipLines) → slice_get controllers c ≡ Some chips → c < length (plans controllers)
plans_within [] c chips e = absurd (cc e)
plans_within (x ∷ xs) zero chips e = omega arith
plans_within (x ∷ xs) (suc c) chips e = omega (arith, plans_within xs c chips e)

pub devices_more : (controllers : List (List ChipLines)) (c : ℕ) (chips : List ChipLines) → slice_get controllers c ≡ Some chips →
    devices_before (c + 1) controllers ≡ devices_before c controllers + devices_on chips
devices_more controllers c chips e =
    sum_by_more part_count (plans controllers) c [] (plans_within controllers c chips e)
    ∙ ap (λ (p : List ChipPlan). devices_before c controllers + part_count p)
    (get_or_from_slice_get (plans controllers) c (map chip_plan chips) [] (plans_at controllers c chips e))

pub devices_within : (controllers : List (List ChipLines)) (c : ℕ) (chips : List ChipLines) → slice_get controllers c ≡ Some chips →
    devices_before c controllers + devices_on chips ≤ sum_by part_count (plans controllers)
devices_within controllers c chips e =
    subst (λ (p : List ChipPlan). devices_before c controllers + part_count p ≤ sum_by part_count (plans controllers))
    (get_or_from_slice_get (plans controllers) c (map chip_plan chips) [] (plans_at controllers c chips e))
    (sum_by_more_le part_count (plans controllers) c [] (plans_within controllers c chips e))

-- all devices of a plan have lines
pub few_devices : (plan : PlanLines) → IsOfBytes plan → sum_by part_count (plans plan.controllers) ≤ most_bytes
few_devices plan (bytes, h) = omega (arith, devices_lines plan, plan_few_lines bytes plan h)

-- partitions added so far, and what is left, make the whole
module _ (k : ℕ) (now whole : Partitions) (rest : List PartLine) (h : with_parts now (placed k rest) ≡ whole) where
  pub parts_end : rest ≡ [] → now ≡ whole
  parts_end none =
      ap (of_parts now.first) (sym (append-nil now.parts)) ∙ ap (λ (ps : List PartLine). with_parts now (placed k ps)) (sym none) ∙ h

  module _ (later : List PartLine) (part : PartLine) (split : rest ≡ part ∷ later) where
    here : with_parts now (part_of_line k part ∷ placed k later) ≡ whole
    here = ap (λ (ps : List PartLine). with_parts now (placed k ps)) (sym split) ∙ h

    pub parts_more : (next : Partitions) → next ≡ with_part now (part_of_line k part) → with_parts next (placed k later) ≡ whole
    parts_more next push =
        ap (λ (p : Partitions). with_parts p (placed k later)) push
        ∙ ap (of_parts now.first) (append_assoc now.parts (part_of_line k part ∷ []) (placed k later)) ∙ here

    pub parts_below : now.first + length now.parts < whole.first + length whole.parts
    parts_below =
        let sizes = ap (λ (p : Partitions). p.first + length p.parts) here in
        omega (arith, sizes, length-append now.parts (part_of_line k part ∷ placed k later))

    pub next_free : AreApart whole.parts → Any (SharesBlock (part_of_line k part)) now.parts → ⊥
    next_free apart any =
        let all : now.parts ++ part_of_line k part ∷ placed k later ≡ whole.parts = ap (λ (p : Partitions). p.parts) here in
        let first : slice_get whole.parts any.0 ≡ Some any.1 =
        ap (λ ps. slice_get ps any.0) (sym all)
        ∙ got_front now.parts (part_of_line k part ∷ placed k later) any.0 any.1 (slice_get-get_or now.parts any.0 any.1 any.2 ∙ ap Some any.3) in
        let second : slice_get whole.parts (length now.parts + 0) ≡ Some (part_of_line k part) =
        ap (λ ps. slice_get ps (length now.parts + 0)) (sym all)
        ∙ got_behind now.parts (part_of_line k part ∷ placed k later) 0 (Some (part_of_line k part)) refl in
        let same = apart any.0 (length now.parts + 0) any.1 (part_of_line k part) first second (SharesBlock-sym (part_of_line k part) any.1 any.4) in
        let below = any.2 in
        omega (arith, same, below)

-- the same of chips
module _ (k : ℕ) (now whole : Partitions) (rest : List ChipLines) (h : with_parts now (parts_from k (map chip_plan rest)) ≡ whole) where
  pub chips_end : rest ≡ [] → now ≡ whole
  chips_end none =
      ap (of_parts now.first) (sym (append-nil now.parts)) ∙ ap (λ (cs : List ChipLines). with_parts now (parts_from k (map chip_plan cs))) (sym none) ∙ h

  module _ (later : List ChipLines) (chip : ChipLines) (split : rest ≡ chip ∷ later) where
    here_too : of_parts now.first ((now.parts ++ placed k chip.parts) ++ parts_from (k + 1) (map chip_plan later)) ≡ whole
    here_too =
        ap (of_parts now.first) (append_assoc now.parts (placed k chip.parts) (parts_from (k + 1) (map chip_plan later)))
        ∙ ap (λ (cs : List ChipLines). with_parts now (parts_from k (map chip_plan cs))) (sym split) ∙ h

    pub chips_more : (next : Partitions) → next ≡ with_parts now (placed k chip.parts) → with_parts next (parts_from (k + 1) (map chip_plan later)) ≡ whole
    chips_more next push = ap (λ (p : Partitions). with_parts p (parts_from (k + 1) (map chip_plan later))) push ∙ here_too

    pub chips_below : now.first + length now.parts + length chip.parts ≤ whole.first + length whole.parts
    chips_below =
        let sizes = ap (λ (p : Partitions). p.first + length p.parts) here_too in
        omega (
          arith,
          sizes,
          length-append (now.parts ++ placed k chip.parts) (parts_from (k + 1) (map chip_plan later)),
          length-append now.parts (placed k chip.parts),
          length-placed k chip.parts,
        )

    pub front_apart : AreApart whole.parts → AreApart (now.parts ++ placed k chip.parts)
    front_apart apart = λ i j a b at_i at_j shares.
        (let all : (now.parts ++ placed k chip.parts) ++ parts_from (k + 1) (map chip_plan later) ≡ whole.parts = ap (λ (p : Partitions). p.parts) here_too in
        apart i j a b
        (ap (λ ps. slice_get ps i) (sym all) ∙ got_front (now.parts ++ placed k chip.parts) (parts_from (k + 1) (map chip_plan later)) i a at_i)
        (ap (λ ps. slice_get ps j) (sym all) ∙ got_front (now.parts ++ placed k chip.parts) (parts_from (k + 1) (map chip_plan later)) j b at_j)
        shares)

pub length-parts_of : (chips : List ChipLines) → length (parts_of chips) ≡ devices_on chips
length-parts_of chips = length-parts_from 0 chips

-- partitions that share a block are found to do so
found_shared : (k : ℕ) (a b : PartLine) → SharesBlock (part_of_line k a) (part_of_line k b) → share_block a b ≡ true
found_shared k a b (chip, block, (in_a, in_b)) =
    let first : a.start < b.start + b.count = (let low = in_a.1 in let high = in_b.2 in omega (arith, low, high)) in
    let second : b.start < a.start + a.count = (let low = in_b.1 in let high = in_a.2 in omega (arith, low, high)) in
    and_from (ltb a.start (b.start + b.count)) (ltb b.start (a.start + a.count))
    (lt-ltb a.start (b.start + b.count) first) (lt-ltb b.start (a.start + a.count) second)

none_shared : (k : ℕ) (part : PartLine) (earlier : List PartLine) (i : ℕ) (x : Part) → list_any (share_block part) earlier ≡ false →
    slice_get (placed k earlier) i ≡ Some x → SharesBlock (part_of_line k part) x → ⊥
none_shared k part [] i x e at shares = absurd (cc at)
none_shared k part (p ∷ earlier) zero x e at shares =
    let same : part_of_line k p ≡ x = cc at in
    let none = (or_parts (share_block part p) (list_any (share_block part) earlier) e).0 in
    let some = found_shared k part p (subst (SharesBlock (part_of_line k part)) (sym same) shares) in
    let clash : true ≡ false = sym some ∙ none in
    absurd (cc clash)
none_shared k part (p ∷ earlier) (suc i) x e at shares =
    none_shared k part earlier i x (or_parts (share_block part p) (list_any (share_block part) earlier) e).1 at shares

placed-append : (k : ℕ) (xs ys : List PartLine) → placed k (xs ++ ys) ≡ placed k xs ++ placed k ys
placed-append k [] ys = refl
placed-append k (x ∷ xs) ys = ap (λ ps. part_of_line k x ∷ ps) (placed-append k xs ys)

one_more : (k : ℕ) (earlier : List PartLine) (part : PartLine) → AreApart (placed k earlier) → list_any (share_block part) earlier ≡ false →
    AreApart (placed k (earlier ++ part ∷ []))
one_more k earlier part h e =
    subst AreApart (sym (placed-append k earlier (part ∷ [])))
    (AreApart-append (placed k earlier) (part_of_line k part) h
    (λ any. none_shared k part earlier any.0 any.1 e (slice_get-get_or (placed k earlier) any.0 any.1 any.2 ∙ ap Some any.3) any.4))

free_apart : (k : ℕ) (earlier parts : List PartLine) → AreApart (placed k earlier) → AreFree earlier parts → AreApart (placed k (earlier ++ parts))
free_apart k earlier [] h free = subst (λ (ps : List PartLine). AreApart (placed k ps)) (sym (append-nil earlier)) h
free_apart k earlier (part ∷ parts) h free =
    subst (λ (ps : List PartLine). AreApart (placed k ps)) (append_assoc earlier (part ∷ []) parts)
    (free_apart k (earlier ++ part ∷ []) parts (one_more k earlier part h free.0) free.1)

none_apart : AreApart []
none_apart = λ i j a b at_i at_j shares. absurd (cc at_i)

apart_joined : (xs ys : List Part) → AreApart xs → AreApart ys →
    ((i j : ℕ) (a b : Part) → slice_get xs i ≡ Some a → slice_get ys j ≡ Some b → SharesBlock a b → ⊥) → AreApart (xs ++ ys)
apart_joined xs ys own others none = λ i j a b at_i at_j shares.
    elim (in_either xs ys i a at_i) as (λ n h. n ≡ j) [
      | Front n e ↦ elim (in_either xs ys j b at_j) as (λ m h. n ≡ m) [
        | Front m f ↦ own n m a b e f shares
        | Behind m f ↦ absurd (none n m a b e f shares)
      ]
      | Behind n e ↦ elim (in_either xs ys j b at_j) as (λ m h. length xs + n ≡ m) [
        | Front m f ↦ absurd (none m n b a f e (SharesBlock-sym a b shares))
        | Behind m f ↦ ap (λ z. length xs + z) (others n m a b e f shares)
      ]
    ]

-- partitions of a chip have its number, and those of later chips higher ones
placed_chip : (k : ℕ) (parts : List PartLine) (i : ℕ) (a : Part) → slice_get (placed k parts) i ≡ Some a → a.chip ≡ k
placed_chip k [] i a e = absurd (cc e)
placed_chip k (p ∷ parts) zero a e = let same : part_of_line k p ≡ a = cc e in ap (λ (x : Part). x.chip) (sym same)
placed_chip k (p ∷ parts) (suc i) a e = placed_chip k parts i a e

later_chip : (k : ℕ) (chips : List ChipLines) (j : ℕ) (b : Part) → slice_get (parts_from k (map chip_plan chips)) j ≡ Some b → k ≤ b.chip
later_chip k [] j b e = absurd (cc e)
later_chip k (chip ∷ chips) j b e =
    elim (in_either (placed k chip.parts) (parts_from (k + 1) (map chip_plan chips)) j b e) as (λ n h. k ≤ b.chip) [
      | Front i f ↦ let same = placed_chip k chip.parts i b f in omega (arith, same)
      | Behind i f ↦ let more = later_chip (k + 1) chips i b f in omega (arith, more)
    ]

chips_apart : (k : ℕ) (chips : List ChipLines) → All KeepsChip chips → AreApart (parts_from k (map chip_plan chips))
chips_apart k [] h = none_apart
chips_apart k (chip ∷ chips) h =
    apart_joined (placed k chip.parts) (parts_from (k + 1) (map chip_plan chips))
    (free_apart k [] chip.parts none_apart (All-head KeepsChip chip chips h).free)
    (chips_apart (k + 1) chips (All-tail KeepsChip chip chips h))
    (λ i j a b at_i at_j shares. apart_by k chip chips i j a b at_i at_j shares)
  where
    apart_by : (k : ℕ) (chip : ChipLines) (chips : List ChipLines) (i j : ℕ) (a b : Part) → slice_get (placed k chip.parts) i ≡ Some a →
        slice_get (parts_from (k + 1) (map chip_plan chips)) j ≡ Some b → SharesBlock a b → ⊥
    apart_by k chip chips i j a b at_i at_j (number, block, (in_a, in_b)) =
        let own = placed_chip k chip.parts i a at_i in
        let other = later_chip (k + 1) chips j b at_j in
        let one = in_a.0 in
        let same = in_b.0 in
        omega (arith, own, other, one, same)

within_all : (chips : List ChipLines) → All KeepsChip chips → All HasPartsWithin chips
within_all [] h = All-nil HasPartsWithin
within_all (chip ∷ chips) h =
    All-cons HasPartsWithin chip chips (All-head KeepsChip chip chips h).parts (within_all chips (All-tail KeepsChip chip chips h))

-- what the chips of a controller keep
pub record KeepsParts (chips : List ChipLines) : Type 0 where
  pub few : length chips ≤ 8
  pub within : All HasPartsWithin chips
  pub apart : AreApart (parts_of chips)

pub keeps_parts : (plan : PlanLines) (c : ℕ) (chips : List ChipLines) → IsOfBytes plan → slice_get plan.controllers c ≡ Some chips → KeepsParts chips
keeps_parts plan c chips (bytes, h) e =
    let k = all_at KeepsChips plan.controllers c chips e (plan_keeps bytes plan h).chips in
    record { few = k.few; within = within_all chips k.good; apart = chips_apart 0 chips k.good }
