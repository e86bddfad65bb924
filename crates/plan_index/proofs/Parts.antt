-- Partitions that share blocks.
use Rattle.std.proofs.Common.{◌≡◌, ℕ, ◌+◌, ◌-◌, ◌<◌, ◌≤◌, Bool, true, false, not, ◌&&◌, ◌||◌, cond, eqb, leb, ltb, length, List, [], ◌∷◌, Ok, Err, sym, ap, ◌∙◌, subst, refl, arith, ⊎_elim}
use Rattle.std.specs.List.{list_any, list_all, count_by}
use Rattle.std.proofs.lemmas.List.Folds.{list_any-append, list_all-append}
use Rattle.std.proofs.lemmas.Bool.{cases_lt, and_parts, and_from, or_cases, or_left, or_right, or_from, or_parts, leb-true, ltb-true, le-leb, lt-ltb, false_from_ne_true, both_ways}
use Rattle.std.proofs.lemmas.Bool.Decides.{nat_tests}
use Rattle.nand_model.specs.Sizes.{page_count}
use Rattle.nand_model.specs.declared.words.WeakKind.TheVariants.{Program, Erase}
use Rattle.plan_grammar.specs.declared.kind.PlanKind.TheVariants.{OutOfChip, Overlap}
use Rattle.plan_grammar.specs.declared.lines.ChipLines.{ChipLines}
use Rattle.plan_grammar.specs.declared.lines.PartLine.{PartLine}
use Rattle.plan_grammar.specs.Rules.{◌>>=◌, rule}
use Rattle.plan_grammar.specs.Devices.{share_block, has_number, bad_blocks, is_weak}
use Rattle.plan_grammar.specs.Hardware.{part_in_force}
use Rattle.plan_index.specs.declared.marks.ChipMarks.{ChipMarks}
use Rattle.plan_index.specs.Places.{Tells, IsFreeRun, IsTakenRun, HasRun}
use Rattle.plan_index.specs.Chip.{IsMarked, has_block, is_used, is_filled, with_part_line, part_rules}

-- partitions of which one has a block of this one share it
pub shared_from_used : (part : PartLine) (n : ℕ) → part.start ≤ n → n < part.start + part.count → (parts : List PartLine) →
    is_used parts n ≡ true → list_any (share_block part) parts ≡ true
shared_from_used part n from below [] used = absurd (cc used)
shared_from_used part n from below (p ∷ parts) used = ⊎_elim
    (λ here. let ends = and_parts (leb p.start n) (ltb n (p.start + p.count)) here in
    or_left (share_block part p) (list_any (share_block part) parts)
    (and_from (ltb part.start (p.start + p.count)) (ltb p.start (part.start + part.count))
    (lt-ltb _ _ (omega (arith, ltb-true n (p.start + p.count) ends.1, from)))
    (lt-ltb _ _ (omega (arith, leb-true p.start n ends.0, below)))))
    (λ later. or_right (share_block part p) (list_any (share_block part) parts)
    (shared_from_used part n from below parts later))
    (or_cases (has_block n p) (is_used parts n) used)

-- two partitions with blocks that share none, by their blocks
apart_here : (part p : PartLine) → 0 < part.count → 0 < p.count →
    ((n : ℕ) → part.start ≤ n → n < part.start + part.count → has_block n p ≡ false) → share_block part p ≡ false
apart_here part p some some' free = false_from_ne_true (share_block part p) (λ shared.
    let ends = and_parts (ltb part.start (p.start + p.count)) (ltb p.start (part.start + part.count)) shared in
    let one : part.start < p.start + p.count = ltb-true part.start (p.start + p.count) ends.0 in
    let other : p.start < part.start + part.count = ltb-true p.start (part.start + part.count) ends.1 in
    ⊎_elim
    (λ (low : part.start < p.start). both_ways (has_block p.start p) (free p.start (omega arith) other)
    (and_from (leb p.start p.start) (ltb p.start (p.start + p.count)) (le-leb p.start p.start (omega arith)) (lt-ltb p.start (p.start + p.count) (omega arith))))
    (λ (high : p.start ≤ part.start). both_ways (has_block part.start p) (free part.start (omega arith) (omega arith))
    (and_from (leb p.start part.start) (ltb part.start (p.start + p.count)) (le-leb p.start part.start high) (lt-ltb part.start (p.start + p.count) one)))
    (cases_lt part.start p.start))

-- partitions none of which has a block of this one share none
pub apart_from_free : (part : PartLine) → 0 < part.count → (parts : List PartLine) → list_all is_filled parts ≡ true →
    ((n : ℕ) → part.start ≤ n → n < part.start + part.count → is_used parts n ≡ false) →
    list_any (share_block part) parts ≡ false
apart_from_free part some [] filled free = refl
apart_from_free part some (p ∷ parts) filled free =
    let full = and_parts (is_filled p) (list_all is_filled parts) filled in
    or_from (share_block part p) (list_any (share_block part) parts)
    (apart_here part p some (ltb-true 0 p.count full.0) (λ n from below. (or_parts (has_block n p) (is_used parts n) (free n from below)).0))
    (apart_from_free part some parts full.1 (λ n from below. (or_parts (has_block n p) (is_used parts n) (free n from below)).1))

-- a part begins and ends on its chip
fits_chip : (all start count : ℕ) → start < all → count ≤ all - start → (ltb start all && leb (start + count) all) ≡ true
fits_chip all start count here short =
    and_from (ltb start all) (leb (start + count) all) (lt-ltb start all here) (le-leb (start + count) all (omega arith))

part_kept : (a b : Bool) → a ≡ true → b ≡ false → (rule a OutOfChip >>= λ (u : Unit {0}). rule (not b) Overlap) ≡ Ok tt
part_kept true false e f = refl
part_kept true true e f = absurd (cc f)
part_kept false b e f = absurd (cc e)

part_broken : (a b : Bool) → a ≡ true → b ≡ true → (rule a OutOfChip >>= λ (u : Unit {0}). rule (not b) Overlap) ≡ Err Overlap
part_broken true true e f = refl
part_broken true false e f = absurd (cc f)
part_broken false b e f = absurd (cc e)

-- the marks with one more partition
pub marked_part : (chip : ChipLines) (marks new : ChipMarks) (start count : ℕ) → IsMarked chip marks →
    start < chip.geometry.blocks → count ≤ chip.geometry.blocks - start →
    IsFreeRun marks.used.items start (part_in_force chip start count).count →
    length new.used.items ≡ length marks.used.items →
    HasRun marks.used.items new.used.items start (start + (part_in_force chip start count).count) →
    new.bad.items ≡ marks.bad.items → new.programs.items ≡ marks.programs.items → new.erases.items ≡ marks.erases.items →
    new.weak_programs ≡ marks.weak_programs → new.bus ≡ marks.bus →
    (part_rules chip start count ≡ Ok tt) × IsMarked (with_part_line (part_in_force chip start count) chip) new
marked_part chip marks new start count m here short free as_long run bad programs erases weak bus =
    let part : PartLine = part_in_force chip start count in
    let more : ChipLines = with_part_line part chip in
    let some : 0 < part.count = some_count chip.geometry.blocks start count here in
    let apart : list_any (share_block part) chip.parts ≡ false =
    apart_from_free part some chip.parts m.filled (λ n from below. sym (m.used.flag_is n) ∙ free n from below) in (
      part_kept (ltb start chip.geometry.blocks && leb (start + count) chip.geometry.blocks) (list_any (share_block part) chip.parts)
          (fits_chip chip.geometry.blocks start count here short) apart,
      record {
        bad = subst (λ fs. Tells fs chip.geometry.blocks (has_number (bad_blocks chip))) (sym bad) m.bad;
        different = m.different;
        programs = subst (λ fs. Tells fs (page_count chip.geometry) (is_weak chip Program)) (sym programs) m.programs;
        erases = subst (λ fs. Tells fs chip.geometry.blocks (is_weak chip Erase)) (sym erases) m.erases;
        used = record {
          count_is = as_long ∙ m.used.count_is;
          flag_is = λ n. run n ∙ ap (λ b. b || has_block n part) (m.used.flag_is n)
              ∙ sym (list_any-append (has_block n) chip.parts (part ∷ []) ∙ ap (λ b. is_used chip.parts n || b) (or_false (has_block n part)));
        };
        filled = list_all-append is_filled chip.parts (part ∷ [])
            ∙ and_from (list_all is_filled chip.parts) (is_filled part && true) m.filled (and_from (is_filled part) true (lt-ltb 0 part.count some) refl);
        weak = weak ∙ m.weak;
        counted = m.counted ∙ ap (count_by (λ (b : Bool). b)) (sym programs);
        bus = bus ∙ m.bus;
      },
    )
  where
    some_count : (all from n : ℕ) → from < all → 0 < cond (eqb n 0) (all - from) n
    some_count all from n less = grind (arith, nat_tests)

    or_false : (b : Bool) → (b || false) ≡ b
    or_false true = refl
    or_false false = refl

-- a partition that shares a block is refused
pub refused_part : (chip : ChipLines) (marks : ChipMarks) (start count : ℕ) → IsMarked chip marks →
    start < chip.geometry.blocks → count ≤ chip.geometry.blocks - start →
    IsTakenRun marks.used.items start (part_in_force chip start count).count → part_rules chip start count ≡ Err Overlap
refused_part chip marks start count m here short (n, from, below, taken) =
    let part : PartLine = part_in_force chip start count in
    part_broken (ltb start chip.geometry.blocks && leb (start + count) chip.geometry.blocks) (list_any (share_block part) chip.parts)
    (fits_chip chip.geometry.blocks start count here short)
    (shared_from_used part n from below chip.parts (sym (m.used.flag_is n) ∙ taken))
