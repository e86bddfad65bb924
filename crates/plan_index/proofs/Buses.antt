-- The marks of a chip that is put behind a bus.
use Rattle.std.proofs.Common.{◌≡◌, ◌∙◌, Bool, true, false, not, ◌&&◌, ◌||◌, eqb, [], ◌∷◌, Ok, Err, sym, ap, refl, subst}
use Rattle.std.specs.List.{count_by, list_any}
use Rattle.std.proofs.lemmas.List.{append-nil}
use Rattle.std.proofs.lemmas.List.Concat.{flat_map-append}
use Rattle.std.proofs.lemmas.List.Folds.{list_any-append}
use Rattle.nand_model.specs.Sizes.{page_count}
use Rattle.nand_model.specs.declared.words.Weak.{Weak}
use Rattle.nand_model.specs.declared.words.WeakKind.TheVariants.{Program, Erase}
use Rattle.plan_grammar.specs.declared.kind.PlanKind.TheVariants.{BadWords}
use Rattle.plan_grammar.specs.declared.lines.ChipLines.{ChipLines}
use Rattle.plan_grammar.specs.declared.lines.DetailLine.TheVariants.{Bus}
use Rattle.plan_grammar.specs.Rules.{rule}
use Rattle.plan_grammar.specs.Devices.{are_different, bad_blocks, bad_in, has_bus, has_number, is_bus, is_program, is_same_kind, weak_in, weak_places}
use Rattle.plan_index.specs.declared.marks.ChipMarks.{ChipMarks}
use Rattle.plan_index.specs.Places.{Tells}
use Rattle.plan_index.specs.Chip.{IsMarked, bus_rules, is_used, with_detail_line}

-- a bus is no bad block
same_bad : (chip : ChipLines) → bad_blocks chip ≡ bad_blocks (with_detail_line Bus chip)
same_bad chip = sym (flat_map-append bad_in chip.details (Bus ∷ []) ∙ append-nil (bad_blocks chip))

-- nor a weak place
same_weak : (chip : ChipLines) → weak_places chip ≡ weak_places (with_detail_line Bus chip)
same_weak chip = sym (flat_map-append weak_in chip.details (Bus ∷ []) ∙ append-nil (weak_places chip))

or_true : (a : Bool) → (a || true) ≡ true
or_true true = refl
or_true false = refl

-- with its line a chip is behind a bus
now_behind : (chip : ChipLines) → true ≡ has_bus (with_detail_line Bus chip)
now_behind chip = sym (list_any-append is_bus chip.details (Bus ∷ []) ∙ or_true (has_bus chip))

-- the marks with the line of a bus
pub marked_bus : (chip : ChipLines) (marks new : ChipMarks) → IsMarked chip marks → new.bad.items ≡ marks.bad.items →
    new.programs.items ≡ marks.programs.items → new.erases.items ≡ marks.erases.items → new.used.items ≡ marks.used.items →
    new.weak_programs ≡ marks.weak_programs → new.bus ≡ true → IsMarked (with_detail_line Bus chip) new
marked_bus chip marks new m bad programs erases used weak bus = record {
  bad = subst (λ fs. Tells fs chip.geometry.blocks (has_number (bad_blocks (with_detail_line Bus chip)))) (sym bad)
      (subst (λ bs. Tells marks.bad.items chip.geometry.blocks (has_number bs)) (same_bad chip) m.bad);
  different = subst (λ bs. are_different bs ≡ true) (same_bad chip) m.different;
  programs = subst
      (λ fs. Tells fs (page_count chip.geometry) (λ n. list_any (λ (w : Weak). is_same_kind w.kind Program && eqb w.at n) (weak_places (with_detail_line Bus chip))))
      (sym programs)
      (subst (λ ws. Tells marks.programs.items (page_count chip.geometry) (λ n. list_any (λ (w : Weak). is_same_kind w.kind Program && eqb w.at n) ws))
      (same_weak chip) m.programs);
  erases = subst
      (λ fs. Tells fs chip.geometry.blocks (λ n. list_any (λ (w : Weak). is_same_kind w.kind Erase && eqb w.at n) (weak_places (with_detail_line Bus chip))))
      (sym erases)
      (subst (λ ws. Tells marks.erases.items chip.geometry.blocks (λ n. list_any (λ (w : Weak). is_same_kind w.kind Erase && eqb w.at n) ws))
      (same_weak chip) m.erases);
  used = subst (λ fs. Tells fs chip.geometry.blocks (is_used chip.parts)) (sym used) m.used;
  filled = m.filled;
  weak = weak ∙ m.weak ∙ ap (count_by (λ (w : Weak). is_program w.kind)) (same_weak chip);
  counted = sym (ap (count_by (λ (w : Weak). is_program w.kind)) (same_weak chip)) ∙ m.counted
      ∙ ap (count_by (λ (b : Bool). b)) (sym programs);
  bus = bus ∙ now_behind chip;
}

-- a chip without a bus may be put behind one
pub bus_kept : (chip : ChipLines) → has_bus chip ≡ false → bus_rules chip ≡ Ok tt
bus_kept chip none = ap (λ b. rule (not b) BadWords) none

-- a chip is put behind a bus once
pub bus_refused : (chip : ChipLines) → has_bus chip ≡ true → bus_rules chip ≡ Err BadWords
bus_refused chip there = ap (λ b. rule (not b) BadWords) there
