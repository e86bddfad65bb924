-- The marks of a chip with more bad blocks.
use Rattle.std.proofs.Common.{◌≡◌, ◌∙◌, ℕ, Bool, true, false, ◌&&◌, ◌||◌, eqb, List, [], ◌∷◌, ◌++◌, Ok, sym, ap, refl, subst}
use Rattle.std.specs.List.{count_by, list_any}
use Rattle.std.proofs.lemmas.List.{append-nil}
use Rattle.std.proofs.lemmas.List.Concat.{flat_map-append}
use Rattle.std.proofs.lemmas.List.Folds.{list_any-append}
use Rattle.nand_model.specs.Sizes.{page_count}
use Rattle.nand_model.specs.declared.words.Weak.{Weak}
use Rattle.nand_model.specs.declared.words.WeakKind.TheVariants.{Program, Erase}
use Rattle.plan_grammar.specs.declared.kind.PlanKind.TheVariants.{OutOfChip, TooFewTableBlocks, Overlap}
use Rattle.plan_grammar.specs.declared.lines.ChipLines.{ChipLines}
use Rattle.plan_grammar.specs.declared.lines.DetailLine.TheVariants.{Bad}
use Rattle.plan_grammar.specs.Rules.{◌>>=◌, rule}
use Rattle.plan_grammar.specs.Devices.{are_different, bad_blocks, bad_in, has_bus, has_number, is_bus, is_program, is_same_kind, weak_in, weak_places}
use Rattle.plan_index.specs.declared.marks.ChipMarks.{ChipMarks}
use Rattle.plan_index.specs.Places.{Tells}
use Rattle.plan_index.specs.Chip.{IsMarked, is_used, with_detail_line}

-- the bad blocks with these
more_bad : (chip : ChipLines) (blocks : List ℕ) → bad_blocks chip ++ blocks ≡ bad_blocks (with_detail_line (Bad blocks) chip)
more_bad chip blocks =
    sym (flat_map-append bad_in chip.details (Bad blocks ∷ []) ∙ ap (λ bs. bad_blocks chip ++ bs) (append-nil blocks))

-- they are no weak places
same_weak : (chip : ChipLines) (blocks : List ℕ) → weak_places chip ≡ weak_places (with_detail_line (Bad blocks) chip)
same_weak chip blocks = sym (flat_map-append weak_in chip.details (Bad blocks ∷ []) ∙ append-nil (weak_places chip))

or_none : (a : Bool) → (a || false) ≡ a
or_none true = refl
or_none false = refl

-- nor a bus
same_bus : (chip : ChipLines) (blocks : List ℕ) → has_bus chip ≡ has_bus (with_detail_line (Bad blocks) chip)
same_bus chip blocks = sym (list_any-append is_bus chip.details (Bad blocks ∷ []) ∙ or_none (has_bus chip))

-- the marks with these bad blocks
pub marked_bad : (chip : ChipLines) (marks new : ChipMarks) (blocks : List ℕ) → IsMarked chip marks →
    Tells new.bad.items chip.geometry.blocks (has_number (bad_blocks chip ++ blocks)) →
    are_different (bad_blocks chip ++ blocks) ≡ true → new.programs.items ≡ marks.programs.items →
    new.erases.items ≡ marks.erases.items → new.used.items ≡ marks.used.items → new.weak_programs ≡ marks.weak_programs →
    new.bus ≡ marks.bus → IsMarked (with_detail_line (Bad blocks) chip) new
marked_bad chip marks new blocks m tells different programs erases used weak bus = record {
  bad = subst (λ bs. Tells new.bad.items chip.geometry.blocks (has_number bs)) (more_bad chip blocks) tells;
  different = subst (λ bs. are_different bs ≡ true) (more_bad chip blocks) different;
  programs = subst
      (λ fs. Tells fs (page_count chip.geometry) (λ n. list_any (λ (w : Weak). is_same_kind w.kind Program && eqb w.at n) (weak_places (with_detail_line (Bad blocks) chip))))
      (sym programs)
      (subst (λ ws. Tells marks.programs.items (page_count chip.geometry) (λ n. list_any (λ (w : Weak). is_same_kind w.kind Program && eqb w.at n) ws))
      (same_weak chip blocks) m.programs);
  erases = subst
      (λ fs. Tells fs chip.geometry.blocks (λ n. list_any (λ (w : Weak). is_same_kind w.kind Erase && eqb w.at n) (weak_places (with_detail_line (Bad blocks) chip))))
      (sym erases)
      (subst (λ ws. Tells marks.erases.items chip.geometry.blocks (λ n. list_any (λ (w : Weak). is_same_kind w.kind Erase && eqb w.at n) ws))
      (same_weak chip blocks) m.erases);
  used = subst (λ fs. Tells fs chip.geometry.blocks (is_used chip.parts)) (sym used) m.used;
  filled = m.filled;
  weak = weak ∙ m.weak ∙ ap (count_by (λ (w : Weak). is_program w.kind)) (same_weak chip blocks);
  counted = sym (ap (count_by (λ (w : Weak). is_program w.kind)) (same_weak chip blocks)) ∙ m.counted
      ∙ ap (count_by (λ (b : Bool). b)) (sym programs);
  bus = bus ∙ m.bus ∙ same_bus chip blocks;
}

-- three rules that are kept
pub bad_kept : (a b d : Bool) → a ≡ true → b ≡ true → d ≡ true →
    (rule a OutOfChip >>= λ (u : Unit {0}). rule b TooFewTableBlocks >>= λ (v : Unit {0}). rule d Overlap) ≡ Ok tt
bad_kept true true true e f g = refl
bad_kept true true false e f g = absurd (cc g)
bad_kept true false d e f g = absurd (cc f)
bad_kept false b d e f g = absurd (cc e)
