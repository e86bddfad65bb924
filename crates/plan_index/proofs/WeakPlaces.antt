-- The marks of a chip with one more weak place.
use Rattle.std.proofs.Common.{◌≡◌, ℕ, ◌+◌, ◌<◌, ◌≤◌, Bool, true, false, not, ◌&&◌, ◌||◌, cond, eqb, ltb, List, [], ◌∷◌, ◌++◌, Ok, length, get_or, sym, ap, ◌∙◌, subst, refl, arith, length-set}
use Rattle.std.specs.Prelude.{slice_set}
use Rattle.std.specs.List.{list_any, count_by}
use Rattle.std.proofs.lemmas.List.{append-nil}
use Rattle.std.proofs.lemmas.List.Concat.{flat_map-append}
use Rattle.std.proofs.lemmas.List.Sums.{sum_by_push, sum_by-set, count_by-le-length}
use Rattle.std.proofs.lemmas.List.Folds.{list_any-append}
use Rattle.std.proofs.lemmas.Bool.{not-true}
use Rattle.nand_model.specs.Sizes.{page_count}
use Rattle.nand_model.specs.declared.words.Weak.{Weak}
use Rattle.nand_model.specs.declared.words.WeakKind.{WeakKind}
use Rattle.nand_model.specs.declared.words.WeakKind.TheVariants.{Program, Erase}
use Rattle.plan_grammar.specs.declared.kind.PlanKind.{PlanKind}
use Rattle.plan_grammar.specs.declared.lines.ChipLines.{ChipLines}
use Rattle.plan_grammar.specs.declared.lines.DetailLine.TheVariants.{Weak as WeakAt}
use Rattle.plan_grammar.specs.Devices.{has_bus, has_number, is_bus, are_different, bad_blocks, bad_in, weak_in, weak_places, is_weak, is_same_kind, is_program, weak_programs}
use Rattle.plan_grammar.specs.declared.kind.PlanKind.TheVariants.{OutOfChip, Overlap}
use Rattle.plan_grammar.specs.Rules.{◌>>=◌, rule}
use Rattle.plan_grammar.specs.Hardware.{place_count}
use Rattle.plan_index.specs.declared.marks.ChipMarks.{ChipMarks}
use Rattle.plan_index.specs.Places.{Tells, flag_at}
use Rattle.plan_index.specs.Chip.{IsMarked, with_detail_line, weak_rules, is_used}
use Rattle.plan_index.proofs.Places.{tells_more}

-- a weak place adds no bad block
same_bad : (chip : ChipLines) (weak : Weak) → bad_blocks chip ≡ bad_blocks (with_detail_line (WeakAt weak) chip)
same_bad chip weak = sym (flat_map-append bad_in chip.details (WeakAt weak ∷ []) ∙ append-nil (bad_blocks chip))

-- the weak places with one more
more_weak : (chip : ChipLines) (weak : Weak) → weak_places (with_detail_line (WeakAt weak) chip) ≡ weak_places chip ++ weak ∷ []
more_weak chip weak = flat_map-append weak_in chip.details (WeakAt weak ∷ [])

or_none : (a : Bool) → (a || (false || false)) ≡ a
or_none true = refl
or_none false = refl

-- a weak place puts no chip behind a bus
same_bus : (chip : ChipLines) (weak : Weak) → has_bus (with_detail_line (WeakAt weak) chip) ≡ has_bus chip
same_bus chip weak = list_any-append is_bus chip.details (WeakAt weak ∷ []) ∙ or_none (has_bus chip)

or_last : (a b : Bool) → (a || (b || false)) ≡ (a || b)
or_last true b = refl
or_last false true = refl
or_last false false = refl

-- a place is weak with one more weak place
weak_step : (chip : ChipLines) (weak : Weak) (kind : WeakKind) (n : ℕ) → is_weak (with_detail_line (WeakAt weak) chip) kind n
    ≡ (is_weak chip kind n || (is_same_kind weak.kind kind && eqb weak.at n))
weak_step chip weak kind n =
    ap (list_any (λ (w : Weak). is_same_kind w.kind kind && eqb w.at n)) (more_weak chip weak)
    ∙ list_any-append (λ (w : Weak). is_same_kind w.kind kind && eqb w.at n) (weak_places chip) (weak ∷ [])
    ∙ or_last (is_weak chip kind n) (is_same_kind weak.kind kind && eqb weak.at n)

count_step : (chip : ChipLines) (weak : Weak) → weak_programs (with_detail_line (WeakAt weak) chip)
    ≡ weak_programs chip + cond (is_program weak.kind) 1 0
count_step chip weak =
    ap (count_by (λ (w : Weak). is_program w.kind)) (more_weak chip weak)
    ∙ sum_by_push (λ (w : Weak). cond (is_program w.kind) 1 0) (weak_places chip) weak

or_false : (b : Bool) → (b || false) ≡ b
or_false true = refl
or_false false = refl

-- one more flag is counted
count_flag : (flags : List Bool) (n : ℕ) → n < length flags → flag_at flags n ≡ false →
    count_by (λ (b : Bool). b) (slice_set flags n true) ≡ count_by (λ (b : Bool). b) flags + 1
count_flag flags n here free =
    let step = sum_by-set (λ (b : Bool). cond b 1 0) flags n true false here in
    let none : ◌≡◌ {A = ℕ} (cond (get_or flags n false) 1 0) 0 = ap (λ b. cond b 1 0) free in
    omega (arith, step, none)

-- there is room for one more
pub few_flags : (flags : List Bool) (n : ℕ) → n < length flags → flag_at flags n ≡ false →
    count_by (λ (b : Bool). b) flags + 1 ≤ length flags
few_flags flags n here free =
    omega (arith, count_flag flags n here free, count_by-le-length (λ (b : Bool). b) (slice_set flags n true), length-set flags n true)

-- the marks with one more weak page
pub marked_page : (chip : ChipLines) (marks new : ChipMarks) (weak : Weak) → IsMarked chip marks → weak.kind ≡ Program →
    weak.at < page_count chip.geometry → not (flag_at marks.programs.items weak.at) ≡ true →
    new.bad.items ≡ marks.bad.items → new.programs.items ≡ slice_set marks.programs.items weak.at true →
    new.erases.items ≡ marks.erases.items → new.used.items ≡ marks.used.items → new.weak_programs ≡ marks.weak_programs + 1 →
    new.bus ≡ marks.bus → IsMarked (with_detail_line (WeakAt weak) chip) new
marked_page chip marks new weak m kind here free bad programs erases used count bus =
    let more : ChipLines = with_detail_line (WeakAt weak) chip in
    let clear : flag_at marks.programs.items weak.at ≡ false = not-true (flag_at marks.programs.items weak.at) free in
    let within : weak.at < length marks.programs.items = omega (arith, m.programs.count_is) in
    let one : weak_programs more ≡ weak_programs chip + 1 =
    count_step chip weak ∙ ap (λ k. weak_programs chip + cond (is_program k) 1 0) kind in
    record {
      bad = subst (λ fs. Tells fs chip.geometry.blocks (has_number (bad_blocks more))) (sym bad)
          (subst (λ bs. Tells marks.bad.items chip.geometry.blocks (has_number bs)) (same_bad chip weak) m.bad);
      different = subst (λ bs. are_different bs ≡ true) (same_bad chip weak) m.different;
      programs = subst (λ fs. Tells fs (page_count chip.geometry) (is_weak more Program)) (sym programs)
          (tells_more marks.programs.items (page_count chip.geometry) (is_weak chip Program) (is_weak more Program) weak.at
          m.programs here (λ n. weak_step chip weak Program n ∙ ap (λ k. is_weak chip Program n || (is_same_kind k Program && eqb weak.at n)) kind));
      erases = subst (λ fs. Tells fs chip.geometry.blocks (is_weak more Erase)) (sym erases) (record {
        count_is = m.erases.count_is;
        flag_is = λ n. m.erases.flag_is n ∙ sym (weak_step chip weak Erase n
            ∙ ap (λ k. is_weak chip Erase n || (is_same_kind k Erase && eqb weak.at n)) kind ∙ or_false (is_weak chip Erase n));
      });
      used = subst (λ fs. Tells fs chip.geometry.blocks (is_used chip.parts)) (sym used) m.used;
      filled = m.filled;
      weak = count ∙ ap (λ n. n + 1) m.weak ∙ sym one;
      counted = one ∙ ap (λ n. n + 1) m.counted ∙ sym (count_flag marks.programs.items weak.at within clear)
          ∙ ap (count_by (λ (b : Bool). b)) (sym programs);
      bus = bus ∙ m.bus ∙ sym (same_bus chip weak);
    }

-- the marks with one more weak block
pub marked_block : (chip : ChipLines) (marks new : ChipMarks) (weak : Weak) → IsMarked chip marks → weak.kind ≡ Erase →
    weak.at < chip.geometry.blocks → new.bad.items ≡ marks.bad.items → new.programs.items ≡ marks.programs.items →
    new.erases.items ≡ slice_set marks.erases.items weak.at true → new.used.items ≡ marks.used.items →
    new.weak_programs ≡ marks.weak_programs → new.bus ≡ marks.bus → IsMarked (with_detail_line (WeakAt weak) chip) new
marked_block chip marks new weak m kind here bad programs erases used count bus =
    let more : ChipLines = with_detail_line (WeakAt weak) chip in
    let none : weak_programs more ≡ weak_programs chip =
    count_step chip weak ∙ ap (λ k. weak_programs chip + cond (is_program k) 1 0) kind ∙ omega arith in
    record {
      bad = subst (λ fs. Tells fs chip.geometry.blocks (has_number (bad_blocks more))) (sym bad)
          (subst (λ bs. Tells marks.bad.items chip.geometry.blocks (has_number bs)) (same_bad chip weak) m.bad);
      different = subst (λ bs. are_different bs ≡ true) (same_bad chip weak) m.different;
      programs = subst (λ fs. Tells fs (page_count chip.geometry) (is_weak more Program)) (sym programs) (record {
        count_is = m.programs.count_is;
        flag_is = λ n. m.programs.flag_is n ∙ sym (weak_step chip weak Program n
            ∙ ap (λ k. is_weak chip Program n || (is_same_kind k Program && eqb weak.at n)) kind ∙ or_false (is_weak chip Program n));
      });
      erases = subst (λ fs. Tells fs chip.geometry.blocks (is_weak more Erase)) (sym erases)
          (tells_more marks.erases.items chip.geometry.blocks (is_weak chip Erase) (is_weak more Erase) weak.at
          m.erases here (λ n. weak_step chip weak Erase n ∙ ap (λ k. is_weak chip Erase n || (is_same_kind k Erase && eqb weak.at n)) kind));
      used = subst (λ fs. Tells fs chip.geometry.blocks (is_used chip.parts)) (sym used) m.used;
      filled = m.filled;
      weak = count ∙ m.weak ∙ sym none;
      counted = none ∙ m.counted ∙ ap (count_by (λ (b : Bool). b)) (sym programs);
      bus = bus ∙ m.bus ∙ sym (same_bus chip weak);
    }

two_kept : (a b : Bool) (k l : PlanKind) → a ≡ true → b ≡ true → (rule a k >>= λ (u : Unit {0}). rule b l) ≡ Ok tt
two_kept true true k l e f = refl
two_kept true false k l e f = absurd (cc f)
two_kept false b k l e f = absurd (cc e)

-- the rules of a weak place that is there and free
pub weak_kept : (chip : ChipLines) (weak : Weak) → ltb weak.at (place_count chip.geometry weak.kind) ≡ true →
    not (is_weak chip weak.kind weak.at) ≡ true → weak_rules chip weak ≡ Ok tt
weak_kept chip weak there free =
    two_kept (ltb weak.at (place_count chip.geometry weak.kind)) (not (is_weak chip weak.kind weak.at)) OutOfChip Overlap there free
