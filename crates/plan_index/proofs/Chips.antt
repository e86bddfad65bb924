-- The marks of a chip.
use Rattle.std.proofs.Common.{◌≡◌, ℕ, zero, suc, ◌+◌, ◌-◌, Bool, false, ◌||◌, cond, eqb, leb, List, [], ◌∷◌, ◌++◌, length, get_or, replicate, sym, ap, ◌∙◌, subst, refl, arith, ⊎_elim}
use Rattle.std.specs.List.{count_by, filter}
use Rattle.std.proofs.lemmas.List.{get_or-replicate, get_or_past, length-replicate}
use Rattle.std.proofs.lemmas.List.Sums.{sum_by-cons, length-filter}
use Rattle.std.proofs.lemmas.List.Folds.{list_any-append}
use Rattle.std.proofs.lemmas.Bool.{cases_lt}
use Rattle.nand_model.specs.Sizes.{page_count, numbers_from}
use Rattle.nand_model.specs.declared.geometry.Geometry.{Geometry}
use Rattle.nand_model.specs.declared.words.WeakKind.TheVariants.{Program, Erase}
use Rattle.plan_grammar.specs.declared.lines.ChipLines.{ChipLines}
use Rattle.plan_grammar.specs.declared.lines.DetailLine.{DetailLine}
use Rattle.plan_grammar.specs.declared.lines.PartLine.{PartLine}
use Rattle.plan_grammar.specs.Devices.{has_number, bad_table_blocks, is_weak}
use Rattle.plan_grammar.specs.Hardware.{leaves_table_blocks}
use Rattle.plan_index.specs.declared.marks.ChipMarks.{ChipMarks}
use Rattle.plan_index.specs.Places.{Tells, flag_at}
use Rattle.plan_index.specs.Chip.{IsMarked, is_used}

-- two tests that agree count the same
pub count_by_same : {A : Type 0} (p q : A → Bool) → ((x : A) → p x ≡ q x) → (xs : List A) → count_by p xs ≡ count_by q xs
count_by_same p q same [] = refl
count_by_same p q same (x ∷ xs) =
    sum_by-cons (λ y. cond (p y) 1 0) x xs
    ∙ ap (λ b. cond b 1 0 + count_by p xs) (same x)
    ∙ ap (λ n. cond (q x) 1 0 + n) (count_by_same p q same xs)
    ∙ sym (sum_by-cons (λ y. cond (q y) 1 0) x xs)

-- the four numbers from one on
four_from : (f : ℕ) → numbers_from f 4 ≡ f ∷ (f + 1) ∷ (f + 2) ∷ (f + 3) ∷ []
four_from f =
    let two : f + 1 + 1 ≡ f + 2 = omega arith in
    let three : f + 1 + 1 + 1 ≡ f + 3 = omega arith in
    ap (λ k. f ∷ (f + 1) ∷ k ∷ (f + 1 + 1 + 1) ∷ []) two ∙ ap (λ k. f ∷ (f + 1) ∷ (f + 2) ∷ k ∷ []) three

-- the bad ones among the last four, counted by flags and further blocks
pub leaves_is : (g : Geometry) (flags : List Bool) (xs ys : List ℕ) (n : ℕ) → Tells flags g.blocks (has_number xs) →
    eqb g.bbt 0 ≡ false →
    n ≡ length (filter (λ b. flag_at flags b || has_number ys b) ((g.blocks - 4) ∷ (g.blocks - 4 + 1) ∷ (g.blocks - 4 + 2)
    ∷ (g.blocks - 4 + 3) ∷ [])) →
    leb n 2 ≡ leaves_table_blocks g (xs ++ ys)
leaves_is g flags xs ys n tells tables e =
    let f : ℕ = g.blocks - 4 in
    let test : ℕ → Bool = λ b. flag_at flags b || has_number ys b in
    let same : (b : ℕ) → test b ≡ has_number (xs ++ ys) b = λ b. ap (λ t. t || has_number ys b) (tells.flag_is b)
    ∙ sym (list_any-append (λ m. eqb m b) xs ys) in
    let counted : n ≡ bad_table_blocks g (xs ++ ys) =
    e ∙ length-filter test (f ∷ (f + 1) ∷ (f + 2) ∷ (f + 3) ∷ [])
    ∙ count_by_same test (has_number (xs ++ ys)) same (f ∷ (f + 1) ∷ (f + 2) ∷ (f + 3) ∷ [])
    ∙ ap (count_by (has_number (xs ++ ys))) (sym (four_from f)) in
    ap (λ k. leb k 2) counted ∙ sym (ap (λ b. b || leb (bad_table_blocks g (xs ++ ys)) 2) tables)

-- flags none of which is given
pub tells_none : (flags : List Bool) (count : ℕ) (test : ℕ → Bool) → flags ≡ replicate count false →
    ((n : ℕ) → test n ≡ false) → Tells flags count test
tells_none flags count test e none = record {
  count_is = ap length e ∙ length-replicate count false;
  flag_is = λ n. ap (λ fs. get_or fs n false) e ∙ at n ∙ sym (none n);
}
  where
    at : (n : ℕ) → get_or (replicate count false) n false ≡ false
    at n = ⊎_elim (λ here. get_or-replicate count n false false here)
        (λ past. get_or_past (replicate count false) n false (omega (arith, length-replicate count false, past)))
        (cases_lt n count)

count_none : (n : ℕ) → 0 ≡ count_by (λ (flag : Bool). flag) (replicate n false)
count_none zero = refl
count_none (suc n) = count_none n ∙ sym (sum_by-cons (λ (flag : Bool). cond flag 1 0) false (replicate n false) ∙ omega arith)

-- a chip without lines of its own has no marks
pub marked_none : (chip : ChipLines) (marks : ChipMarks) → chip.details ≡ [] → chip.parts ≡ [] →
    marks.bad.items ≡ replicate chip.geometry.blocks false → marks.programs.items ≡ replicate (page_count chip.geometry) false →
    marks.erases.items ≡ replicate chip.geometry.blocks false → marks.used.items ≡ replicate chip.geometry.blocks false →
    marks.weak_programs ≡ 0 → marks.bus ≡ false → IsMarked chip marks
marked_none chip marks details parts bad programs erases used weak bus =
    let with_none : ChipLines = record { geometry = chip.geometry; details = []; parts = [] } in
    let same : with_none ≡ chip =
    ap (λ (ds : List DetailLine). record with_none { details = ds }) (sym details)
    ∙ ap (λ (ps : List PartLine). record { geometry = chip.geometry; details = chip.details; parts = ps }) (sym parts) in
    subst (λ (c : ChipLines). IsMarked c marks) same (record {
      bad = tells_none marks.bad.items chip.geometry.blocks (has_number []) bad (λ n. refl);
      different = refl;
      programs = tells_none marks.programs.items (page_count chip.geometry) (is_weak with_none Program) programs (λ n. refl);
      erases = tells_none marks.erases.items chip.geometry.blocks (is_weak with_none Erase) erases (λ n. refl);
      used = tells_none marks.used.items chip.geometry.blocks (is_used []) used (λ n. refl);
      filled = refl;
      weak = weak;
      counted = count_none (page_count chip.geometry) ∙ ap (count_by (λ (flag : Bool). flag)) (sym programs);
      bus = bus;
    })
