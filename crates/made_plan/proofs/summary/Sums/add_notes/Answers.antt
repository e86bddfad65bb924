use Rattle.std.proofs.Common.{◌≡◌, ◌∙◌, ℕ, zero, suc, ◌+◌, List, [], ◌∷◌, ◌++◌, Some, take, sym, ap, arith, append_assoc}
use Rattle.std.specs.Prelude.{slice_get}
use Rattle.std.proofs.lemmas.List.{take_all}
use Rattle.nand_model.specs.declared.words.Note.{Note}
use Rattle.made_plan.specs.Summary.{sums_of}
use Rattle.made_plan.proofs.summary.Sums.add_notes.Goals as goal

taken_suc : {A : Type 0} (xs : List A) (n : ℕ) (x : A) → slice_get xs n ≡ Some x → take (suc n) xs ≡ take n xs ++ x ∷ []
taken_suc [] n x e = absurd (cc e)
taken_suc (y ∷ xs) zero x e = let same : y ≡ x = cc e in ap (λ z. z ∷ []) same
taken_suc (y ∷ xs) (suc n) x e = ap (λ l. y ∷ l) (taken_suc xs n x e)

-- one more item of a front
taken_more : {A : Type 0} (xs : List A) (n : ℕ) (x : A) → slice_get xs n ≡ Some x → take (n + 1) xs ≡ take n xs ++ x ∷ []
taken_more xs n x e = let same : n + 1 ≡ suc n = omega arith in ap (λ m. take m xs) same ∙ taken_suc xs n x e

pub loop-n-preserved : goal.loop-n-preserved
loop-n-preserved c before e =
    let notes : List Note = c.args.notes.now.notes in
    let front : List Note = take c.loop-n.n notes in
    c.add_note.ensures (before ++ front) (c.loop-n.invariant before e)
    ∙ ap sums_of (append_assoc before front (c.get.result.now ∷ [])
    ∙ ap (λ (ns : List Note). before ++ ns) (sym (taken_more notes c.loop-n.n c.get.result.now c.get.ensures)))

pub returns : goal.returns
returns c before e =
    let notes : List Note = c.args.notes.now.notes in
    let whole : take c.loop-n.n notes ≡ notes = take_all c.loop-n.n notes (omega (arith, c.loop-n-test.false, c.len-n-end.ensures)) in
    c.loop-n.invariant before e ∙ ap (λ (ns : List Note). sums_of (before ++ ns)) whole
