-- The flips of a controller.
use Rattle.std.proofs.Common.{◌≡◌, ◌∙◌, ℕ, List, [], ◌∷◌, ◌++◌, sym, ap, refl, append_assoc}
use Rattle.std.specs.Prelude.{◌==◌, if◌then◌else◌, flat_map}
use Rattle.std.proofs.lemmas.List.{append-nil}
use Rattle.nand_model.specs.declared.words.Flip.{Flip}
use Rattle.plan_model.specs.Plan.{items_of}
use Rattle.plan_grammar.specs.declared.lines.FaultLine.{FaultLine}
use Rattle.plan_grammar.specs.Meaning.{flips_in}
use Rattle.plan_text.specs.Boot.{flips_for}

items_of-append : {A : Type 0} (c : ℕ) (xs ys : List (ℕ × A)) → items_of c (xs ++ ys) ≡ items_of c xs ++ items_of c ys
items_of-append c [] ys = refl
items_of-append c ((d, x) ∷ xs) ys =
    ap (λ zs. (if c == d then x ∷ [] else []) ++ zs) (items_of-append c xs ys)
    ∙ sym (append_assoc (if c == d then x ∷ [] else []) (items_of c xs) (items_of c ys))

flips_for-cons : (c : ℕ) (fault : FaultLine) (faults : List FaultLine) → flips_for c (fault ∷ faults) ≡ flips_for c (fault ∷ []) ++ flips_for c faults
flips_for-cons c fault faults =
    items_of-append c (flips_in fault) (flat_map flips_in faults)
    ∙ ap (λ (fs : List (ℕ × Flip)). items_of c fs ++ flips_for c faults) (sym (append-nil (flips_in fault)))

-- the flips so far and what is left make the whole
pub flips_more : (c : ℕ) (now next whole : List Flip) (rest later : List FaultLine) (fault : FaultLine) → now ++ flips_for c rest ≡ whole →
    rest ≡ fault ∷ later → next ≡ now ++ flips_for c (fault ∷ []) → next ++ flips_for c later ≡ whole
flips_more c now next whole rest later fault h split push =
    ap (λ (fs : List Flip). fs ++ flips_for c later) push ∙ append_assoc now (flips_for c (fault ∷ [])) (flips_for c later)
    ∙ ap (λ (fs : List Flip). now ++ fs) (sym (flips_for-cons c fault later))
    ∙ ap (λ (fs : List FaultLine). now ++ flips_for c fs) (sym split) ∙ h
