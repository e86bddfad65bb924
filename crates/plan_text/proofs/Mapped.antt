-- A list gone through item by item, and the list of images made so far.
use Rattle.std.proofs.Common.{◌≡◌, ◌∙◌, List, [], ◌∷◌, ◌++◌, map, sym, ap, subst, append_assoc}
use Rattle.std.specs.Prelude.{All}
use Rattle.std.proofs.lemmas.List.Elements.{All-head, All-tail}

-- the images so far and what is left make the whole
pub mapped_on : {A B : Type 0} (f : A → B) (made next : List B) (rest later : List A) (x : A) (y : B) (whole : List B) →
    made ++ map f rest ≡ whole → rest ≡ x ∷ later → y ≡ f x → next ≡ made ++ y ∷ [] → next ++ map f later ≡ whole
mapped_on {B = B} f made next rest later x y whole h split is push =
    ap (λ (out : List B). out ++ map f later) (push ∙ ap (λ (z : B). made ++ z ∷ []) is)
    ∙ append_assoc made (f x ∷ []) (map f later)
    ∙ ap (λ xs. made ++ map f xs) (sym split) ∙ h

pub all_first : {A : Type 0} (P : A → Type 0) (rest later : List A) (x : A) → All P rest → rest ≡ x ∷ later → P x
all_first P rest later x h split = All-head P x later (subst (All P) split h)

pub all_later : {A : Type 0} (P : A → Type 0) (rest later : List A) (x : A) → All P rest → rest ≡ x ∷ later → All P later
all_later P rest later x h split = All-tail P x later (subst (All P) split h)
