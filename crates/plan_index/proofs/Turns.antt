-- Where a loop over a list stands.
use Rattle.std.proofs.Common.{◌≡◌, ◌+◌, ◌<◌, List, ◌∷◌, ◌++◌, length, get_or, take, drop, map, sym, ap, ◌∙◌, subst, arith}
use Rattle.std.proofs.lemmas.List.{take-append-drop, drop_more, length-map}

-- the list is what was seen, this item, and what is left
pub splits_here : {A : Type 0} (all seen : List A) (x : A) → seen ≡ take (length seen) all → length seen < length all →
    x ≡ get_or all (length seen) x → all ≡ seen ++ x ∷ drop (length seen + 1) all
splits_here all seen x front here item =
    let rest : drop (length seen) all ≡ get_or all (length seen) x ∷ drop (length seen + 1) all =
    drop_more all (length seen) x here in
    let rest' : drop (length seen) all ≡ x ∷ drop (length seen + 1) all =
    rest ∙ ap (λ y. y ∷ drop (length seen + 1) all) (sym item) in
    sym (take-append-drop (length seen) all) ∙ ap (λ ys. ys ++ drop (length seen) all) (sym front)
    ∙ ap (λ ys. seen ++ ys) rest'

-- the same by the lemmas on loops, where a function reads the items
pub turn_splits : {A B : Type 0} (v : A → B) (all : List B) (seen : List A) (x : A) → map v seen ≡ take (length seen) all →
    (length seen < length all) × (v x ≡ get_or all (length seen) (v x)) →
    all ≡ map v seen ++ v x ∷ drop (length seen + 1) all
turn_splits v all seen x front turn =
    let n : length (map v seen) ≡ length seen = length-map seen v in
    subst (λ k. all ≡ map v seen ++ v x ∷ drop (k + 1) all) n (splits_here all (map v seen) (v x)
    (front ∙ ap (λ k. take k all) (sym n)) (omega (arith, turn.0, n))
    (turn.1 ∙ ap (λ k. get_or all k (v x)) (sym n)))
