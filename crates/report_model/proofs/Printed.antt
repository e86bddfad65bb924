-- Texts of items, one after the other.
use Rattle.std.proofs.Common.{◌≡◌, ℕ, suc, ◌+◌, ◌≤◌, List, [], ◌∷◌, ◌++◌, length, take, drop, refl, ap, sym, ◌∙◌, append_assoc, append-nil}
use Rattle.std.specs.Prelude.{flat_map, slice_get, Option, Some, None}
use Rattle.std.proofs.lemmas.Grind.{flat_map-append}
use Rattle.std.proofs.lemmas.Option.{slice_get_within, get_or_from_slice_get}
use Rattle.std.proofs.lemmas.List.{take_more}
use Rattle.std.proofs.Math.Seq.{take-length}

-- one more item is taken
pub take_next : {A : Type 0} (xs : List A) (n : ℕ) (x : A) → slice_get xs n ≡ Some x → take (n + 1) xs ≡ take n xs ++ x ∷ []
take_next xs n x is_there =
    take_more xs n x (slice_get_within xs n x is_there) ∙ ap (λ y. take n xs ++ y ∷ []) (get_or_from_slice_get xs n x x is_there)

-- the text of one more item
pub one_printed : {A : Type 0} (text : A → List ℕ) (out printed first : List ℕ) (xs : List A) (n : ℕ) (x : A) → slice_get xs n ≡ Some x
    → printed ≡ out ++ text x → out ≡ first ++ flat_map text (take n xs) → printed ≡ first ++ flat_map text (take (n + 1) xs)
one_printed text out printed first xs n x is_there is_printed so_far =
    is_printed ∙ ap (λ o. o ++ text x) so_far ∙ append_assoc first (flat_map text (take n xs)) (text x)
    ∙ ap (λ t. first ++ (flat_map text (take n xs) ++ t)) (sym (append-nil (text x)))
    ∙ ap (λ t. first ++ t) (sym (ap (flat_map text) (take_next xs n x is_there) ∙ flat_map-append text (take n xs) (x ∷ [])))

-- the text of all items
pub all_printed : {A : Type 0} (text : A → List ℕ) (out first : List ℕ) (xs : List A) (n : ℕ) → n ≡ length xs
    → out ≡ first ++ flat_map text (take n xs) → out ≡ first ++ flat_map text xs
all_printed text out first xs n all so_far =
    so_far ∙ ap (λ m. first ++ flat_map text (take m xs)) all ∙ ap (λ ys. first ++ flat_map text ys) (take-length xs)
