-- Items that are tested one after the other.
use Rattle.std.proofs.Common.{◌≡◌, ℕ, ◌+◌, List, [], ◌∷◌, ◌++◌, length, take, Some, ap, subst, ◌∙◌}
use Rattle.std.specs.Prelude.{All, slice_get}
use Rattle.std.proofs.lemmas.List.Elements.{All-get_or, All-push, All-same}
use Rattle.std.proofs.lemmas.Option.{get_or_from_slice_get, slice_get_within}
use Rattle.std.proofs.Math.Seq.{take-length}
use Rattle.report_model.proofs.Printed.{take_next}

-- one more item passes
pub one_passes : {A : Type 0} (P : A → Type 0) (xs : List A) (n : ℕ) (x : A) → slice_get xs n ≡ Some x → All P (take n xs) → P x → All P (take (n + 1) xs)
one_passes P xs n x is_there so_far passes = All-same P (take (n + 1) xs) (take n xs ++ x ∷ []) (take_next xs n x is_there) (All-push P (take n xs) x so_far passes)

-- all have passed
pub all_pass : {A : Type 0} (P : A → Type 0) (xs : List A) (n : ℕ) → n ≡ length xs → All P (take n xs) → All P xs
all_pass P xs n all so_far = subst (All P) (ap (λ m. take m xs) all ∙ take-length xs) so_far

-- where all would pass, this one does
pub this_passes : {A : Type 0} (P : A → Type 0) (xs : List A) (n : ℕ) (x : A) → slice_get xs n ≡ Some x → All P xs → P x
this_passes P xs n x is_there all = subst P (get_or_from_slice_get xs n x x is_there) (All-get_or P xs n x (slice_get_within xs n x is_there) all)
