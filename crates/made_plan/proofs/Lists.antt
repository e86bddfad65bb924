-- Lists with one item more.
use Rattle.std.proofs.Common.{◌≡◌, ◌∙◌, ℕ, ◌+◌, List, [], ◌∷◌, ◌++◌, map, refl, ap, sym}
use Rattle.std.specs.Prelude.{All}
use Rattle.std.specs.List.{AllByRecursion}
use Rattle.std.proofs.lemmas.List.Elements.{All-cons, All-nil, All-head, All-tail}
use Rattle.nand_model.specs.Sizes.{numbers_from}
use Rattle.ecc_page.proofs.Runs.{map-numbers_more}
use Rattle.plan_grammar.specs.Rules.{with_last}

-- another last item, where it stands behind others
pub with_last_push : {A : Type 0} (change : A → A) (xs : List A) (x : A) → with_last change (xs ++ x ∷ []) ≡ xs ++ change x ∷ []
with_last_push change [] x = refl
with_last_push change (y ∷ []) x = refl
with_last_push change (y ∷ z ∷ xs) x = ap (λ l. y ∷ l) (with_last_push change (z ∷ xs) x)

-- what all items pass, the last one and those before it pass
pub all_pushed : {A : Type 0} (P : A → Type 0) (xs : List A) (x : A) → All P (xs ++ x ∷ []) → All P xs × P x
all_pushed P [] x h = (All-nil P, All-head P x [] h)
all_pushed P (y ∷ xs) x h =
    let later = all_pushed P xs x (All-tail P y (xs ++ x ∷ []) h) in
    (All-cons P y xs (All-head P y (xs ++ x ∷ []) h) later.0, later.1)

-- one more item that passes
pub passed_push : {A : Type 0} (P : A → Type 0) (xs : List A) (x : A) → AllByRecursion P xs → P x → AllByRecursion P (xs ++ x ∷ [])
passed_push P [] x h p = (p, tt)
passed_push P (y ∷ xs) x h p = (h.0, passed_push P xs x h.1 p)

-- items that pass, behind others that do
pub passed_append : {A : Type 0} (P : A → Type 0) (xs ys : List A) → AllByRecursion P xs → AllByRecursion P ys → AllByRecursion P (xs ++ ys)
passed_append P [] ys h k = k
passed_append P (x ∷ xs) ys h k = (h.0, passed_append P xs ys h.1 k)

-- a list made of the numbers from 0 on, with one item more
pub made_one_more : {A : Type 0} (f : ℕ → A) (made next : List A) (n : ℕ) (x : A) → made ≡ map f (numbers_from 0 n) → x ≡ f n →
    next ≡ made ++ x ∷ [] → next ≡ map f (numbers_from 0 (n + 1))
made_one_more {A = A} f made next n x so_far is push =
    push ∙ ap (λ (xs : List A). xs ++ x ∷ []) so_far ∙ ap (λ (y : A). map f (numbers_from 0 n) ++ y ∷ []) is ∙ sym (map-numbers_more f n)
