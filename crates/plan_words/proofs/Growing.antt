-- A list that grows by what one word after the other is.
use Rattle.std.proofs.Common.{◌≡◌, ◌∙◌, ℕ, List, [], ◌∷◌, ◌++◌, ap, refl, sym, append_assoc, Result, Ok, Err}
use Rattle.std.proofs.lemmas.List.{append-nil}
use Rattle.plan_grammar.specs.declared.kind.PlanKind.{PlanKind}
use Rattle.plan_words.specs.declared.error.LineError.{LineError}
use Rattle.plan_words.specs.declared.error.LineError.TheVariants.{Broken, OutOfMemory}
use Rattle.plan_words.specs.Answer.{Answers}
use Rattle.plan_grammar.specs.Rules.{◌>>=◌}
use Rattle.plan_grammar.specs.Forms.{number, small_number, piece, numbers, small_numbers, pieces}

-- all words of a list are taken one after the other
pub record TakesEach {A : Type 0} (one : List ℕ → Result A PlanKind) (all : List (List ℕ) → Result (List A) PlanKind) :
    Type 0 where
  pub none : all [] ≡ Ok []
  pub some : (word : List ℕ) (words : List (List ℕ)) →
      all (word ∷ words) ≡ (one word >>= λ x. all words >>= λ xs. Ok (x ∷ xs))

pub each_number : TakesEach number numbers
unfolding numbers
each_number = record { none = refl; some = λ word words. refl }

pub each_small_number : TakesEach small_number small_numbers
unfolding small_numbers
each_small_number = record { none = refl; some = λ word words. refl }

pub each_piece : TakesEach piece pieces
unfolding pieces
each_piece = record { none = refl; some = λ word words. refl }

-- the items so far, and what the other words are
abbrev pub with_items : {A : Type 0} → List A → Result (List A) PlanKind → Result (List A) PlanKind
with_items xs (Ok ys) = Ok (xs ++ ys)
with_items xs (Err kind) = Err kind

pub one_more : {A : Type 0} (xs : List A) (x : A) (others : Result (List A) PlanKind) →
    with_items xs (others >>= λ ys. Ok (x ∷ ys)) ≡ with_items (xs ++ x ∷ []) others
one_more xs x (Ok ys) = ap Ok (sym (append_assoc xs (x ∷ []) ys))
one_more xs x (Err kind) = refl

pub no_more : {A : Type 0} (others : Result (List A) PlanKind) → with_items [] others ≡ others
no_more (Ok ys) = refl
no_more (Err kind) = refl

-- no word was taken yet
pub begun : {A : Type 0} (all : List (List ℕ) → Result (List A) PlanKind) (xs : List A) (words left : List (List ℕ)) →
    xs ≡ [] → left ≡ words → all words ≡ with_items xs (all left)
begun {A} all xs words left e f =
    sym (ap (λ (ys : List A). with_items ys (all left)) e ∙ no_more (all left) ∙ ap all f)

-- a word that is one more item
pub goes_on : {A : Type 0} {one : List ℕ → Result A PlanKind} {all : List (List ℕ) → Result (List A) PlanKind} →
    TakesEach one all → (whole : Result (List A) PlanKind) (xs ys : List A) (left : List (List ℕ)) (word : List ℕ)
    (words : List (List ℕ)) (x : A) → whole ≡ with_items xs (all left) → left ≡ word ∷ words → one word ≡ Ok x →
    ys ≡ xs ++ x ∷ [] → whole ≡ with_items ys (all words)
goes_on {A} {one} {all} each whole xs ys left word words x so_far next is_one more =
    so_far ∙ ap (λ ws. with_items xs (all ws)) next ∙ ap (with_items xs) (each.some word words)
    ∙ ap (λ (r : Result A PlanKind). with_items xs (r >>= λ y. all words >>= λ zs. Ok (y ∷ zs))) is_one
    ∙ one_more xs x (all words) ∙ sym (ap (λ (zs : List A). with_items zs (all words)) more)

-- a word that is none
pub breaks : {A : Type 0} {one : List ℕ → Result A PlanKind} {all : List (List ℕ) → Result (List A) PlanKind} →
    TakesEach one all → (whole : Result (List A) PlanKind) (xs : List A) (left : List (List ℕ)) (word : List ℕ)
    (words : List (List ℕ)) (kind : PlanKind) → whole ≡ with_items xs (all left) → left ≡ word ∷ words →
    one word ≡ Err kind → whole ≡ Err kind
breaks {A} {one} {all} each whole xs left word words kind so_far next is_none =
    so_far ∙ ap (λ ws. with_items xs (all ws)) next ∙ ap (with_items xs) (each.some word words)
    ∙ ap (λ (r : Result A PlanKind). with_items xs (r >>= λ y. all words >>= λ zs. Ok (y ∷ zs))) is_none

-- a word that is none, or no memory is left for it
pub breaks_with : {A : Type 0} {one : List ℕ → Result A PlanKind} {all : List (List ℕ) → Result (List A) PlanKind} →
    TakesEach one all → (whole : Result (List A) PlanKind) (xs : List A) (left : List (List ℕ)) (word : List ℕ)
    (words : List (List ℕ)) (error : LineError) → whole ≡ with_items xs (all left) → left ≡ word ∷ words →
    Answers (Err error) (one word) → Answers (Err error) whole
breaks_with each whole xs left word words (Broken kind) so_far next is_none =
    breaks each whole xs left word words kind so_far next is_none
breaks_with each whole xs left word words OutOfMemory so_far next is_none = tt

-- no word is left
pub ended : {A : Type 0} {one : List ℕ → Result A PlanKind} {all : List (List ℕ) → Result (List A) PlanKind} →
    TakesEach one all → (whole : Result (List A) PlanKind) (xs : List A) (left : List (List ℕ)) →
    whole ≡ with_items xs (all left) → left ≡ [] → whole ≡ Ok xs
ended {A} {one} {all} each whole xs left so_far none =
    so_far ∙ ap (λ ws. with_items xs (all ws)) none ∙ ap (with_items xs) each.none ∙ ap Ok (append-nil xs)
