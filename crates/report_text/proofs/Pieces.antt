-- A text that grows by one piece after the other.
use Rattle.std.proofs.Common.{◌≡◌, ◌∙◌, ℕ, List, ◌++◌, ap, refl, sym, append_assoc}
use Rattle.std.specs.Prelude.{OnOk, Result}
use Rattle.std.proofs.lemmas.Result.{IfOk-equal}

-- a piece, and the text behind it
pub then : (start next whole piece text : List ℕ) → next ≡ start ++ piece → whole ≡ next ++ text →
    whole ≡ start ++ (piece ++ text)
then start next whole piece text e f = f ∙ ap (λ (t : List ℕ). t ++ text) e ∙ append_assoc start piece text

-- words and a number behind a text
pub counted : (start next whole text words number : List ℕ) → next ≡ start ++ text →
    whole ≡ next ++ (words ++ number) → whole ≡ start ++ (text ++ words ++ number)
counted start next whole text words number e f =
    then start next whole text (words ++ number) e f
    ∙ ap (λ (t : List ℕ). start ++ t) (sym (append_assoc text words number))

-- the end behind a text
pub ended : {T E : Type 0} (r : Result T E) (start next whole text end : List ℕ) → next ≡ start ++ text →
    OnOk r (whole ≡ next ++ end) → OnOk r (whole ≡ start ++ (text ++ end))
ended r start next whole text end e f =
    IfOk-equal r whole (next ++ end) (start ++ (text ++ end)) f
    (ap (λ (t : List ℕ). t ++ end) e ∙ append_assoc start text end)

-- a name behind a text
pub then_named : {T E : Type 0} (r : Result T E) (start next whole text name wanted : List ℕ) →
    next ≡ start ++ text → name ≡ wanted → OnOk r (whole ≡ next ++ name) → OnOk r (whole ≡ start ++ (text ++ wanted))
then_named r start next whole text name wanted e same f =
    IfOk-equal r whole (start ++ (text ++ name)) (start ++ (text ++ wanted)) (ended r start next whole text name e f)
    (ap (λ (words : List ℕ). start ++ (text ++ words)) same)

-- the two halves of a line
pub halves : {T E : Type 0} (r : Result T E) (start next whole half a b c d e f end : List ℕ) → next ≡ start ++ half →
    OnOk r (whole ≡ next ++ (a ++ b ++ c ++ d ++ e ++ f ++ end)) →
    OnOk r (whole ≡ start ++ (half ++ a ++ b ++ c ++ d ++ e ++ f ++ end))
halves r start next whole half a b c d e f end same put =
    IfOk-equal r whole (start ++ (half ++ (a ++ b ++ c ++ d ++ e ++ f ++ end)))
    (start ++ (half ++ a ++ b ++ c ++ d ++ e ++ f ++ end)) (ended r start next whole half _ same put)
    (ap (λ (text : List ℕ). start ++ text) (joined half a b c d e f end))
  where
    joined : (half a b c d e f end : List ℕ) → half ++ (a ++ b ++ c ++ d ++ e ++ f ++ end)
        ≡ half ++ a ++ b ++ c ++ d ++ e ++ f ++ end
    joined half a b c d e f end = simp append_assoc refl
