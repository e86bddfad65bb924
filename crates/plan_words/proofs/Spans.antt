-- Spans that are taken one after the other.
use Rattle.std.proofs.Common.{◌≡◌, ◌∙◌, ℕ, List, [], ◌∷◌, ◌++◌, ap, refl, sym, Result, Ok, Err}
use Rattle.plan_grammar.specs.declared.kind.PlanKind.{PlanKind}
use Rattle.plan_grammar.specs.Rules.{◌>>=◌}
use Rattle.plan_grammar.specs.Forms.{span_from, spans_from}
use Rattle.plan_words.proofs.Growing.{with_items, one_more}

abbrev pub Spans : Type 0
Spans = Result (List (ℕ × ℕ)) PlanKind

-- what the texts are where the first of them was read so
abbrev spans_by : List (List ℕ) → Result (ℕ × ℕ) PlanKind → Spans
spans_by texts found = found >>= λ span. spans_from span.1 texts >>= λ spans. Ok (span ∷ spans)

first_of : (end : ℕ) (text : List ℕ) (texts : List (List ℕ)) →
    spans_from end (text ∷ texts) ≡ spans_by texts (span_from end text)
unfolding spans_from
first_of end text texts = refl

none_left : (end : ℕ) → spans_from end [] ≡ Ok []
unfolding spans_from
none_left end = refl

-- a text that is one more span
pub one_more_span : (whole : Spans) (xs ys : List (ℕ × ℕ)) (end : ℕ) (left : List (List ℕ)) (text : List ℕ)
    (texts : List (List ℕ)) (span : ℕ × ℕ) → whole ≡ with_items xs (spans_from end left) → left ≡ text ∷ texts →
    span_from end text ≡ Ok span → ys ≡ xs ++ span ∷ [] → whole ≡ with_items ys (spans_from span.1 texts)
one_more_span whole xs ys end left text texts span so_far next is_span more =
    so_far ∙ ap (λ ts. with_items xs (spans_from end ts)) next ∙ ap (with_items xs) (first_of end text texts)
    ∙ ap (λ (r : Result (ℕ × ℕ) PlanKind). with_items xs (spans_by texts r)) is_span
    ∙ one_more xs span (spans_from span.1 texts)
    ∙ sym (ap (λ (zs : List (ℕ × ℕ)). with_items zs (spans_from span.1 texts)) more)

-- a text that is none
pub no_span : (whole : Spans) (xs : List (ℕ × ℕ)) (end : ℕ) (left : List (List ℕ)) (text : List ℕ)
    (texts : List (List ℕ)) (kind : PlanKind) → whole ≡ with_items xs (spans_from end left) → left ≡ text ∷ texts →
    span_from end text ≡ Err kind → whole ≡ Err kind
no_span whole xs end left text texts kind so_far next is_none =
    so_far ∙ ap (λ ts. with_items xs (spans_from end ts)) next ∙ ap (with_items xs) (first_of end text texts)
    ∙ ap (λ (r : Result (ℕ × ℕ) PlanKind). with_items xs (spans_by texts r)) is_none

-- the last text
pub last_span : (whole : Spans) (xs ys : List (ℕ × ℕ)) (end : ℕ) (left : List (List ℕ)) (text : List ℕ)
    (span : ℕ × ℕ) → whole ≡ with_items xs (spans_from end left) → left ≡ text ∷ [] →
    span_from end text ≡ Ok span → ys ≡ xs ++ span ∷ [] → whole ≡ Ok ys
last_span whole xs ys end left text span so_far next is_span more =
    so_far ∙ ap (λ ts. with_items xs (spans_from end ts)) next ∙ ap (with_items xs) (first_of end text [])
    ∙ ap (λ (r : Result (ℕ × ℕ) PlanKind). with_items xs (spans_by [] r)) is_span
    ∙ ap (λ (r : Spans). with_items xs (r >>= λ spans. Ok (span ∷ spans))) (none_left span.1) ∙ ap Ok (sym more)
