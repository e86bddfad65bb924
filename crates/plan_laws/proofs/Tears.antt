-- A tear of a word is read again from its text.
use Rattle.std.proofs.Common.{◌≡◌, ◌∙◌, ℕ, suc, ◌^◌, ◌≤◌, ◌<◌, Bool, true, false, not, eqb, leb, ltb, List, [], ◌∷◌, ◌++◌, length, map, Option, Some, None, Ok, inl, sym, ap, refl, subst, arith, append_assoc}
use Rattle.std.specs.Prelude.{◌&&◌, codes, cond, decimal, bytes_eq}
use Rattle.std.specs.List.{list_all}
use Rattle.std.proofs.lemmas.Bool.{and_from, and_parts, leb-true, le-leb, ltb-true, lt-ltb}
use Rattle.std.proofs.lemmas.List.Folds.{list_all-append}
use Rattle.std.proofs.lemmas.Fmt.{decimal_is_IsNumeral}
use Rattle.nand_model.specs.declared.tear.Tear.{Tear}
use Rattle.nand_model.specs.declared.tear.Tear.TheVariants.{Nothing, Everything, Seed as FromSeed, Spans}
use Rattle.lab_text.specs.Text.{with_byte}
use Rattle.plan_grammar.specs.declared.kind.PlanKind.TheVariants.{BadNumber}
use Rattle.plan_grammar.specs.Limits.{longest_page}
use Rattle.plan_grammar.specs.Forms.{number, parts_between, halves, span_from, spans_from, after_front, long_tear, tear}
use Rattle.plan_grammar.specs.Canonical.{joined, span_text, tear_text}
use Rattle.plan_laws.proofs.Steps.{kept, rule_kept, found, step, rule_step, there_step, ok_same}
use Rattle.plan_laws.proofs.Words.{is_letter, is_word}
use Rattle.plan_laws.proofs.Numbers.{number_fits, number_again, digits_letters}
use Rattle.plan_laws.proofs.Separators.{lacks, part_alone, part_before, halves_again, decimal_lacks}

-- a span that begins at or after a place
pub record IsSpan (end : ℕ) (span : ℕ × ℕ) : Type 0 where
  pub from : end ≤ span.0
  pub some : span.0 < span.1
  pub within : span.1 ≤ longest_page

abbrev span_test : ℕ → ℕ × ℕ → Bool
span_test end span = leb end span.0 && ltb span.0 span.1 && leb span.1 longest_page

span_by_test : (end : ℕ) (span : ℕ × ℕ) → span_test end span ≡ true → IsSpan end span
span_by_test end span h =
    let outer = and_parts (leb end span.0 && ltb span.0 span.1) (leb span.1 longest_page) h in
    let inner = and_parts (leb end span.0) (ltb span.0 span.1) outer.0 in
    record {
      from = leb-true end span.0 inner.0;
      some = ltb-true span.0 span.1 inner.1;
      within = leb-true span.1 longest_page outer.1;
    }

test_of_span : (end : ℕ) (span : ℕ × ℕ) → IsSpan end span → span_test end span ≡ true
test_of_span end span h =
    and_from (leb end span.0 && ltb span.0 span.1) (leb span.1 longest_page)
    (and_from (leb end span.0) (ltb span.0 span.1) (le-leb end span.0 h.from) (lt-ltb span.0 span.1 h.some))
    (le-leb span.1 longest_page h.within)

span_kept : (end : ℕ) (text : List ℕ) (span : ℕ × ℕ) → span_from end text ≡ Ok span → IsSpan end span
unfolding span_from
span_kept end text span e =
    let one = found (halves 45 text) BadNumber _ span e in
    let two = kept (number one.value.0) _ span one.further in
    let three = kept (number one.value.1) _ span two.further in
    let four = rule_kept (span_test end (two.value, three.value)) BadNumber _ span three.further in
    subst (IsSpan end) (ok_same (two.value, three.value) span four.1) (span_by_test end (two.value, three.value) four.0)

abbrev dash_text : ℕ × ℕ → List ℕ
dash_text span = decimal span.0 ++ 45 ∷ decimal span.1

span_text-is : (span : ℕ × ℕ) → span_text span ≡ dash_text span
span_text-is (first, last) = append_assoc (decimal first) (codes "-") (decimal last)

span_again : (end : ℕ) (span : ℕ × ℕ) → IsSpan end span → span_from end (span_text span) ≡ Ok span
unfolding span_from
span_again end span h =
    let first : span.0 < 2 ^ 64 = omega (arith, h.some, h.within) in
    let last : span.1 < 2 ^ 64 = omega (arith, h.within) in
    let cut = ap (halves 45) (span_text-is span)
    ∙ halves_again 45 (decimal span.0) (decimal span.1) (decimal_lacks 45 span.0 (inl (omega arith)) first)
    (decimal_lacks 45 span.1 (inl (omega arith)) last) refl in
    there_step (halves 45 (span_text span)) BadNumber _ (decimal span.0, decimal span.1) span cut
    (step (number (decimal span.0)) _ span.0 span (number_again span.0 first)
    (step (number (decimal span.1)) _ span.1 span (number_again span.1 last)
    (rule_step (span_test end span) BadNumber _ span (test_of_span end span h) refl)))

-- spans one after the other
abbrev pub AreSpans : ℕ → List (ℕ × ℕ) → Type 0
AreSpans end [] = Unit {0}
AreSpans end (span ∷ spans) = IsSpan end span × AreSpans span.1 spans

spans_kept : (end : ℕ) (texts : List (List ℕ)) (spans : List (ℕ × ℕ)) → spans_from end texts ≡ Ok spans →
    AreSpans end spans × (length spans ≡ length texts)
unfolding spans_from
spans_kept end [] spans e =
    let same : [] ≡ spans = ok_same [] spans e in
    (subst (AreSpans end) same tt, ap length (sym same))
spans_kept end (text ∷ texts) spans e =
    let one = kept (span_from end text) _ spans e in
    let two = kept (spans_from one.value.1 texts) _ spans one.further in
    let same : one.value ∷ two.value ≡ spans = ok_same (one.value ∷ two.value) spans two.further in
    let others = spans_kept one.value.1 texts two.value two.is in (
      subst (AreSpans end) same (span_kept end text one.value one.is, others.0),
      ap length (sym same) ∙ ap suc others.1,
    )

spans_again : (end : ℕ) (spans : List (ℕ × ℕ)) → AreSpans end spans → spans_from end (map span_text spans) ≡ Ok spans
unfolding spans_from
spans_again end [] h = refl
spans_again end (span ∷ spans) h =
    step (span_from end (span_text span)) _ span (span ∷ spans) (span_again end span h.0)
    (step (spans_from span.1 (map span_text spans)) _ spans (span ∷ spans) (spans_again span.1 spans h.1) refl)

-- a span's text has no comma
span_lacks : (end : ℕ) (span : ℕ × ℕ) → IsSpan end span → lacks 44 (span_text span) ≡ true
span_lacks end span h =
    ap (lacks 44) (span_text-is span)
    ∙ list_all-append (λ b. not (eqb b 44)) (decimal span.0) (45 ∷ decimal span.1)
    ∙ and_from (lacks 44 (decimal span.0)) (lacks 44 (45 ∷ decimal span.1))
    (decimal_lacks 44 span.0 (inl (omega arith)) (omega (arith, h.some, h.within)))
    (decimal_lacks 44 span.1 (inl (omega arith)) (omega (arith, h.within)))

texts_again : (end : ℕ) (span : ℕ × ℕ) (spans : List (ℕ × ℕ)) → AreSpans end (span ∷ spans) →
    parts_between 44 (joined 44 (map span_text (span ∷ spans))) ≡ map span_text (span ∷ spans)
texts_again end span [] h = part_alone 44 (span_text span) (span_lacks end span h.0)
texts_again end span (next ∷ spans) h =
    part_before 44 (span_text span) (joined 44 (map span_text (next ∷ spans))) (span_lacks end span h.0) refl
    ∙ ap (λ texts. span_text span ∷ texts) (texts_again span.1 next spans h.1)

-- a tear that a plan may have
abbrev pub IsTear : Tear → Type 0
IsTear Nothing = Unit {0}
IsTear Everything = Unit {0}
IsTear (FromSeed n) = n < 2 ^ 64
IsTear (Spans spans) = AreSpans 0 spans × (0 < length spans)

parts_some : (text : List ℕ) → 0 < length (parts_between 44 text)
parts_some [] = omega arith
parts_some (b ∷ bs) = by (eqb b 44) (parts_between 44 bs) (parts_some bs)
  where
    by : (c : Bool) (parts : List (List ℕ)) → 0 < length parts →
        0 < length (cond c ([] ∷ parts) (with_byte b parts))
    by true parts h = omega arith
    by false [] h = omega arith
    by false (part ∷ parts) h = omega arith

long_kept : (seed spans : Option (List ℕ)) (t : Tear) → long_tear seed spans ≡ Ok t → IsTear t
long_kept (Some text) spans t e =
    let one = kept (number text) _ t e in
    subst IsTear (ok_same (FromSeed one.value) t one.further) (number_fits text one.value one.is)
long_kept None (Some text) t e =
    let one = kept (spans_from 0 (parts_between 44 text)) _ t e in
    let all = spans_kept 0 (parts_between 44 text) one.value one.is in
    subst IsTear (ok_same (Spans one.value) t one.further) (all.0, omega (arith, all.1, parts_some text))
long_kept None None t e = absurd (cc e)

tear_by : (a b : Bool) (seed spans : Option (List ℕ)) (t : Tear) →
    cond a (Ok Nothing) (cond b (Ok Everything) (long_tear seed spans)) ≡ Ok t → IsTear t
tear_by true b seed spans t e = subst IsTear (ok_same Nothing t e) tt
tear_by false true seed spans t e = subst IsTear (ok_same Everything t e) tt
tear_by false false seed spans t e = long_kept seed spans t e

pub tear_kept : (w : List ℕ) (t : Tear) → tear w ≡ Ok t → IsTear t
unfolding tear
tear_kept w t e = tear_by (bytes_eq w (codes "none")) (bytes_eq w (codes "all")) (after_front (codes "seed:") w)
    (after_front (codes "spans:") w) t e

seed_front : (text : List ℕ) → after_front (codes "seed:") (codes "seed:" ++ text) ≡ Some text
unfolding after_front
seed_front text = refl

no_seed_front : (text : List ℕ) → after_front (codes "seed:") (codes "spans:" ++ text) ≡ None
unfolding after_front
no_seed_front text = refl

spans_front : (text : List ℕ) → after_front (codes "spans:") (codes "spans:" ++ text) ≡ Some text
unfolding after_front
spans_front text = refl

pub tear_again : (t : Tear) → IsTear t → tear (tear_text t) ≡ Ok t
unfolding tear
tear_again Nothing h = refl
tear_again Everything h = refl
tear_again (FromSeed n) h =
    rw (seed_front (decimal n)) (step (number (decimal n)) _ n (FromSeed n) (number_again n h) refl)
tear_again (Spans []) h = absurd (omega (arith, h.1))
tear_again (Spans (span ∷ spans)) h =
    let text : List ℕ = joined 44 (map span_text (span ∷ spans)) in
    rw (no_seed_front text, spans_front text)
    (step (spans_from 0 (parts_between 44 text)) _ (span ∷ spans) (Spans (span ∷ spans))
    (ap (spans_from 0) (texts_again 0 span spans h.0) ∙ spans_again 0 (span ∷ spans) h.0) refl)

decimal_letters : (n : ℕ) → n < 2 ^ 64 → list_all is_letter (decimal n) ≡ true
decimal_letters n h = digits_letters (decimal n) (decimal_is_IsNumeral n h).0.1

span_letters : (end : ℕ) (span : ℕ × ℕ) → IsSpan end span → list_all is_letter (span_text span) ≡ true
span_letters end span h =
    ap (list_all is_letter) (span_text-is span)
    ∙ list_all-append is_letter (decimal span.0) (45 ∷ decimal span.1)
    ∙ and_from (list_all is_letter (decimal span.0)) (list_all is_letter (45 ∷ decimal span.1))
    (decimal_letters span.0 (omega (arith, h.some, h.within))) (decimal_letters span.1 (omega (arith, h.within)))

spans_letters : (end : ℕ) (spans : List (ℕ × ℕ)) → AreSpans end spans →
    list_all is_letter (joined 44 (map span_text spans)) ≡ true
spans_letters end [] h = refl
spans_letters end (span ∷ []) h = span_letters end span h.0
spans_letters end (span ∷ next ∷ spans) h =
    list_all-append is_letter (span_text span) (44 ∷ joined 44 (map span_text (next ∷ spans)))
    ∙ and_from (list_all is_letter (span_text span)) (list_all is_letter (44 ∷ joined 44 (map span_text (next ∷ spans))))
    (span_letters end span h.0) (spans_letters span.1 (next ∷ spans) h.1)

-- the text of a tear is a word
pub tear_word : (t : Tear) → IsTear t → is_word (tear_text t) ≡ true
tear_word Nothing h = refl
tear_word Everything h = refl
tear_word (FromSeed n) h = decimal_letters n h
tear_word (Spans spans) h = spans_letters 0 spans h.0
