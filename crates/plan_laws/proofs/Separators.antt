-- Texts around separators.
use Rattle.std.proofs.Common.{◌≡◌, ◌∙◌, ℕ, ◌<◌, Bool, true, not, eqb, List, [], ◌∷◌, ◌++◌, Some, refl, ap, arith}
use Rattle.std.specs.Prelude.{◌⊎◌, decimal, ◌^◌}
use Rattle.std.specs.List.{list_all}
use Rattle.std.specs.Str.Parse.{AllDigits}
use Rattle.std.proofs.Common.{⊎_elim}
use Rattle.std.proofs.lemmas.Bool.{and_from, and_parts, cond-false, cond-true, ne_eqb, not-true, not_from_false}
use Rattle.std.proofs.lemmas.Fmt.{decimal_is_IsNumeral}
use Rattle.std.proofs.lemmas.Str.Parse.{digit_from_value}
use Rattle.lab_text.specs.Text.{with_byte}
use Rattle.plan_grammar.specs.Forms.{parts_between, pair_of, halves}

-- the text has no such byte
abbrev pub lacks : ℕ → List ℕ → Bool
lacks separator text = list_all (λ byte. not (eqb byte separator)) text

-- a text without separators, and one before the first of them
pub part_alone : (separator : ℕ) (text : List ℕ) → lacks separator text ≡ true → parts_between separator text ≡ text ∷ []
part_alone separator [] h = refl
part_alone separator (b ∷ bs) h =
    let parts = and_parts (not (eqb b separator)) (lacks separator bs) h in
    cond-false (eqb b separator) _ _ (not-true (eqb b separator) parts.0) ∙ ap (with_byte b) (part_alone separator bs parts.1)

pub part_before : (separator : ℕ) (text rest : List ℕ) → lacks separator text ≡ true → eqb separator separator ≡ true →
    parts_between separator (text ++ separator ∷ rest) ≡ text ∷ parts_between separator rest
part_before separator [] rest h same = cond-true (eqb separator separator) _ _ same
part_before separator (b ∷ bs) rest h same =
    let parts = and_parts (not (eqb b separator)) (lacks separator bs) h in
    cond-false (eqb b separator) _ _ (not-true (eqb b separator) parts.0)
    ∙ ap (with_byte b) (part_before separator bs rest parts.1 same)

pub halves_again : (separator : ℕ) (first second : List ℕ) → lacks separator first ≡ true → lacks separator second ≡ true →
    eqb separator separator ≡ true → halves separator (first ++ separator ∷ second) ≡ Some (first, second)
unfolding halves
halves_again separator first second h k same =
    ap pair_of (part_before separator first second h same ∙ ap (λ texts. first ∷ texts) (part_alone separator second k))

-- digits have no other bytes
pub digits_lack : (separator : ℕ) (ds : List ℕ) → (separator < 48) ⊎ (57 < separator) → AllDigits 10 ds →
    lacks separator ds ≡ true
digits_lack separator [] other h = refl
digits_lack separator (d ∷ ds) other h =
    let k = digit_from_value d h.0 in
    let differs : d ≡ separator → ⊥ = λ e. ⊎_elim (λ low. omega (arith, k, e, low)) (λ high. omega (arith, k, e, high)) other in
    and_from (not (eqb d separator)) (lacks separator ds) (not_from_false (eqb d separator) (ne_eqb d separator differs))
    (digits_lack separator ds other h.1)

pub decimal_lacks : (separator n : ℕ) → (separator < 48) ⊎ (57 < separator) → n < 2 ^ 64 → lacks separator (decimal n) ≡ true
decimal_lacks separator n other h = digits_lack separator (decimal n) other (decimal_is_IsNumeral n h).0.1
