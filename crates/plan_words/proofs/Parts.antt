-- The parts of a text between separators.
use Rattle.std.proofs.Common.{◌≡◌, ◌∙◌, ℕ, suc, ◌+◌, ◌<◌, ◌≤◌, ◌==◌, true, false, Bool, ltb, ◌-◌, List, [], ◌∷◌, length, take, drop, sym, ap, refl, arith, Option, Some, None, cond, ⊎_elim}
use Rattle.std.proofs.lemmas.List.{take_all, length-drop}
use Rattle.std.specs.List.{position, position_or_len}
use Rattle.std.proofs.lemmas.Bool.{cases_Bool, ltb-true, ltb-false, cond-true, cond-false, not_from_true, not_from_false}
use Rattle.lab_text.specs.Text.{with_byte}
use Rattle.plan_grammar.specs.Forms.{parts_between, pair_of, halves}

-- how many bytes stand before the first separator
abbrev pub before_separator : ℕ → List ℕ → ℕ
before_separator separator text = position_or_len (λ byte. byte == separator) text

passed : (separator b : ℕ) (bs : List ℕ) → (b == separator) ≡ false →
    before_separator separator (b ∷ bs) ≡ suc (before_separator separator bs)
passed separator b bs h =
    let more : 1 + before_separator separator bs ≡ suc (before_separator separator bs) = omega arith in
    cond-true _ (1 + before_separator separator bs) 0 (not_from_false _ h) ∙ more

met : (separator b : ℕ) (bs : List ℕ) → (b == separator) ≡ true → before_separator separator (b ∷ bs) ≡ 0
met separator b bs h = cond-false _ (1 + before_separator separator bs) 0 (not_from_true _ h)

-- the parts where n bytes stand before the first separator
abbrev split_at : ℕ → List ℕ → ℕ → List (List ℕ)
split_at separator text n = take n text ∷ parts_between separator (drop (suc n) text)

-- the part before the first separator, and the parts after it
pub first_part : (separator : ℕ) (text : List ℕ) → before_separator separator text < length text →
    parts_between separator text ≡ split_at separator text (before_separator separator text)
first_part separator [] h = absurd (omega (arith, h))
first_part separator (b ∷ bs) h = ⊎_elim
    (λ k. cond-true _ _ _ k ∙ sym (ap (split_at separator (b ∷ bs)) (met separator b bs k)))
    (λ k.
    let e = passed separator b bs k in
    let within : before_separator separator bs < length bs = omega (arith, h, e) in
    cond-false _ _ _ k ∙ ap (with_byte b) (first_part separator bs within)
    ∙ sym (ap (split_at separator (b ∷ bs)) e))
    (cases_Bool (b == separator))

-- a text without the separator
pub only_part : (separator : ℕ) (text : List ℕ) → length text ≤ before_separator separator text →
    parts_between separator text ≡ text ∷ []
only_part separator [] h = refl
only_part separator (b ∷ bs) h = ⊎_elim
    (λ k. absurd (omega (arith, h, met separator b bs k)))
    (λ k.
    let e = passed separator b bs k in
    let over : length bs ≤ before_separator separator bs = omega (arith, h, e) in
    cond-false _ _ _ k ∙ ap (with_byte b) (only_part separator bs over))
    (cases_Bool (b == separator))

-- where a separator was looked for
abbrev place_in : Bool → ℕ → Option ℕ
place_in found n = cond found (Some n) None

found_place : (found : Bool) (n i : ℕ) → place_in found n ≡ Some i → (found ≡ true) × (n ≡ i)
found_place true n i e = (refl, cc)
found_place false n i e = absurd (cc)

no_place : (found : Bool) (n : ℕ) → place_in found n ≡ None → found ≡ false
no_place true n e = absurd (cc)
no_place false n e = refl

-- no separator was found
pub parts_without : (separator : ℕ) (text : List ℕ) → position (λ byte. byte == separator) text ≡ None →
    parts_between separator text ≡ text ∷ []
parts_without separator text e =
    only_part separator text (ltb-false (before_separator separator text) (length text) (no_place _ _ e))

-- a separator was found at a place
pub parts_around : (separator : ℕ) (text : List ℕ) (place : ℕ) →
    position (λ byte. byte == separator) text ≡ Some place →
    parts_between separator text
    ≡ take place text ∷ parts_between separator (take (length text - (place + 1)) (drop (place + 1) text))
parts_around separator text place e =
    let found = found_place (ltb (before_separator separator text) (length text)) _ place e in
    let next : suc place ≡ place + 1 = omega arith in
    let rest = drop (place + 1) text in
    let size : length rest ≤ length text - (place + 1) = omega (arith, length-drop (place + 1) text) in
    first_part separator text (ltb-true _ _ found.0) ∙ ap (split_at separator text) found.1
    ∙ ap (λ n. take place text ∷ parts_between separator (drop n text)) next
    ∙ ap (λ (xs : List ℕ). take place text ∷ parts_between separator xs) (sym (take_all (length text - (place
    + 1)) rest size))

-- there are three parts or more
no_pair : (first second : List ℕ) (parts : List (List ℕ)) → 0 < length parts → pair_of (first ∷ second ∷ parts) ≡ None
no_pair first second [] some = absurd (omega (arith, some))
no_pair first second (third ∷ parts) some = refl

-- a text has a part
with_byte_some : (byte : ℕ) (parts : List (List ℕ)) → 0 < length (with_byte byte parts)
with_byte_some byte [] = omega arith
with_byte_some byte (part ∷ parts) = omega arith

some_by : (ends : Bool) (byte : ℕ) (parts : List (List ℕ)) →
    0 < length (cond ends ([] ∷ parts) (with_byte byte parts))
some_by true byte parts = omega arith
some_by false byte parts = with_byte_some byte parts

some_parts : (separator : ℕ) (text : List ℕ) → 0 < length (parts_between separator text)
some_parts separator [] = omega arith
some_parts separator (b ∷ bs) = some_by (b == separator) b (parts_between separator bs)

-- a text with two separators
pub not_halved : (separator : ℕ) (text first rest second more : List ℕ) →
    parts_between separator text ≡ first ∷ parts_between separator rest →
    parts_between separator rest ≡ second ∷ parts_between separator more → halves separator text ≡ None
unfolding halves
not_halved separator text first rest second more e f =
    ap pair_of (e ∙ ap (λ (parts : List (List ℕ)). first ∷ parts) f)
    ∙ no_pair first second (parts_between separator more) (some_parts separator more)
