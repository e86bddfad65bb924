-- Numerals by their digits.
use Rattle.std.proofs.Common.{◌≡◌, ◌∙◌, ℕ, ◌+◌, ◌*◌, ◌^◌, ◌<◌, ◌≤◌, true, ltb, Some, None, List, [], ◌∷◌, length, take, get_or, sym, ap, refl, arith, subst}
use Rattle.std.specs.Prelude.{◌&&◌}
use Rattle.std.specs.List.{list_all}
use Rattle.std.specs.Char.{digit_value, is_digit}
use Rattle.std.specs.Str.Parse.{digits_value, AllDigits}
use Rattle.std.proofs.lemmas.Bool.{lt-ltb, le-ltb, cond-true, cond-false, and_from, and_right}
use Rattle.std.proofs.lemmas.List.{take_all}
use Rattle.std.proofs.lemmas.Int.Digits.{digits_value_more}
use Rattle.std.proofs.lemmas.Str.Parse.{digits_value-take-le}
use Rattle.lab_text.specs.Text.{is_numeral, number_in}

-- digits are digits by the test too
pub digits_pass : (base : ℕ) (ds : List ℕ) → AllDigits base ds → list_all (λ d. is_digit d base) ds ≡ true
digits_pass base [] h = refl
digits_pass base (d ∷ ds) h = and_from _ _ (lt-ltb _ _ h.0) (digits_pass base ds h.1)

pub numeral : (base : ℕ) (ds : List ℕ) → AllDigits base ds → 0 < length ds → is_numeral base ds ≡ true
numeral base ds h some = and_from _ _ (lt-ltb _ _ some) (digits_pass base ds h)

-- the digits of a number that fits
pub number_of_digits : (base : ℕ) (ds : List ℕ) → AllDigits base ds → 0 < length ds → digits_value base ds < 2 ^ 64 →
    number_in base ds ≡ Some (digits_value base ds)
number_of_digits base ds h some fits = cond-true _ _ _ (and_from _ _ (numeral base ds h some) (lt-ltb _ _ fits))

-- the first digits of a number that does not fit
pub number_too_large : (base : ℕ) (ds : List ℕ) (i : ℕ) → 1 ≤ base → 2 ^ 64 ≤ digits_value base (take i ds) →
    number_in base ds ≡ None
number_too_large base ds i some large =
    let more = digits_value-take-le base ds i some in
    cond-false (is_numeral base ds && ltb (digits_value base ds) (2 ^ 64)) (Some (digits_value base ds)) None
    (and_right (is_numeral base ds) (ltb (digits_value base ds) (2 ^ 64)) (le-ltb (digits_value base ds) (2 ^ 64)
    (omega (arith, more, large))))

-- one digit more
pub one_digit_more : (base value digit : ℕ) (ds : List ℕ) (i : ℕ) → i < length ds →
    value ≡ digits_value base (take i ds) → digit ≡ digit_value (get_or ds i 0)
    → value * base + digit ≡ digits_value base (take (i + 1) ds)
one_digit_more base value digit ds i h e d =
    ap (λ v. v * base + digit) e ∙ ap (λ n. digits_value base (take i ds) * base + n) d
    ∙ sym (digits_value_more base ds i h)

-- the digits so far are all
pub all_digits : (base value : ℕ) (ds : List ℕ) (i : ℕ) → 0 < length ds → length ds ≤ i →
    AllDigits base (take i ds) → value ≡ digits_value base (take i ds) → value < 2 ^ 64
    → Some value ≡ number_in base ds
all_digits base value ds i some over digits e fits =
    let whole : take i ds ≡ ds = take_all i ds over in
    let same : value ≡ digits_value base ds = e ∙ ap (digits_value base) whole in
    ap Some same ∙ sym (number_of_digits base ds (subst (AllDigits base) whole digits) some (subst (λ
    (n : ℕ). n < 2 ^ 64) same fits))
