-- Names, devices and chips are read again from their texts.
use Rattle.std.proofs.Common.{◌≡◌, ◌∙◌, ℕ, ◌^◌, ◌≤◌, ◌<◌, Bool, true, false, not, eqb, leb, get_or, List, [], ◌∷◌, ◌++◌, length, Option, Some, None, ⊎_elim, inl, ap, refl, subst, arith, append_assoc}
use Rattle.std.specs.Prelude.{◌&&◌, codes, cond, decimal}
use Rattle.std.specs.List.{list_all}
use Rattle.std.specs.Char.{is_ascii_alphabetic}
use Rattle.std.proofs.lemmas.Bool.{and_from, and_parts, cond-true, cases_eq, ne_eqb, not_from_false, or_left}
use Rattle.std.proofs.lemmas.List.Folds.{list_all-append}
use Rattle.std.proofs.lemmas.Fmt.{decimal_is_IsNumeral, decimal_digit, first_decimal}
use Rattle.lab_text.specs.Text.{number_of, number_in}
use Rattle.report_model.specs.Report.{device_name}
use Rattle.plan_grammar.specs.Forms.{is_name, is_name_byte, after_front, halves, has_no_leading_zero, plain_decimal, device_number, both_numbers, numbers_of_pair, chip_numbers}
use Rattle.plan_grammar.specs.Canonical.{chip_name}
use Rattle.plan_laws.proofs.Words.{is_letter, is_word}
use Rattle.plan_laws.proofs.Numbers.{in_fits, number_of_fits, number_of_decimal, decimal_in, decimal_word, digits_letters}
use Rattle.plan_laws.proofs.Separators.{halves_again, decimal_lacks}

decimal_letters : (n : ℕ) → n < 2 ^ 64 → list_all is_letter (decimal n) ≡ true
decimal_letters n h = digits_letters (decimal n) (decimal_is_IsNumeral n h).0.1

-- a decimal has no leading zero
plain_by : (ds : List ℕ) → 48 < get_or ds 0 0 → has_no_leading_zero ds ≡ true
plain_by [] h = refl
plain_by (d ∷ ds) h = or_left (not (eqb d 48)) (leb (length ds) 0) (not_from_false (eqb d 48) (ne_eqb d 48 (λ e. omega (arith, h, e))))

pub decimal_plain : (n : ℕ) → n < 2 ^ 64 → has_no_leading_zero (decimal n) ≡ true
decimal_plain n h =
    ⊎_elim (λ none. ap (λ m. has_no_leading_zero (decimal m)) none ∙ ap has_no_leading_zero (decimal_digit 0 (omega arith)))
    (λ some. plain_by (decimal n) (first_decimal n (omega (arith, some)) h)) (cases_eq n 0)

mtd_front : (text : List ℕ) → after_front (codes "mtd") (codes "mtd" ++ text) ≡ Some text
unfolding after_front
mtd_front text = refl

-- the number of a device is read again from its name
pub device_again : (dev : ℕ) → dev < 2 ^ 64 → device_number (device_name dev) ≡ Some dev
unfolding device_number
device_again dev h =
    ap plain_decimal (mtd_front (decimal dev)) ∙ cond-true (has_no_leading_zero (decimal dev)) _ _ (decimal_plain dev h) ∙ decimal_in dev h

pub device_word : (dev : ℕ) → dev < 2 ^ 64 → is_word (device_name dev) ≡ true
device_word dev h = decimal_letters dev h

plain_fits : (o : Option (List ℕ)) (dev : ℕ) → plain_decimal o ≡ Some dev → dev < 2 ^ 64
plain_fits None dev e = absurd (cc e)
plain_fits (Some digits) dev e = by (has_no_leading_zero digits) (number_in 10 digits) (λ n. in_fits 10 digits n) e
  where
    by : (b : Bool) (o : Option ℕ) → ((n : ℕ) → o ≡ Some n → n < 2 ^ 64) → cond b o None ≡ Some dev → dev < 2 ^ 64
    by true o fits e = fits dev e
    by false o fits e = absurd (cc e)

pub device_fits : (w : List ℕ) (dev : ℕ) → device_number w ≡ Some dev → dev < 2 ^ 64
unfolding device_number
device_fits w dev e = plain_fits (after_front (codes "mtd") w) dev e

-- the numbers of a chip
pair_fits : (c k : Option ℕ) (names : ℕ × ℕ) → ((n : ℕ) → c ≡ Some n → n < 2 ^ 64) → ((n : ℕ) → k ≡ Some n → n < 2 ^ 64) →
    both_numbers c k ≡ Some names → (names.0 < 2 ^ 64) × (names.1 < 2 ^ 64)
pair_fits (Some c) (Some k) names hc hk e =
    let same : (c, k) ≡ names = cc e in
    subst (λ (ns : ℕ × ℕ). (ns.0 < 2 ^ 64) × (ns.1 < 2 ^ 64)) same (hc c refl, hk k refl)
pair_fits (Some c) None names hc hk e = absurd (cc e)
pair_fits None (Some k) names hc hk e = absurd (cc e)
pair_fits None None names hc hk e = absurd (cc e)

halves_fit : (o : Option (List ℕ × List ℕ)) (names : ℕ × ℕ) → numbers_of_pair o ≡ Some names → (names.0 < 2 ^ 64) × (names.1 < 2 ^ 64)
halves_fit None names e = absurd (cc e)
halves_fit (Some (c, k)) names e = pair_fits (number_of c) (number_of k) names (number_of_fits c) (number_of_fits k) e

pub chip_fits : (w : List ℕ) (names : ℕ × ℕ) → chip_numbers w ≡ Some names → (names.0 < 2 ^ 64) × (names.1 < 2 ^ 64)
unfolding chip_numbers
chip_fits w names e = halves_fit (halves 46 w) names e

chip_name-is : (c k : ℕ) → chip_name c k ≡ decimal c ++ 46 ∷ decimal k
chip_name-is c k = append_assoc (decimal c) (codes ".") (decimal k)

pub chip_again : (c k : ℕ) → c < 2 ^ 64 → k < 2 ^ 64 → chip_numbers (chip_name c k) ≡ Some (c, k)
unfolding chip_numbers
chip_again c k h l =
    ap (λ text. numbers_of_pair (halves 46 text)) (chip_name-is c k)
    ∙ ap numbers_of_pair (halves_again 46 (decimal c) (decimal k) (decimal_lacks 46 c (inl (omega arith)) h) (decimal_lacks 46 k (inl (omega arith)) l) refl)
    ∙ ap (λ o. both_numbers o (number_of (decimal k))) (number_of_decimal c h)
    ∙ ap (both_numbers (Some c)) (number_of_decimal k l)

-- letters behind a word make a word
word_more : (w rest : List ℕ) → is_word w ≡ true → list_all is_letter rest ≡ true → is_word (w ++ rest) ≡ true
word_more [] rest h k = absurd (cc h)
word_more (b ∷ bs) rest h k =
    let parts = and_parts (not (eqb b 35)) (list_all is_letter (b ∷ bs)) h in
    and_from (not (eqb b 35)) (list_all is_letter (b ∷ bs ++ rest)) parts.0
    (list_all-append is_letter (b ∷ bs) rest ∙ and_from (list_all is_letter (b ∷ bs)) (list_all is_letter rest) parts.1 k)

pub chip_word : (c k : ℕ) → c < 2 ^ 64 → k < 2 ^ 64 → is_word (chip_name c k) ≡ true
chip_word c k h l =
    ap is_word (chip_name-is c k) ∙ word_more (decimal c) (46 ∷ decimal k) (decimal_word c h) (decimal_letters k l)

alphabetic_letter : (b : ℕ) → is_ascii_alphabetic b ≡ true → (33 ≤ b) × (b ≤ 126) × (b ≡ 35 → ⊥)
alphabetic_letter b h = grind (arith)

name_byte_letter : (b : ℕ) → is_name_byte b ≡ true → is_letter b ≡ true
name_byte_letter b h = grind (arith)

name_letters : (bs : List ℕ) → list_all is_name_byte bs ≡ true → list_all is_letter bs ≡ true
name_letters [] h = refl
name_letters (b ∷ bs) h =
    let parts = and_parts (is_name_byte b) (list_all is_name_byte bs) h in
    and_from (is_letter b) (list_all is_letter bs) (name_byte_letter b parts.0) (name_letters bs parts.1)

-- a NAME is a word
pub name_word : (w : List ℕ) → is_name w ≡ true → is_word w ≡ true
unfolding is_name
name_word [] h = absurd (cc h)
name_word (b ∷ bs) h =
    let outer = and_parts (is_ascii_alphabetic b && list_all is_name_byte (b ∷ bs)) (leb (length (b ∷ bs)) 32) h in
    let inner = and_parts (is_ascii_alphabetic b) (list_all is_name_byte (b ∷ bs)) outer.0 in
    and_from (not (eqb b 35)) (list_all is_letter (b ∷ bs))
    (not_from_false (eqb b 35) (ne_eqb b 35 (alphabetic_letter b inner.0).2)) (name_letters (b ∷ bs) inner.1)
