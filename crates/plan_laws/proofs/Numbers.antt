-- Numbers, and the words that print them.
use Rattle.std.proofs.Common.{◌≡◌, ◌∙◌, ℕ, suc, ◌^◌, ◌≤◌, ◌<◌, Bool, true, false, not, eqb, leb, ltb, drop, List, [], ◌∷◌, length, Option, Some, None, Ok, sym, ap, refl, subst, arith}
use Rattle.std.specs.Prelude.{◌&&◌, All, codes, cond, decimal, nat_eq}
use Rattle.std.specs.List.{list_all, starts_with}
use Rattle.std.specs.Char.{digit_value}
use Rattle.std.specs.Str.Parse.{digits_value, AllDigits}
use Rattle.std.proofs.lemmas.Bool.{and_from, and_parts, and_left, and_right, cond-false, leb-true, le-leb, lt-ltb, ltb-true, ne_eqb, not_from_false}
use Rattle.std.proofs.lemmas.List.Elements.{All-cons, All-nil, All-head, All-tail}
use Rattle.std.proofs.lemmas.Fmt.{decimal_is_IsNumeral, decimal_nonempty}
use Rattle.std.proofs.lemmas.Str.Parse.{digit_from_value}
use Rattle.lab_text.specs.Text.{number_of, number_in, is_numeral}
use Rattle.lab_text.proofs.Digits.{number_of_digits}
use Rattle.plan_grammar.specs.declared.kind.PlanKind.TheVariants.{BadNumber}
use Rattle.plan_grammar.specs.Limits.{word_limit}
use Rattle.plan_grammar.specs.Rules.{there}
use Rattle.plan_grammar.specs.Forms.{number, small_number, positive_number, numbers, small_numbers}
use Rattle.plan_grammar.specs.Canonical.{decimals}
use Rattle.plan_laws.proofs.Steps.{kept, rule_kept, there_kept, step, rule_step, ok_same}
use Rattle.plan_laws.proofs.Words.{is_letter, is_word}

-- a decimal has a digit or more
decimal_digits : (n : ℕ) → n < 2 ^ 64 → AllDigits 10 (decimal n)
decimal_digits n h = (decimal_is_IsNumeral n h).0.1

digit_letter : (d : ℕ) → digit_value d < 10 → (is_letter d ≡ true) × (not (eqb d 35) ≡ true)
digit_letter d h =
    let k = digit_from_value d h in (
      and_from (leb 33 d) (leb d 126) (le-leb 33 d (omega (arith, k))) (le-leb d 126 (omega (arith, k))),
      not_from_false (eqb d 35) (ne_eqb d 35 (λ e. omega (arith, k, e))),
    )

pub digits_letters : (ds : List ℕ) → AllDigits 10 ds → list_all is_letter ds ≡ true
digits_letters [] h = refl
digits_letters (d ∷ ds) h = and_from (is_letter d) (list_all is_letter ds) (digit_letter d h.0).0 (digits_letters ds h.1)

digits_word : (ds : List ℕ) → 0 < length ds → AllDigits 10 ds → is_word ds ≡ true
digits_word [] some h = absurd (omega arith)
digits_word (d ∷ ds) some h =
    and_from (not (eqb d 35)) (list_all is_letter (d ∷ ds)) (digit_letter d h.0).1 (digits_letters (d ∷ ds) h)

-- a decimal is a word
pub decimal_word : (n : ℕ) → n < 2 ^ 64 → is_word (decimal n) ≡ true
decimal_word n h = digits_word (decimal n) (decimal_nonempty n h) (decimal_digits n h)

-- decimal digits do not begin as hexadecimal ones
not_hexadecimal : (ds : List ℕ) → AllDigits 10 ds → starts_with nat_eq ds (codes "0x") ≡ false
not_hexadecimal [] h = refl
not_hexadecimal (d ∷ []) h = and_right (eqb 48 d) false refl
not_hexadecimal (d ∷ e ∷ ds) h =
    let k = digit_from_value e h.1.0 in
    and_right (eqb 48 d) (eqb 120 e && true) (and_left (eqb 120 e) true (ne_eqb 120 e (λ same. omega (arith, k, same))))

pub decimal_in : (n : ℕ) → n < 2 ^ 64 → number_in 10 (decimal n) ≡ Some n
decimal_in n h =
    let value = (decimal_is_IsNumeral n h).1 in
    number_of_digits 10 (decimal n) (decimal_digits n h) (decimal_nonempty n h) (subst (λ m. m < 2 ^ 64) (sym value) h)
    ∙ ap Some value

-- the number of a decimal
pub number_of_decimal : (n : ℕ) → n < 2 ^ 64 → number_of (decimal n) ≡ Some n
number_of_decimal n h = cond-false _ _ _ (not_hexadecimal (decimal n) (decimal_digits n h)) ∙ decimal_in n h

some_of_cond : (b : Bool) (x y : ℕ) → cond b (Some x) None ≡ Some y → (b ≡ true) × (x ≡ y)
some_of_cond true x y e = (refl, cc e)
some_of_cond false x y e = absurd (cc e)

pub in_fits : (base : ℕ) (ds : List ℕ) (n : ℕ) → number_in base ds ≡ Some n → n < 2 ^ 64
in_fits base ds n e =
    let parts = some_of_cond (is_numeral base ds && ltb (digits_value base ds) (2 ^ 64)) (digits_value base ds) n e in
    let fits = (and_parts (is_numeral base ds) (ltb (digits_value base ds) (2 ^ 64)) parts.0).1 in
    subst (λ m. m < 2 ^ 64) parts.1 (ltb-true (digits_value base ds) (2 ^ 64) fits)

by_base : (b : Bool) (x y : List ℕ) (n : ℕ) → cond b (number_in 16 x) (number_in 10 y) ≡ Some n → n < 2 ^ 64
by_base true x y n e = in_fits 16 x n e
by_base false x y n e = in_fits 10 y n e

-- a number of a word has at most 64 bits
pub number_of_fits : (w : List ℕ) (n : ℕ) → number_of w ≡ Some n → n < 2 ^ 64
number_of_fits w n e = by_base (starts_with nat_eq w (codes "0x")) (drop 2 w) w n e

pub number_fits : (w : List ℕ) (n : ℕ) → number w ≡ Ok n → n < 2 ^ 64
unfolding number
number_fits w n e = number_of_fits w n (there_kept (number_of w) BadNumber n e)

pub number_again : (n : ℕ) → n < 2 ^ 64 → number (decimal n) ≡ Ok n
unfolding number
number_again n h = ap (λ (o : Option ℕ). there o BadNumber) (number_of_decimal n h)

pub small_fits : (w : List ℕ) (n : ℕ) → small_number w ≡ Ok n → n < word_limit
unfolding small_number
small_fits w n e =
    let one = kept (number w) _ n e in
    let two = rule_kept (ltb one.value word_limit) BadNumber _ n one.further in
    subst (λ m. m < word_limit) (ok_same one.value n two.1) (ltb-true one.value word_limit two.0)

pub small_again : (n : ℕ) → n < word_limit → small_number (decimal n) ≡ Ok n
unfolding small_number
small_again n h =
    step (number (decimal n)) _ n n (number_again n (omega (arith, h)))
    (rule_step (ltb n word_limit) BadNumber _ n (lt-ltb n word_limit h) refl)

pub positive_fits : (w : List ℕ) (n : ℕ) → positive_number w ≡ Ok n → (1 ≤ n) × (n < word_limit)
unfolding positive_number
positive_fits w n e =
    let one = kept (small_number w) _ n e in
    let two = rule_kept (leb 1 one.value) BadNumber _ n one.further in
    let same = ok_same one.value n two.1 in
    (subst (λ m. 1 ≤ m) same (leb-true 1 one.value two.0), subst (λ m. m < word_limit) same (small_fits w one.value one.is))

pub positive_again : (n : ℕ) → 1 ≤ n → n < word_limit → positive_number (decimal n) ≡ Ok n
unfolding positive_number
positive_again n h k =
    step (small_number (decimal n)) _ n n (small_again n k) (rule_step (leb 1 n) BadNumber _ n (le-leb 1 n h) refl)

abbrev pub IsSmall : ℕ → Type 0
IsSmall n = n < word_limit

-- numbers of all words
pub record SmallNumbers (words : List (List ℕ)) (ns : List ℕ) : Type 0 where
  pub small : All IsSmall ns
  pub as_many : length ns ≡ length words

pub small_numbers_fit : (words : List (List ℕ)) (ns : List ℕ) → small_numbers words ≡ Ok ns → SmallNumbers words ns
unfolding small_numbers
small_numbers_fit [] ns e =
    let same : [] ≡ ns = ok_same [] ns e in
    record { small = subst (All IsSmall) same (All-nil IsSmall); as_many = ap length (sym same) }
small_numbers_fit (w ∷ words) ns e =
    let one = kept (small_number w) _ ns e in
    let two = kept (small_numbers words) _ ns one.further in
    let same : one.value ∷ two.value ≡ ns = ok_same (one.value ∷ two.value) ns two.further in
    let others = small_numbers_fit words two.value two.is in
    record {
      small = subst (All IsSmall) same (All-cons IsSmall one.value two.value (small_fits w one.value one.is) others.small);
      as_many = ap length (sym same) ∙ ap suc others.as_many;
    }

pub small_numbers_again : (ns : List ℕ) → All IsSmall ns → small_numbers (decimals ns) ≡ Ok ns
unfolding small_numbers
small_numbers_again [] h = refl
small_numbers_again (n ∷ ns) h =
    step (small_number (decimal n)) _ n (n ∷ ns) (small_again n (All-head IsSmall n ns h))
    (step (small_numbers (decimals ns)) _ ns (n ∷ ns) (small_numbers_again ns (All-tail IsSmall n ns h)) refl)

abbrev pub IsNumber : ℕ → Type 0
IsNumber n = n < 2 ^ 64

pub numbers_fit : (words : List (List ℕ)) (ns : List ℕ) → numbers words ≡ Ok ns → All IsNumber ns × (length ns ≡ length words)
unfolding numbers
numbers_fit [] ns e =
    let same : [] ≡ ns = ok_same [] ns e in
    (subst (All IsNumber) same (All-nil IsNumber), ap length (sym same))
numbers_fit (w ∷ words) ns e =
    let one = kept (number w) _ ns e in
    let two = kept (numbers words) _ ns one.further in
    let same : one.value ∷ two.value ≡ ns = ok_same (one.value ∷ two.value) ns two.further in
    let others = numbers_fit words two.value two.is in (
      subst (All IsNumber) same (All-cons IsNumber one.value two.value (number_fits w one.value one.is) others.0),
      ap length (sym same) ∙ ap suc others.1,
    )

pub numbers_again : (ns : List ℕ) → All IsNumber ns → numbers (decimals ns) ≡ Ok ns
unfolding numbers
numbers_again [] h = refl
numbers_again (n ∷ ns) h =
    step (number (decimal n)) _ n (n ∷ ns) (number_again n (All-head IsNumber n ns h))
    (step (numbers (decimals ns)) _ ns (n ∷ ns) (numbers_again ns (All-tail IsNumber n ns h)) refl)

-- decimals are words
pub decimals_words : (ns : List ℕ) → All IsNumber ns → list_all is_word (decimals ns) ≡ true
decimals_words [] h = refl
decimals_words (n ∷ ns) h =
    and_from (is_word (decimal n)) (list_all is_word (decimals ns)) (decimal_word n (All-head IsNumber n ns h))
    (decimals_words ns (All-tail IsNumber n ns h))

pub small_are_numbers : (ns : List ℕ) → All IsSmall ns → All IsNumber ns
small_are_numbers [] h = All-nil IsNumber
small_are_numbers (n ∷ ns) h =
    let small = All-head IsSmall n ns h in
    All-cons IsNumber n ns (omega (arith, small)) (small_are_numbers ns (All-tail IsSmall n ns h))
