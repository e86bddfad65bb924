-- Accepted words are parsed without fault.
use Rattle.std.proofs.Common.{◌≡◌, ◌∙◌, ℕ, zero, suc, Bool, true, false, inl, inr, List, [], ◌∷◌, Option, Some, None, refl, ap, sym, subst, codes, bytes_eq}
use Rattle.std.specs.Prelude.{◌&&◌, ◌==◌, ◌^◌, if◌then◌else◌, length, nat_lt, option_and_then, option_map}
use Rattle.std.specs.List.{list_all}
use Rattle.std.specs.Option.{option_map_or}
use Rattle.std.specs.Char.{is_digit}
use Rattle.std.specs.Str.Parse.{digits_value}
use Rattle.std.proofs.lemmas.Bool.{and_parts, cases_Bool, eqb-true, false_from_ne_true, false≢true}
use Rattle.std.proofs.lemmas.Slice.Eq.{bytes_eq-Decides}
use Rattle.clap.specs.Lexer.{long_of, long_of_rest, short_of, short_of_rest, strip_byte}
use Rattle.clap.specs.Walk.{Held, Step, Text, Walk, idle, walked, word_met}
use Rattle.clap.specs.Kinds.{Kinds, or_else}
use Rattle.clap.specs.Faults.{bundle_fault, defaults_fault, fault_of, flag_word_fault, step_fault, turn_fault, walk_fault, word_fault}
use Rattle.lab_text.specs.Text.{is_numeral, number_in}
use Rattle.plan_grammar.specs.Forms.{has_no_leading_zero, plain_decimal}
use Rattle.nandlab.specs.Positionals.{two_positionals}
use Rattle.code_words.specs.Inputs.{strength_of}
use Rattle.nandlab.specs.Words.{number_request, plain_request, strength_in, text_request, without_dashes, word_request}
use Rattle.nandlab.specs.declared.request.Request.{Request}
use Rattle.nandlab.specs.declared.request.Request.TheVariants.{Check, Replay, Run, Make, Bus, Encode, Decode}
use Rattle.nandlab.proofs.ClapSteps.{at, dashes, holds_both, holds_none, holds_word, met_dashes, met_other, rules, shape, walk_dashes, walk_number, walk_number_after, walk_word, walk_word_after}
use Rattle.nandlab.proofs.ClapWords.{dashes_out, end_fault, faults_are, walk_on, word_stays}

or_else_none : (x y : Kinds) → x ≡ [] → y ≡ [] → or_else x y ≡ []
or_else_none x y e f = ap (λ (k : Kinds). or_else k y) e ∙ f

-- a word that is no flag and not `--`
record IsPlainWord (word : Text) : Type 0 where
  no_dashes : bytes_eq word dashes ≡ false
  no_long : long_of word ≡ None
  no_short : short_of word ≡ None

-- at most so many words, all of them plain
abbrev AreFew : ℕ → List Text → Type 0
AreFew most [] = Unit {0}
AreFew zero (word ∷ words) = ⊥
AreFew (suc most) (word ∷ words) = IsPlainWord word × AreFew most words

-- from this place on a parse has no fault at these words
record Passes (from : Walk) (words : List Text) : Type 0 where
  walk : walk_fault shape [] from words ≡ []
  end : end_fault (walk_on from words).held ≡ []

-- one step of it
pass : (from next : Walk) (word : Text) (words : List Text) → turn_fault shape [] from word ≡ [] → walked rules [] from word ≡ next
    → Passes next words → Passes from (word ∷ words)
unfolding walk_fault
pass from next word words turn e passes = record {
  walk = or_else_none (turn_fault shape [] from word) (walk_fault shape [] (walked rules [] from word) words) turn
      (ap (λ (w : Walk). walk_fault shape [] w words) e ∙ passes.walk);
  end = ap (λ (w : Walk). end_fault (walk_on w words).held) e ∙ passes.end;
}

-- after `--`
both_after : (word number : Text) (words : List Text) → AreFew 0 words → Passes (at true 3 (holds_both word number)) words
unfolding walk_fault defaults_fault
both_after word number [] few = record { walk = refl; end = refl }
both_after word number (other ∷ words) few = absurd few

word_after : (word : Text) (words : List Text) → AreFew 1 words → Passes (at true 2 (holds_word word)) words
unfolding walk_fault defaults_fault
word_after word [] few = record { walk = refl; end = refl }
word_after word (number ∷ words) few =
    pass (at true 2 (holds_word word)) (at true 3 (holds_both word number)) number words refl (walk_number_after word number)
    (both_after word number words few.1)

none_after : (words : List Text) → AreFew 2 words → Passes (at true 1 holds_none) words
unfolding walk_fault defaults_fault
none_after [] few = record { walk = refl; end = refl }
none_after (word ∷ words) few =
    pass (at true 1 holds_none) (at true 2 (holds_word word)) word words refl (walk_word_after word) (word_after word words few.1)

-- the fault of a word, by whether it is `--`
abbrev fault_by : Bool → Text → Held → Kinds
fault_by is_dashes word h =
    if is_dashes then [] else flag_word_fault rules shape.args_override_self (long_of word) word h

dashes_turn : (position : ℕ) (word : Text) (h : Held) → bytes_eq word dashes ≡ true → turn_fault shape [] (at false position h) word ≡ []
dashes_turn position word h e =
    let met : Held × Step = word_met rules [] false idle position word h in
    or_else_none (word_fault shape [] false idle word h) (step_fault shape position met.0 met.1) (ap (λ (b : Bool). fault_by b word h) e)
    (ap (λ (m : Held × Step). step_fault shape position m.0 m.1) (met_dashes position word h e))

plain_fault : (word : Text) (h : Held) → IsPlainWord word → word_fault shape [] false idle word h ≡ []
plain_fault word h plain =
    ap (λ (b : Bool). fault_by b word h) plain.no_dashes
    ∙ ap (λ (name : Option (Text × Option Text)). flag_word_fault rules shape.args_override_self name word h) plain.no_long
    ∙ ap (λ (flags : Option Text). option_map_or (λ f. bundle_fault rules shape.args_override_self f h) flags []) plain.no_short

word_turn : (word : Text) → IsPlainWord word → turn_fault shape [] (at false 1 holds_none) word ≡ []
word_turn word plain =
    let met : Held × Step = word_met rules [] false idle 1 word holds_none in
    or_else_none (word_fault shape [] false idle word holds_none) (step_fault shape 1 met.0 met.1) (plain_fault word holds_none plain)
    (ap (λ (m : Held × Step). step_fault shape 1 m.0 m.1) (met_other 1 word [] None plain.no_dashes))

number_turn : (word number : Text) → IsPlainWord number → turn_fault shape [] (at false 2 (holds_word word)) number ≡ []
number_turn word number plain =
    let h : Held = holds_word word in
    let met : Held × Step = word_met rules [] false idle 2 number h in
    or_else_none (word_fault shape [] false idle number h) (step_fault shape 2 met.0 met.1) (plain_fault number h plain)
    (ap (λ (m : Held × Step). step_fault shape 2 m.0 m.1) (met_other 2 number h.rows h.pending plain.no_dashes))

both_passes : (word number : Text) (words : List Text) → AreFew 0 (without_dashes words) → Passes (at false 3 (holds_both word number)) words
unfolding walk_fault defaults_fault
both_passes word number [] few = record { walk = refl; end = refl }
both_passes word number (other ∷ words) few = elim (cases_Bool (bytes_eq other dashes)) [
  | inl e ↦ pass (at false 3 (holds_both word number)) (at true 3 (holds_both word number)) other words
      (dashes_turn 3 other (holds_both word number) e) (walk_dashes 3 other (holds_both word number) e)
      (both_after word number words (subst (AreFew 0) (dashes_out other words e) few))
  | inr e ↦ absurd (subst (AreFew 0) (word_stays other words e) few)
]

word_passes : (word : Text) (words : List Text) → AreFew 1 (without_dashes words) → Passes (at false 2 (holds_word word)) words
unfolding walk_fault defaults_fault
word_passes word [] few = record { walk = refl; end = refl }
word_passes word (number ∷ words) few = elim (cases_Bool (bytes_eq number dashes)) [
  | inl e ↦ pass (at false 2 (holds_word word)) (at true 2 (holds_word word)) number words
      (dashes_turn 2 number (holds_word word) e) (walk_dashes 2 number (holds_word word) e)
      (word_after word words (subst (AreFew 1) (dashes_out number words e) few))
  | inr e ↦ let some : AreFew 1 (number ∷ without_dashes words) = subst (AreFew 1) (word_stays number words e) few in
      pass (at false 2 (holds_word word)) (at false 3 (holds_both word number)) number words
      (number_turn word number some.0) (walk_number word number e) (both_passes word number words some.1)
]

none_passes : (words : List Text) → AreFew 2 (without_dashes words) → Passes (at false 1 holds_none) words
unfolding walk_fault defaults_fault
none_passes [] few = record { walk = refl; end = refl }
none_passes (word ∷ words) few = elim (cases_Bool (bytes_eq word dashes)) [
  | inl e ↦ pass (at false 1 holds_none) (at true 1 holds_none) word words (dashes_turn 1 word holds_none e)
      (walk_dashes 1 word holds_none e) (none_after words (subst (AreFew 2) (dashes_out word words e) few))
  | inr e ↦ let some : AreFew 2 (word ∷ without_dashes words) = subst (AreFew 2) (word_stays word words e) few in
      pass (at false 1 holds_none) (at false 2 (holds_word word)) word words (word_turn word some.0) (walk_word word e)
      (word_passes word words some.1)
]

-- the rest of a word whose first byte is `-`
abbrev front : Bool → Text → Option Text
front is_dash rest = if is_dash then Some rest else None

-- a word that does not begin with `-` is plain
plain_by : (x : ℕ) (xs : Text) → (x == 45) ≡ false → IsPlainWord (x ∷ xs)
plain_by x xs e = record {
  no_dashes = ap (λ (b : Bool). b && bytes_eq xs (45 ∷ [])) e;
  no_long = ap (λ (b : Bool). option_and_then long_of_rest (option_and_then (strip_byte 45) (front b xs))) e;
  no_short = ap (λ (b : Bool). option_and_then short_of_rest (front b xs)) e;
}

digit_is_no_dash : (x : ℕ) → is_digit x 10 ≡ true → (x == 45) ≡ false
digit_is_no_dash x digit = false_from_ne_true (x == 45) (λ same.
    let dash : false ≡ true = subst (λ (y : ℕ). is_digit y 10 ≡ true) (eqb-true x 45 same) digit in
    false≢true dash)

-- where a choice gives something
then_some : (b : Bool) (o : Option ℕ) (n : ℕ) → (if b then o else None) ≡ Some n → (b ≡ true) × (o ≡ Some n)
then_some true o n e = (refl, e)
then_some false o n e = absurd (cc e)

number_is_plain : (digits : Text) (n : ℕ) → plain_decimal (Some digits) ≡ Some n → IsPlainWord digits
number_is_plain [] n e =
    let none : None ≡ Some n = e in
    absurd (cc none)
number_is_plain (x ∷ xs) n e =
    let digits : Text = x ∷ xs in
    let number : number_in 10 digits ≡ Some n = (then_some (has_no_leading_zero digits) (number_in 10 digits) n e).1 in
    let small : Bool = nat_lt (digits_value 10 digits) (2 ^ 64) in
    let both : (is_numeral 10 digits && small) ≡ true = (then_some (is_numeral 10 digits && small) (Some (digits_value 10 digits)) n number).0 in
    let numeral = (and_parts (is_numeral 10 digits) small both).0 in
    let all = (and_parts (nat_lt 0 (length digits)) (list_all (λ (d : ℕ). is_digit d 10) digits) numeral).1 in
    let first = (and_parts (is_digit x 10) (list_all (λ (d : ℕ). is_digit d 10) xs) all).0 in
    plain_by x xs (digit_is_no_dash x first)

plain_as : (word name : Text) → IsPlainWord name → bytes_eq word name ≡ true → IsPlainWord word
plain_as word name plain same = subst IsPlainWord (sym ((bytes_eq-Decides word name).0 same)) plain

-- where one request goes with a name, and another with other words
abbrev by_name : Option Request → Option Request → Bool → Option Request
by_name one other is_name = if is_name then one else other

-- the word is this name, or one that asks for something else
named : (word name : Text) (one other : Option Request) → IsPlainWord name → ((r : Request) → other ≡ Some r → IsPlainWord word)
    → (r : Request) → by_name one other (bytes_eq word name) ≡ Some r → IsPlainWord word
named word name one other plain rest r e = elim (cases_Bool (bytes_eq word name)) [
  | inl same ↦ plain_as word name plain same
  | inr different ↦ rest r (sym (ap (by_name one other) different) ∙ e)
]

no_request : {P : Type 0} (r : Request) → None ≡ Some r → P
no_request r e = absurd (cc e)

word_is_plain : (word : Text) (r : Request) → word_request word ≡ Some r → IsPlainWord word
word_is_plain word r e =
    named word (codes "check") (Some Check) _ (plain_by 99 (104 ∷ 101 ∷ 99 ∷ 107 ∷ []) refl)
    (named word (codes "replay") (Some Replay) _ (plain_by 114 (101 ∷ 112 ∷ 108 ∷ 97 ∷ 121 ∷ []) refl)
    (named word (codes "run") (Some Run) _ (plain_by 114 (117 ∷ 110 ∷ []) refl)
    (named word (codes "bus") (Some Bus) None (plain_by 98 (117 ∷ 115 ∷ []) refl) no_request))) r e

made : (make : ℕ → Request) (number : Option ℕ) (r : Request) → option_map make number ≡ Some r → (n : ℕ) × (number ≡ Some n)
made make None r e = absurd (cc e)
made make (Some n) r e = (n, refl)

strong : (number : Option ℕ) (t : ℕ) → option_and_then strength_of number ≡ Some t → (n : ℕ) × (number ≡ Some n)
strong None t e = absurd (cc e)
strong (Some n) t e = (n, refl)

made_is_plain : (number : Text) (r : Request) → option_map Make (plain_decimal (Some number)) ≡ Some r → IsPlainWord number
made_is_plain number r e =
    let n = made Make (plain_decimal (Some number)) r e in
    number_is_plain number n.0 n.1

strength_is_plain : (make : ℕ → Request) (number : Text) (r : Request) → option_map make (strength_in number) ≡ Some r → IsPlainWord number
strength_is_plain make number r e =
    let t = made make (strength_in number) r e in
    let n = strong (plain_decimal (Some number)) t.0 t.1 in
    number_is_plain number n.0 n.1

-- the word is this name and takes the number, or one that asks for something else
numbered : (word name number : Text) (one other : Option Request) → IsPlainWord name → ((r : Request) → one ≡ Some r → IsPlainWord number)
    → ((r : Request) → other ≡ Some r → IsPlainWord word × IsPlainWord number)
    → (r : Request) → by_name one other (bytes_eq word name) ≡ Some r → IsPlainWord word × IsPlainWord number
numbered word name number one other plain first rest r e = elim (cases_Bool (bytes_eq word name)) [
  | inl same ↦ (plain_as word name plain same, first r (sym (ap (by_name one other) same) ∙ e))
  | inr different ↦ rest r (sym (ap (by_name one other) different) ∙ e)
]

number_request_is_plain : (word number : Text) (r : Request) → number_request word number ≡ Some r → IsPlainWord word × IsPlainWord number
number_request_is_plain word number r e =
    numbered word (codes "make") number (option_map Make (plain_decimal (Some number))) _ (plain_by 109 (97 ∷ 107 ∷ 101 ∷ []) refl) (made_is_plain number)
    (numbered word (codes "encode14") number (option_map Encode (strength_in number)) _
    (plain_by 101 (110 ∷ 99 ∷ 111 ∷ 100 ∷ 101 ∷ 49 ∷ 52 ∷ []) refl) (strength_is_plain Encode number)
    (numbered word (codes "decode14") number (option_map Decode (strength_in number)) None
    (plain_by 100 (101 ∷ 99 ∷ 111 ∷ 100 ∷ 101 ∷ 49 ∷ 52 ∷ []) refl) (strength_is_plain Decode number) no_request)) r e

-- words that ask for something are few and plain
request_is_plain : (texts : List Text) (r : Request) → plain_request texts ≡ Some r → AreFew 2 texts
request_is_plain [] r e = tt
request_is_plain (word ∷ []) r e = (word_is_plain word r e, tt)
request_is_plain (word ∷ number ∷ []) r e =
    let plain = number_request_is_plain word number r e in
    (plain.0, (plain.1, tt))
request_is_plain (word ∷ number ∷ other ∷ texts) r e = absurd (cc e)

pub accepted_words : (words : List Text) (r : Request) → text_request words ≡ Some r → fault_of two_positionals words ≡ []
accepted_words words r e =
    let passes = none_passes words (request_is_plain (without_dashes words) r e) in
    faults_are words
    ∙ or_else_none (walk_fault shape [] (at false 1 holds_none) words) (end_fault (walk_on (at false 1 holds_none) words).held) passes.walk passes.end
