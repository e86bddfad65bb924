-- The options of commands, read again from their canonical words.
use Rattle.std.proofs.Common.{◌≡◌, ◌∙◌, ℕ, ◌^◌, ◌<◌, Bool, true, false, not, eqb, List, [], ◌∷◌, ◌++◌, Option, Some, None, Result, Ok, sym, ap, refl, subst}
use Rattle.std.specs.Prelude.{cond, decimal}
use Rattle.std.proofs.lemmas.Bool.{eqb-true, cond-true, cond-false}
use Rattle.lab_text.specs.Text.{number_of}
use Rattle.plan_grammar.specs.declared.kind.PlanKind.{PlanKind}
use Rattle.plan_grammar.specs.declared.kind.PlanKind.TheVariants.{BadWords}
use Rattle.plan_grammar.specs.declared.words.LineKind.{LineKind}
use Rattle.plan_grammar.specs.declared.words.OptionKind.{OptionKind}
use Rattle.plan_grammar.specs.declared.words.OptionKind.TheVariants.{NoScan, Mark, Raw, Oob, Pad, Keep, Bad, Offset, Length, Seed, Passes}
use Rattle.plan_grammar.specs.declared.words.Options.{Options}
use Rattle.plan_grammar.specs.Rules.{◌>>=◌}
use Rattle.plan_grammar.specs.Options.{has_value, no_options, is_given, given, with_option, begins_with_dash, option_word, last_option, by_value, options_from}
use Rattle.plan_grammar.specs.Commands.{value_or}
use Rattle.plan_grammar.specs.Canonical.{flag, valued}
use Rattle.plan_laws.proofs.Steps.{kept, rule_kept, rule_step, ok_same}
use Rattle.plan_laws.proofs.Numbers.{number_of_fits, number_of_decimal}

-- a value that may be there, and fits
abbrev pub Fits : Option (Option ℕ) → Type 0
Fits None = Unit {0}
Fits (Some None) = Unit {0}
Fits (Some (Some n)) = n < 2 ^ 64

pub record FitOptions (o : Options) : Type 0 where
  pub offset : Fits o.offset
  pub length : Fits o.length
  pub seed : Fits o.seed
  pub passes : Fits o.passes

pub none_fit : FitOptions no_options
none_fit = record { offset = tt; length = tt; seed = tt; passes = tt }

given_fit : (o : Options) (option : OptionKind) (value : Option ℕ) → FitOptions o → Fits (Some value) → FitOptions (given o option value)
given_fit o NoScan value h k = record { offset = h.offset; length = h.length; seed = h.seed; passes = h.passes }
given_fit o Mark value h k = record { offset = h.offset; length = h.length; seed = h.seed; passes = h.passes }
given_fit o Raw value h k = record { offset = h.offset; length = h.length; seed = h.seed; passes = h.passes }
given_fit o Oob value h k = record { offset = h.offset; length = h.length; seed = h.seed; passes = h.passes }
given_fit o Pad value h k = record { offset = h.offset; length = h.length; seed = h.seed; passes = h.passes }
given_fit o Keep value h k = record { offset = h.offset; length = h.length; seed = h.seed; passes = h.passes }
given_fit o (Bad mode) value h k = record { offset = h.offset; length = h.length; seed = h.seed; passes = h.passes }
given_fit o Offset value h k = record { offset = k; length = h.length; seed = h.seed; passes = h.passes }
given_fit o Length value h k = record { offset = h.offset; length = k; seed = h.seed; passes = h.passes }
given_fit o Seed value h k = record { offset = h.offset; length = h.length; seed = k; passes = h.passes }
given_fit o Passes value h k = record { offset = h.offset; length = h.length; seed = h.seed; passes = k }

with_fit : (o more : Options) (option : OptionKind) (value : Option ℕ) → with_option o option value ≡ Ok more →
    FitOptions o → Fits (Some value) → FitOptions more
unfolding with_option
with_fit o more option value e h k =
    let one = rule_kept (not (is_given o option)) BadWords _ more e in
    subst FitOptions (ok_same (given o option value) more one.1) (given_fit o option value h k)

word_fits : (o : Option ℕ) → ((n : ℕ) → o ≡ Some n → n < 2 ^ 64) → Fits (Some o)
word_fits None h = tt
word_fits (Some n) h = h n refl

number_fits : (w : List ℕ) → Fits (Some (number_of w))
number_fits w = word_fits (number_of w) (number_of_fits w)

abbrev Answer : Type 0
Answer = Result (Options × List (List ℕ)) PlanKind

-- one or the other way
either_fit : (c : Bool) (first second : Answer) (o : Options) (rest : List (List ℕ)) → cond c first second ≡ Ok (o, rest) →
    (first ≡ Ok (o, rest) → FitOptions o) → (second ≡ Ok (o, rest) → FitOptions o) → FitOptions o
either_fit true first second o rest e h k = h e
either_fit false first second o rest e h k = k e

by_fit : (c : Bool) (first second : Answer) (o : Options) (rest : List (List ℕ)) → by_value c first second ≡ Ok (o, rest) →
    (first ≡ Ok (o, rest) → FitOptions o) → (second ≡ Ok (o, rest) → FitOptions o) → FitOptions o
by_fit true first second o rest e h k = h e
by_fit false first second o rest e h k = k e

same_options : (o p : Options) (r s : List (List ℕ)) → ◌≡◌ {A = Answer} (Ok (o, r)) (Ok (p, s)) → o ≡ p
same_options o p r s e = let same : (o, r) ≡ (p, s) = ok_same (o, r) (p, s) e in ap (λ (found : Options × List (List ℕ)). found.0) same

last_fit : (kind : LineKind) (o p : Options) (word : List ℕ) (rest : List (List ℕ)) →
    (option_word kind word >>= λ option. last_option o option) ≡ Ok (p, rest) → FitOptions o → FitOptions p
unfolding last_option
last_fit kind o p word rest e h =
    let one = kept (option_word kind word) _ (p, rest) e in
    let two = rule_kept (not (has_value one.value)) BadWords _ (p, rest) one.further in
    let three = kept (with_option o one.value None) _ (p, rest) two.1 in
    subst FitOptions (same_options three.value p [] rest three.further) (with_fit o three.value one.value None three.is h tt)

-- the values of options fit
pub options_fit : (kind : LineKind) (o p : Options) (words rest : List (List ℕ)) → options_from kind o words ≡ Ok (p, rest) →
    FitOptions o → FitOptions p
unfolding options_from
options_fit kind o p [] rest e h = subst FitOptions (same_options o p [] rest e) h
options_fit kind o p (word ∷ []) rest e h =
    either_fit (begins_with_dash word) (option_word kind word >>= λ option. last_option o option) (Ok (o, word ∷ [])) p rest e
    (λ f. last_fit kind o p word rest f h) (λ f. subst FitOptions (same_options o p (word ∷ []) rest f) h)
options_fit kind o p (word ∷ next ∷ words) rest e h =
    either_fit (begins_with_dash word)
    (option_word kind word >>= λ option. by_value (has_value option)
    (with_option o option (number_of next) >>= λ more. options_from kind more words)
    (with_option o option None >>= λ more. options_from kind more (next ∷ words)))
    (Ok (o, word ∷ next ∷ words)) p rest e
    (λ f.
    let one = kept (option_word kind word) _ (p, rest) f in
    by_fit (has_value one.value)
    (with_option o one.value (number_of next) >>= λ more. options_from kind more words)
    (with_option o one.value None >>= λ more. options_from kind more (next ∷ words)) p rest one.further
    (λ g.
    let two = kept (with_option o one.value (number_of next)) _ (p, rest) g in
    options_fit kind two.value p words rest two.further (with_fit o two.value one.value (number_of next) two.is h (number_fits next)))
    (λ g.
    let two = kept (with_option o one.value None) _ (p, rest) g in
    options_fit kind two.value p (next ∷ words) rest two.further (with_fit o two.value one.value None two.is h tt)))
    (λ f. subst FitOptions (same_options o p (word ∷ next ∷ words) rest f) h)

pub value_fits : (default : ℕ) (value : Option (Option ℕ)) (n : ℕ) → default < 2 ^ 64 → Fits value →
    value_or default value ≡ Ok n → n < 2 ^ 64
unfolding value_or
value_fits default None n small h e = subst (λ m. m < 2 ^ 64) (ok_same default n e) small
value_fits default (Some None) n small h e = absurd (cc e)
value_fits default (Some (Some m)) n small h e = subst (λ k. k < 2 ^ 64) (ok_same m n e) h

-- an option that is given alone, and a value that is left out at its default
abbrev pub flagged : Bool → Options → OptionKind → Options
flagged true o option = given o option None
flagged false o option = o

abbrev pub value_given : (value default : ℕ) → Option (Option ℕ)
value_given value default = cond (eqb value default) None (Some (Some value))

pub value_again : (value default : ℕ) → value_or default (value_given value default) ≡ Ok value
unfolding value_or
value_again value default = by (eqb value default) (eqb-true value default)
  where
    by : (b : Bool) → (b ≡ true → value ≡ default) → value_or default (cond b None (Some (Some value))) ≡ Ok value
    by true same = ap (λ n. Ok n) (sym (same refl))
    by false same = refl

-- an option that is taken
pub record IsOption (kind : LineKind) (word : List ℕ) (option : OptionKind) (value : Bool) : Type 0 where
  pub dash : begins_with_dash word ≡ true
  pub found : option_word kind word ≡ Ok option
  pub valued : has_value option ≡ value

taken : (o : Options) (option : OptionKind) (value : Option ℕ) → is_given o option ≡ false → with_option o option value ≡ Ok (given o option value)
unfolding with_option
taken o option value fresh = rule_step (not (is_given o option)) BadWords _ (given o option value) (ap not fresh) refl

by_false : {A : Type 0} (b : Bool) (x y : Result A PlanKind) → b ≡ false → by_value b x y ≡ y
by_false true x y e = absurd (cc e)
by_false false x y e = refl

by_true : {A : Type 0} (b : Bool) (x y : Result A PlanKind) → b ≡ true → by_value b x y ≡ x
by_true true x y e = refl
by_true false x y e = absurd (cc e)

bind_is : {A B : Type 0} (r : Result A PlanKind) (f : A → Result B PlanKind) (y : A) → r ≡ Ok y → (r >>= f) ≡ f y
bind_is {A = A} r f y e = ap (λ (s : Result A PlanKind). s >>= f) e

alone_taken : (kind : LineKind) (o : Options) (word next : List ℕ) (words : List (List ℕ)) (option : OptionKind) →
    IsOption kind word option false → is_given o option ≡ false →
    options_from kind o (word ∷ next ∷ words) ≡ options_from kind (given o option None) (next ∷ words)
unfolding options_from
alone_taken kind o word next words option h fresh =
    cond-true (begins_with_dash word) _ (Ok (o, word ∷ next ∷ words)) h.dash
    ∙ bind_is (option_word kind word) _ option h.found
    ∙ by_false (has_value option) (with_option o option (number_of next) >>= λ more. options_from kind more words)
    (with_option o option None >>= λ more. options_from kind more (next ∷ words)) h.valued
    ∙ bind_is (with_option o option None) _ (given o option None) (taken o option None fresh)

value_taken : (kind : LineKind) (o : Options) (word next : List ℕ) (words : List (List ℕ)) (option : OptionKind) →
    IsOption kind word option true → is_given o option ≡ false →
    options_from kind o (word ∷ next ∷ words) ≡ options_from kind (given o option (number_of next)) words
unfolding options_from
value_taken kind o word next words option h fresh =
    cond-true (begins_with_dash word) _ (Ok (o, word ∷ next ∷ words)) h.dash
    ∙ bind_is (option_word kind word) _ option h.found
    ∙ by_true (has_value option) (with_option o option (number_of next) >>= λ more. options_from kind more words)
    (with_option o option None >>= λ more. options_from kind more (next ∷ words)) h.valued
    ∙ bind_is (with_option o option (number_of next)) _ (given o option (number_of next)) (taken o option (number_of next) fresh)

-- words of which there is one
abbrev pub IsSome : List (List ℕ) → Type 0
IsSome words = (word : List ℕ) × (others : List (List ℕ)) × (words ≡ word ∷ others)

pub flag_taken : (kind : LineKind) (o p : Options) (word : List ℕ) (option : OptionKind) (b : Bool) (words : List (List ℕ)) →
    IsOption kind word option false → is_given o option ≡ false → IsSome words → flagged b o option ≡ p →
    options_from kind o (flag word b ++ words) ≡ options_from kind p words
flag_taken kind o p word option true words h fresh (next, others, is) e =
    ap (λ ws. options_from kind o (word ∷ ws)) is ∙ alone_taken kind o word next others option h fresh
    ∙ ap (options_from kind (given o option None)) (sym is) ∙ ap (λ (q : Options). options_from kind q words) e
flag_taken kind o p word option false words h fresh some e = ap (λ (q : Options). options_from kind q words) e

pub valued_taken : (kind : LineKind) (o p : Options) (word : List ℕ) (option : OptionKind) (value default : ℕ) (words : List (List ℕ)) →
    IsOption kind word option true → is_given o option ≡ false → value < 2 ^ 64 →
    cond (eqb value default) o (given o option (Some value)) ≡ p →
    options_from kind o (valued word value default ++ words) ≡ options_from kind p words
valued_taken kind o p word option value default words h fresh small e = by (eqb value default) e
  where
    by : (b : Bool) → cond b o (given o option (Some value)) ≡ p →
        options_from kind o (cond b [] (word ∷ decimal value ∷ []) ++ words) ≡ options_from kind p words
    by true e = ap (λ (q : Options). options_from kind q words) e
    by false e =
        value_taken kind o word (decimal value) words option h fresh
        ∙ ap (λ n. options_from kind (given o option n) words) (number_of_decimal value small)
        ∙ ap (λ (q : Options). options_from kind q words) e

-- the words that are no options
pub options_end : (kind : LineKind) (o : Options) (word : List ℕ) (words : List (List ℕ)) → begins_with_dash word ≡ false →
    options_from kind o (word ∷ words) ≡ Ok (o, word ∷ words)
unfolding options_from
options_end kind o word [] h = cond-false (begins_with_dash word) _ (Ok (o, word ∷ [])) h
options_end kind o word (next ∷ words) h = cond-false (begins_with_dash word) _ (Ok (o, word ∷ next ∷ words)) h
