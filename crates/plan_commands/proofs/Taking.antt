-- Options that are taken one after the other.
use Rattle.std.proofs.Common.{◌≡◌, ◌∙◌, ◌≤◌, ℕ, Bool, true, false, List, [], ◌∷◌, length, ap, refl, sym, subst, arith, None, Result, Ok, Err}
use Rattle.std.specs.Prelude.{not}
use Rattle.std.proofs.lemmas.Bool.{cond-true, cond-false}
use Rattle.lab_text.specs.Text.{number_of}
use Rattle.plan_grammar.specs.declared.kind.PlanKind.{PlanKind}
use Rattle.plan_grammar.specs.declared.kind.PlanKind.TheVariants.{BadWords}
use Rattle.plan_grammar.specs.declared.words.LineKind.{LineKind}
use Rattle.plan_grammar.specs.declared.words.OptionKind.{OptionKind}
use Rattle.plan_grammar.specs.declared.words.Options.{Options}
use Rattle.plan_grammar.specs.Rules.{◌>>=◌, rule}
use Rattle.plan_grammar.specs.Options.{has_value, with_option, by_value, begins_with_dash, option_word, last_option, options_from}
use Rattle.plan_commands.specs.Taken.{take_option}

-- options and the words after them
abbrev pub Found : Type 0
Found = Result (Options × List (List ℕ)) PlanKind

-- what a command's other options are
abbrev others_from : LineKind → Options × List (List ℕ) → Found
others_from kind found = options_from kind found.0 found.1

abbrev more_from : LineKind → Options → List (List ℕ) → OptionKind → Found
more_from kind o words option = take_option o option words >>= others_from kind

-- steps that are the same at each value are the same
bind_same : {A B : Type 0} (r : Result A PlanKind) (f g : A → Result B PlanKind) → ((x : A) → f x ≡ g x) →
    (r >>= f) ≡ (r >>= g)
bind_same (Ok x) f g h = h x
bind_same (Err kind) f g h = refl

-- a step whose value is passed on
bind_over : {A B C : Type 0} (r : Result A PlanKind) (f : A → Result B PlanKind) (g : B → Result C PlanKind) →
    ((r >>= f) >>= g) ≡ (r >>= λ x. f x >>= g)
bind_over (Ok x) f g = refl
bind_over (Err kind) f g = refl

at_end : (kind : LineKind) (o : Options) → options_from kind o [] ≡ Ok (o, [])
unfolding options_from
at_end kind o = refl

at_last : (kind : LineKind) (o : Options) (option : OptionKind) → last_option o option ≡ more_from kind o [] option
unfolding last_option take_option
at_last kind o option =
    sym (bind_over (rule (not (has_value option)) BadWords) (λ _. with_option o option None >>= λ more. Ok (more, []))
    (others_from kind)
    ∙ bind_same (rule (not (has_value option)) BadWords) _ _ (λ _.
    bind_over (with_option o option None) (λ more. Ok (more, [])) (others_from kind)
    ∙ bind_same (with_option o option None) _ _ (at_end kind)))

by_value_over : (test : Bool) (valued plain : Found) (kind : LineKind) →
    (by_value test valued plain >>= others_from kind)
    ≡ by_value test (valued >>= others_from kind) (plain >>= others_from kind)
by_value_over true valued plain kind = refl
by_value_over false valued plain kind = refl

by_value_same : (test : Bool) (a b c d : Found) → a ≡ b → c ≡ d → by_value test a c ≡ by_value test b d
by_value_same true a b c d e f = e
by_value_same false a b c d e f = f

before_next : (kind : LineKind) (o : Options) (next : List ℕ) (words : List (List ℕ)) (option : OptionKind) →
    by_value (has_value option)
    (with_option o option (number_of next) >>= λ more. options_from kind more words)
    (with_option o option None >>= λ more. options_from kind more (next ∷ words))
    ≡ more_from kind o (next ∷ words) option
unfolding take_option
before_next kind o next words option =
    sym (by_value_over (has_value option) (with_option o option (number_of next) >>= λ more. Ok (more, words))
    (with_option o option None >>= λ more. Ok (more, next ∷ words)) kind
    ∙ by_value_same (has_value option) _ _ _ _
    (bind_over (with_option o option (number_of next)) (λ more. Ok (more, words)) (others_from kind))
    (bind_over (with_option o option None) (λ more. Ok (more, next ∷ words)) (others_from kind)))

-- a word that is an option
pub at_option : (kind : LineKind) (o : Options) (word : List ℕ) (words : List (List ℕ)) →
    begins_with_dash word ≡ true →
    options_from kind o (word ∷ words) ≡ (option_word kind word >>= more_from kind o words)
unfolding options_from
at_option kind o word [] h =
    cond-true _ _ _ h ∙ bind_same (option_word kind word) _ _ (at_last kind o)
at_option kind o word (next ∷ words) h =
    cond-true _ _ _ h ∙ bind_same (option_word kind word) _ _ (before_next kind o next words)

-- a word that is none
pub at_other : (kind : LineKind) (o : Options) (word : List ℕ) (words : List (List ℕ)) →
    begins_with_dash word ≡ false → options_from kind o (word ∷ words) ≡ Ok (o, word ∷ words)
unfolding options_from
at_other kind o word [] h = cond-false _ _ _ h
at_other kind o word (next ∷ words) h = cond-false _ _ _ h

-- no word is left
pub ends : (whole : Found) (kind : LineKind) (o : Options) (rest copy : List (List ℕ)) →
    whole ≡ options_from kind o rest → copy ≡ rest → copy ≡ [] → Ok (o, rest) ≡ whole
ends whole kind o rest copy so_far same none =
    let empty : rest ≡ [] = sym same ∙ none in
    ap (λ words. Ok (o, words)) empty ∙ sym (so_far ∙ ap (options_from kind o) empty ∙ at_end kind o)

-- the next word is no option
pub stops : (whole : Found) (kind : LineKind) (o : Options) (rest copy : List (List ℕ)) (word : List ℕ)
    (words : List (List ℕ)) → whole ≡ options_from kind o rest → copy ≡ rest → copy ≡ word ∷ words →
    begins_with_dash word ≡ false → Ok (o, rest) ≡ whole
stops whole kind o rest copy word words so_far same next dash =
    let first : rest ≡ word ∷ words = sym same ∙ next in
    ap (λ ws. Ok (o, ws)) first
    ∙ sym (so_far ∙ ap (options_from kind o) first ∙ at_other kind o word words dash)

-- the whole by the next word, which is an option
by_option : (whole : Found) (kind : LineKind) (o : Options) (rest copy : List (List ℕ)) (word : List ℕ)
    (words : List (List ℕ)) → whole ≡ options_from kind o rest → copy ≡ rest → copy ≡ word ∷ words →
    begins_with_dash word ≡ true → whole ≡ (option_word kind word >>= more_from kind o words)
by_option whole kind o rest copy word words so_far same next dash =
    so_far ∙ ap (options_from kind o) (sym same ∙ next) ∙ at_option kind o word words dash

-- the next word is no option of the command
pub no_option : (whole : Found) (kind : LineKind) (o : Options) (rest copy : List (List ℕ)) (word : List ℕ)
    (words : List (List ℕ)) (refused : PlanKind) → whole ≡ options_from kind o rest → copy ≡ rest →
    copy ≡ word ∷ words → begins_with_dash word ≡ true → Err refused ≡ option_word kind word → Err refused ≡ whole
no_option whole kind o rest copy word words refused so_far same next dash is =
    sym (by_option whole kind o rest copy word words so_far same next dash
    ∙ ap (λ (r : Result OptionKind PlanKind). r >>= more_from kind o words) (sym is))

-- the option is not taken
pub not_taken : (whole : Found) (kind : LineKind) (o : Options) (rest copy : List (List ℕ)) (word : List ℕ)
    (words : List (List ℕ)) (option : OptionKind) (refused : PlanKind) → whole ≡ options_from kind o rest →
    copy ≡ rest → copy ≡ word ∷ words → begins_with_dash word ≡ true → Ok option ≡ option_word kind word →
    Err refused ≡ take_option o option words → Err refused ≡ whole
not_taken whole kind o rest copy word words option refused so_far same next dash is taken =
    sym (by_option whole kind o rest copy word words so_far same next dash
    ∙ ap (λ (r : Result OptionKind PlanKind). r >>= more_from kind o words) (sym is)
    ∙ ap (λ (r : Found). r >>= others_from kind) (sym taken))

-- the option is taken
pub goes_on : (whole : Found) (kind : LineKind) (o : Options) (rest copy : List (List ℕ)) (word : List ℕ)
    (words : List (List ℕ)) (option : OptionKind) (more : Options) (left : List (List ℕ)) →
    whole ≡ options_from kind o rest → copy ≡ rest → copy ≡ word ∷ words → begins_with_dash word ≡ true →
    Ok option ≡ option_word kind word → Ok (more, left) ≡ take_option o option words →
    whole ≡ options_from kind more left
goes_on whole kind o rest copy word words option more left so_far same next dash is taken =
    by_option whole kind o rest copy word words so_far same next dash
    ∙ ap (λ (r : Result OptionKind PlanKind). r >>= more_from kind o words) (sym is)
    ∙ ap (λ (r : Found). r >>= others_from kind) (sym taken)

-- the words after an option are no more than before it
abbrev IsShort : ℕ → Found → Type 0
IsShort n (Ok (more, left)) = length left ≤ n
IsShort n (Err kind) = Unit {0}

passed_on : (r : Result Options PlanKind) (words : List (List ℕ)) (n : ℕ) → length words ≤ n →
    IsShort n (r >>= λ more. Ok (more, words))
passed_on (Ok more) words n h = h
passed_on (Err kind) words n h = tt

after_rule : (test : Bool) (found : Found) (n : ℕ) → IsShort n found →
    IsShort n (rule test BadWords >>= λ _. found)
after_rule true found n h = h
after_rule false found n h = tt

either : (test : Bool) (a b : Found) (n : ℕ) → IsShort n a → IsShort n b → IsShort n (by_value test a b)
either true a b n h k = h
either false a b n h k = k

is_short : (o : Options) (option : OptionKind) (words : List (List ℕ)) →
    IsShort (length words) (take_option o option words)
unfolding take_option
is_short o option [] =
    after_rule (not (has_value option)) _ 0 (passed_on (with_option o option None) [] 0 (omega arith))
is_short o option (next ∷ words) =
    either (has_value option) _ _ (length (next ∷ words))
    (passed_on (with_option o option (number_of next)) words (length (next ∷ words)) (omega arith))
    (passed_on (with_option o option None) (next ∷ words) (length (next ∷ words)) (omega arith))

pub no_more_words : (o : Options) (option : OptionKind) (words : List (List ℕ)) (more : Options)
    (left : List (List ℕ)) → Ok (more, left) ≡ take_option o option words → length left ≤ length words
no_more_words o option words more left e =
    subst (IsShort (length words)) (sym e) (is_short o option words)
