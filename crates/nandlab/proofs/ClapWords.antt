-- The words that a parse without fault gives to the two positionals are those of the call without
-- the first `--`.
use Rattle.std.proofs.Common.{◌≡◌, ◌∙◌, Bool, true, false, inl, inr, List, [], ◌∷◌, Option, Some, None, refl, ap, sym, subst, codes, bytes_eq}
use Rattle.std.specs.Prelude.{fold, if◌then◌else◌, is_some}
use Rattle.std.proofs.lemmas.Bool.{cases_Bool}
use Rattle.clap.specs.Walk.{Held, Step, Text, Walk, finished, first_of, idle, nothing_held, walked, word_met}
use Rattle.clap.specs.Simple.{built, entered, matches_of}
use Rattle.clap.specs.Kinds.{Kinds, or_else}
use Rattle.clap.specs.Faults.{check_fault, defaults_fault, entered_fault, fault_of, level_fault, settle_fault, step_fault, turn_fault, walk_fault, word_fault}
use Rattle.clap.specs.Walk.{settled}
use Rattle.clap.specs.declared.error.kind.ErrorKind.TheVariants as kind
use Rattle.nandlab.specs.Positionals.{positionals, two_positionals}
use Rattle.nandlab.specs.Words.{without_dashes}
use Rattle.nandlab.proofs.ClapSteps.{at, dashes, holds_both, holds_none, holds_word, met_other, rules, shape, walk_dashes, walk_number, walk_number_after, walk_word, walk_word_after}

pub or_else_first : (x y : Kinds) → or_else x y ≡ [] → x ≡ []
or_else_first [] y e = refl
or_else_first (k ∷ ks) y e = e

pub or_else_later : (x y : Kinds) → or_else x y ≡ [] → y ≡ []
or_else_later [] y e = e
or_else_later (k ∷ ks) y e = absurd (cc e)

-- the walk over words, from a place on
abbrev pub walk_on : Walk → List Text → Walk
walk_on from words = fold (walked rules []) from words

-- the words of the positionals at its end
abbrev given : Walk → List Text
given w = positionals (first_of (codes "word") (finished rules w.held)) (first_of (codes "number") (finished rules w.held))

-- from this place on a walk without fault gives these words
abbrev Gives : Walk → List Text → List Text → Type 0
Gives from words out = walk_fault shape [] from words ≡ [] → given (walk_on from words) ≡ out

-- one step of it
step : (from next : Walk) (word : Text) (words out : List Text) → walked rules [] from word ≡ next → Gives next words out
    → Gives from (word ∷ words) out
unfolding walk_fault
step from next word words out e gives free =
    ap (λ (w : Walk). given (walk_on w words)) e
    ∙ gives (subst (λ (w : Walk). walk_fault shape [] w words ≡ []) e (or_else_later (turn_fault shape [] from word) _ free))

-- after `--`
stray_after : (word number other : Text) (words out : List Text)
    → Gives (at true 3 (holds_both word number)) (other ∷ words) out
unfolding walk_fault
stray_after word number other words out free = let clash : kind.UnknownArgument ∷ [] ≡ [] = free in absurd (cc clash)

both_after : (word number : Text) (words : List Text)
    → Gives (at true 3 (holds_both word number)) words (word ∷ number ∷ words)
both_after word number [] free = refl
both_after word number (other ∷ words) free = stray_after word number other words (word ∷ number ∷ other ∷ words) free

word_after : (word : Text) (words : List Text) → Gives (at true 2 (holds_word word)) words (word ∷ words)
word_after word [] free = refl
word_after word (number ∷ words) free =
    step (at true 2 (holds_word word)) (at true 3 (holds_both word number)) number words (word ∷ number ∷ words)
    (walk_number_after word number) (both_after word number words) free

none_after : (words : List Text) → Gives (at true 1 holds_none) words words
none_after [] free = refl
none_after (word ∷ words) free =
    step (at true 1 holds_none) (at true 2 (holds_word word)) word words (word ∷ words) (walk_word_after word)
    (word_after word words) free

-- what remains of words that begin with `--` or with another word
pub dashes_out : (word : Text) (words : List Text) → bytes_eq word dashes ≡ true → without_dashes (word ∷ words) ≡ words
dashes_out word words e = ap (λ (b : Bool). if b then words else word ∷ without_dashes words) e

pub word_stays : (word : Text) (words : List Text) → bytes_eq word dashes ≡ false
    → without_dashes (word ∷ words) ≡ word ∷ without_dashes words
word_stays word words e = ap (λ (b : Bool). if b then words else word ∷ without_dashes words) e

-- a third word is a fault
stray : (word number other : Text) (words out : List Text) → bytes_eq other dashes ≡ false
    → Gives (at false 3 (holds_both word number)) (other ∷ words) out
unfolding walk_fault
stray word number other words out e free =
    let h : Held = holds_both word number in
    let met : Held × Step = word_met rules [] false idle 3 other h in
    let first : turn_fault shape [] (at false 3 h) other ≡ [] = or_else_first (turn_fault shape [] (at false 3 h) other) _ free in
    let late : step_fault shape 3 met.0 met.1 ≡ [] = or_else_later (word_fault shape [] false idle other h) (step_fault shape 3 met.0 met.1) first in
    let clash : kind.UnknownArgument ∷ [] ≡ [] =
    subst (λ (m : Held × Step). step_fault shape 3 m.0 m.1 ≡ []) (met_other 3 other h.rows h.pending e) late in
    absurd (cc clash)

both_given : (word number : Text) (words : List Text)
    → Gives (at false 3 (holds_both word number)) words (word ∷ number ∷ without_dashes words)
both_given word number [] free = refl
both_given word number (other ∷ words) free = elim (cases_Bool (bytes_eq other dashes)) [
  | inl e ↦ step (at false 3 (holds_both word number)) (at true 3 (holds_both word number)) other words (word ∷ number ∷ words)
      (walk_dashes 3 other (holds_both word number) e) (both_after word number words) free
      ∙ ap (λ (ws : List Text). word ∷ number ∷ ws) (sym (dashes_out other words e))
  | inr e ↦ stray word number other words (word ∷ number ∷ without_dashes (other ∷ words)) e free
]

word_given : (word : Text) (words : List Text) → Gives (at false 2 (holds_word word)) words (word ∷ without_dashes words)
word_given word [] free = refl
word_given word (number ∷ words) free = elim (cases_Bool (bytes_eq number dashes)) [
  | inl e ↦ step (at false 2 (holds_word word)) (at true 2 (holds_word word)) number words (word ∷ words)
      (walk_dashes 2 number (holds_word word) e) (word_after word words) free
      ∙ ap (λ (ws : List Text). word ∷ ws) (sym (dashes_out number words e))
  | inr e ↦ step (at false 2 (holds_word word)) (at false 3 (holds_both word number)) number words
      (word ∷ number ∷ without_dashes words) (walk_number word number e) (both_given word number words) free
      ∙ ap (λ (ws : List Text). word ∷ ws) (sym (word_stays number words e))
]

none_given : (words : List Text) → Gives (at false 1 holds_none) words (without_dashes words)
none_given [] free = refl
none_given (word ∷ words) free = elim (cases_Bool (bytes_eq word dashes)) [
  | inl e ↦ step (at false 1 holds_none) (at true 1 holds_none) word words words
      (walk_dashes 1 word holds_none e) (none_after words) free
      ∙ sym (dashes_out word words e)
  | inr e ↦ step (at false 1 holds_none) (at false 2 (holds_word word)) word words (word ∷ without_dashes words)
      (walk_word word e) (word_given word words) free
      ∙ sym (word_stays word words e)
]

-- the faults after the walk
abbrev pub end_fault : Held → Kinds
end_fault h =
    or_else (settle_fault rules shape.args_override_self h)
    (or_else (defaults_fault (settled rules h).rows rules) (check_fault shape (finished rules h) false))

-- a parse enters no subcommand
no_subcommand : (stop : Option (Text × List Text)) (words : List Text)
    → level_fault shape [] nothing_held words (is_some (entered (built two_positionals) stop)) (entered_fault (built two_positionals) stop)
    ≡ level_fault shape [] nothing_held words false []
no_subcommand None words = refl
no_subcommand (Some stop) words = refl

-- the faults of a parse are those of the walk, and then those after it
pub faults_are : (words : List Text) → fault_of two_positionals words
    ≡ or_else (walk_fault shape [] (at false 1 holds_none) words) (end_fault (walk_on (at false 1 holds_none) words).held)
faults_are words = no_subcommand (walk_on (at false 1 holds_none) words).stopped words

pub words_given : (words : List Text) → fault_of two_positionals words ≡ [] →
    positionals (first_of (codes "word") (matches_of two_positionals words)) (first_of (codes "number") (matches_of two_positionals words))
    ≡ without_dashes words
words_given words free =
    none_given words
    (or_else_first (walk_fault shape [] (at false 1 holds_none) words) (end_fault (walk_on (at false 1 holds_none) words).held)
    (sym (faults_are words) ∙ free))
