-- The steps of `clap` over the words of a command of two positionals.
use Rattle.std.proofs.Common.{◌≡◌, ◌∙◌, ◌⊎◌, ℕ, zero, suc, Bool, true, false, inl, inr, List, [], ◌∷◌, Option, Some, None, refl, ap, codes, bytes_eq}
use Rattle.std.specs.Prelude.{if◌then◌else◌, length, slice_get}
use Rattle.std.specs.Str.{chars}
use Rattle.clap.specs.Lexer.{long_of, short_of}
use Rattle.clap.specs.Walk.{Held, Outcome, Row, Rule, Step, Text, Walk, after_flag, after_step, bundle_met, bundle_step, idle, long_or_other, plain, pushed, refused, settled, short_or_plain, trailing, value, walked, word_met}
use Rattle.clap.specs.Simple.{Shape, built}
use Rattle.nandlab.specs.Positionals.{two_positionals}

-- the built command, and its two positionals
abbrev pub shape : Shape
shape = (built two_positionals).top

abbrev pub rules : List Rule
rules = shape.rules

abbrev pub dashes : Text
dashes = 45 ∷ 45 ∷ []

-- what is held between two words, where no bundle of flags is being read
abbrev pub held : List Row → Option (Text × List Text) → Held
held rows pending = record { rows = rows; pending = pending; skip = 0 }

-- no word, one word and two words
abbrev pub holds_none : Held
holds_none = held [] None

abbrev pub holds_word : Text → Held
holds_word word = pushed (codes "word") word holds_none

abbrev pub holds_both : Text → Text → Held
holds_both word number = pushed (codes "number") number (settled rules (holds_word word))

-- the walk before the positional of this number, after `--` or not
abbrev pub at : Bool → ℕ → Held → Walk
at is_trailing position h = record {
  held = h;
  waiting = idle;
  position = position;
  is_trailing = is_trailing;
  stopped = None;
}

-- what an outcome that leaves what is held comes to
abbrev Keeps : Held × Outcome → Held → Type 0
Keeps met h = (met ≡ (h, plain)) ⊎ (met ≡ (h, refused))

flag_of_bundle : (x : Option ℕ) (flags : Text) (h : Held) (next : Text → ℕ → Outcome → Held → Held × Outcome)
    → Keeps (bundle_step rules x flags 0 plain h next) h
flag_of_bundle None flags h next = inl refl
flag_of_bundle (Some x) flags h next = inr refl

-- no flag is known, so that a bundle leaves what is held
bundle_keeps : (k : ℕ) (flags : Text) (h : Held) → Keeps (bundle_met rules k flags 0 plain h) h
unfolding bundle_met
bundle_keeps zero flags h = inl refl
bundle_keeps (suc k) flags h = flag_of_bundle (slice_get (chars flags) 0) flags h (bundle_met rules k)

after_bundle : (met : Held × Outcome) (word : Text) (h : Held) → Keeps met h
    → after_flag rules idle word met.0 met.1 ≡ (h, value)
after_bundle met word h (inl e) = ap (λ (m : Held × Outcome). after_flag rules idle word m.0 m.1) e
after_bundle met word h (inr e) = ap (λ (m : Held × Outcome). after_flag rules idle word m.0 m.1) e

short_is_value : (flags : Option Text) (word : Text) (rows : List Row) (pending : Option (Text × List Text))
    → short_or_plain rules idle word flags (held rows pending) ≡ (held rows pending, value)
short_is_value None word rows pending = refl
short_is_value (Some flags) word rows pending =
    after_bundle (bundle_met rules (length flags) flags 0 plain (held rows pending)) word (held rows pending)
    (bundle_keeps (length flags) flags (held rows pending))

long_is_value : (name : Option (Text × Option Text)) (word : Text) (rows : List Row) (pending : Option (Text × List Text))
    → long_or_other rules idle word name (held rows pending) ≡ (held rows pending, value)
long_is_value None word rows pending = short_is_value (short_of word) word rows pending
long_is_value (Some name) word rows pending = refl

-- what a word is, by whether it is `--`
abbrev met_by : Bool → ℕ → Text → Held → Held × Step
met_by is_dashes position word h =
    if is_dashes then (h, trailing position) else long_or_other rules idle word (long_of word) h

pub met_dashes : (position : ℕ) (word : Text) (h : Held) → bytes_eq word dashes ≡ true
    → word_met rules [] false idle position word h ≡ (h, trailing position)
met_dashes position word h e = ap (λ (b : Bool). met_by b position word h) e

-- another word goes to a positional as it is, even where it is refused as a flag
pub met_other : (position : ℕ) (word : Text) (rows : List Row) (pending : Option (Text × List Text))
    → bytes_eq word dashes ≡ false
    → word_met rules [] false idle position word (held rows pending) ≡ (held rows pending, value)
met_other position word rows pending e =
    ap (λ (b : Bool). met_by b position word (held rows pending)) e ∙ long_is_value (long_of word) word rows pending

-- the walk after `--`
pub walk_dashes : (position : ℕ) (word : Text) (h : Held) → bytes_eq word dashes ≡ true
    → walked rules [] (at false position h) word ≡ at true position h
unfolding walked
walk_dashes position word h e =
    ap (λ (m : Held × Step). after_step rules word (at false position h) m.0 m.1) (met_dashes position word h e)

-- the walk after a first and a second word
pub walk_word : (word : Text) → bytes_eq word dashes ≡ false
    → walked rules [] (at false 1 holds_none) word ≡ at false 2 (holds_word word)
unfolding walked
walk_word word e =
    ap (λ (m : Held × Step). after_step rules word (at false 1 holds_none) m.0 m.1) (met_other 1 word [] None e)

pub walk_number : (word number : Text) → bytes_eq number dashes ≡ false
    → walked rules [] (at false 2 (holds_word word)) number ≡ at false 3 (holds_both word number)
unfolding walked
walk_number word number e =
    ap (λ (m : Held × Step). after_step rules number (at false 2 (holds_word word)) m.0 m.1)
    (met_other 2 number (holds_word word).rows (holds_word word).pending e)

-- the same after `--`
pub walk_word_after : (word : Text) → walked rules [] (at true 1 holds_none) word ≡ at true 2 (holds_word word)
unfolding walked
walk_word_after word = refl

pub walk_number_after : (word number : Text)
    → walked rules [] (at true 2 (holds_word word)) number ≡ at true 3 (holds_both word number)
unfolding walked
walk_number_after word number = refl
