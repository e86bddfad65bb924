-- Lines, words and numbers of a text.
use Rattle.std.specs.Prelude.{◌≡◌, ℕ, ◌^◌, Bool, false, ◌&&◌, ◌||◌, ◌==◌, nat_eq, nat_lt, if◌then◌else◌, Option, Some, None, List, [], ◌∷◌, length, drop, codes, refl}
use Rattle.std.specs.List.{position_or_len, prefix_len, starts_with, list_all}
use Rattle.std.specs.Char.{is_digit}
use Rattle.std.specs.Str.Parse.{digits_value}

-- LF ends a line
abbrev pub is_line_feed : ℕ → Bool
is_line_feed byte = byte == 10

-- how many bytes stand before the first LF, or before the end
abbrev pub line_length : List ℕ → ℕ
line_length bytes = position_or_len is_line_feed bytes

-- the greatest number of bytes of a line
abbrev pub longest_line : ℕ
longest_line = 65536

-- a byte before a text in the first of the text's pieces
abbrev pub with_byte : ℕ → List (List ℕ) → List (List ℕ)
with_byte byte [] = (byte ∷ []) ∷ []
with_byte byte (piece ∷ pieces) = (byte ∷ piece) ∷ pieces

-- the lines of a text: each ends with LF, and the last one may end with the text
abbrev pub lines_of : List ℕ → List (List ℕ)
lines_of [] = []
lines_of (byte ∷ bytes) = if is_line_feed byte then [] ∷ lines_of bytes else with_byte byte (lines_of bytes)

-- space and tab
abbrev pub is_blank : ℕ → Bool
is_blank byte = byte == 32 || byte == 9

-- how many blanks stand at the front
abbrev pub blank_length : List ℕ → ℕ
blank_length bytes = prefix_len is_blank bytes

-- how many bytes stand before the first blank, or before the end
abbrev pub word_length : List ℕ → ℕ
word_length bytes = position_or_len is_blank bytes

-- a byte that is no blank, before a text: it begins a word where a blank or the end follows, else
-- it belongs to the word that follows
abbrev pub with_letter : ℕ → List ℕ → List (List ℕ) → List (List ℕ)
with_letter byte [] runs = (byte ∷ []) ∷ runs
with_letter byte (next ∷ bytes) runs = if is_blank next then (byte ∷ []) ∷ runs else with_byte byte runs

-- each longest run of bytes that are no blanks
abbrev pub runs_of : List ℕ → List (List ℕ)
runs_of [] = []
runs_of (byte ∷ bytes) = if is_blank byte then runs_of bytes else with_letter byte bytes (runs_of bytes)

-- `#` begins a comment
abbrev pub begins_comment : List ℕ → Bool
begins_comment [] = false
begins_comment (byte ∷ bytes) = byte == 35

-- the runs before the one that begins a comment
abbrev pub before_comment : List (List ℕ) → List (List ℕ)
before_comment [] = []
before_comment (run ∷ runs) = if begins_comment run then [] else run ∷ before_comment runs

-- the words of a line: its runs of bytes that are no blanks, up to the comment
abbrev pub words_of : List ℕ → List (List ℕ)
words_of line = before_comment (runs_of line)

-- one digit or more in this base, of either case
abbrev pub is_numeral : ℕ → List ℕ → Bool
is_numeral base digits = nat_lt 0 (length digits) && list_all (λ digit. is_digit digit base) digits

-- the number that digits write in this base, where it has at most 64 bits
abbrev pub number_in : ℕ → List ℕ → Option ℕ
number_in base digits = if is_numeral base digits
    && nat_lt (digits_value base digits) (2 ^ 64) then Some (digits_value base digits) else None

-- the number of a word: `0x` and hexadecimal digits, or decimal digits
abbrev pub number_of : List ℕ → Option ℕ
number_of word = if starts_with nat_eq word (codes "0x") then number_in 16 (drop 2 word) else number_in 10 word

pub lines_with_and_without_end : lines_of (codes "a b\n\nc") ≡ codes "a b" ∷ [] ∷ codes "c" ∷ []
lines_with_and_without_end = refl

pub words_before_a_comment : words_of (codes " chip\t2048  a#b #64 c") ≡ codes "chip" ∷ codes "2048" ∷ codes "a#b" ∷ []
words_before_a_comment = refl

pub numbers_of_both_bases : number_of (codes "0x1F") ≡ Some 31
numbers_of_both_bases = refl

pub sign_is_no_digit : number_of (codes "+1") ≡ None
sign_is_no_digit = refl
