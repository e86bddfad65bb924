-- The forms of words: numbers that fit, tears, pieces, names, chips and devices.
use Rattle.std.specs.Prelude.{ℕ, Bool, true, false, not, ◌&&◌, ◌||◌, ◌==◌, nat_lt, nat_le, if◌then◌else◌, bytes_eq, List, [], ◌∷◌, length, take, drop, map, replicate, Option, Some, None, Result, Ok, Err, codes}
use Rattle.std.specs.List.{list_all}
use Rattle.std.specs.Char.{is_ascii_alphabetic, is_ascii_alphanumeric}
use Rattle.hex.specs.Hex.{decode_of, decode_sized}
use Rattle.hex.specs.declared.error.FromHexError.{FromHexError}
use Rattle.lab_text.specs.Text.{number_of, number_in, with_byte}
use Rattle.nand_model.specs.Seeds.{seed_byte}
use Rattle.nand_model.specs.Sizes.{numbers_from}
use Rattle.nand_model.specs.declared.tear.Tear.{Tear}
use Rattle.nand_model.specs.declared.tear.Tear.TheVariants.{Nothing, Everything, Seed as FromSeed, Spans}
use Rattle.nand_model.specs.declared.words.WeakKind.{WeakKind}
use Rattle.nand_model.specs.declared.words.WeakKind.TheVariants.{Program, Erase}
use Rattle.plan_grammar.specs.declared.kind.PlanKind.{PlanKind}
use Rattle.plan_grammar.specs.declared.kind.PlanKind.TheVariants.{BadWords, BadNumber}
use Rattle.plan_grammar.specs.declared.lines.Piece.{Piece}
use Rattle.plan_grammar.specs.declared.lines.Piece.TheVariants.{Fill, Seed, Hex}
use Rattle.plan_grammar.specs.Limits.{word_limit, longest_page}
use Rattle.plan_grammar.specs.Rules.{◌>>=◌, rule, there, some_if}

-- a byte is LF, TAB or from 0x20 to 0x7e
abbrev pub is_allowed : ℕ → Bool
is_allowed byte = byte == 10 || byte == 9 || (nat_le 32 byte && nat_le byte 126)

-- the only word
unfoldable pub one_word : List (List ℕ) → Result (List ℕ) PlanKind
one_word (first ∷ []) = Ok first
one_word _ = Err BadWords

-- the two words
unfoldable pub two_words : List (List ℕ) → Result (List ℕ × List ℕ) PlanKind
two_words (first ∷ second ∷ []) = Ok (first, second)
two_words _ = Err BadWords

-- the three words
unfoldable pub three_words : List (List ℕ) → Result (List ℕ × List ℕ × List ℕ) PlanKind
three_words (first ∷ second ∷ third ∷ []) = Ok (first, second, third)
three_words _ = Err BadWords

-- the four words
unfoldable pub four_words : List (List ℕ) → Result (List ℕ × List ℕ × List ℕ × List ℕ) PlanKind
four_words (first ∷ second ∷ third ∷ fourth ∷ []) = Ok (first, second, third, fourth)
four_words _ = Err BadWords

-- a number of a word
unfoldable pub number : List ℕ → Result ℕ PlanKind
number word = there (number_of word) BadNumber

-- a page, a block, a count, a bit or an event
unfoldable pub small_number : List ℕ → Result ℕ PlanKind
small_number word = do
  n ← number word
  _ ← rule (nat_lt n word_limit) BadNumber
  Ok n

-- such a number from 1 on
unfoldable pub positive_number : List ℕ → Result ℕ PlanKind
positive_number word = do
  n ← small_number word
  _ ← rule (nat_le 1 n) BadNumber
  Ok n

-- the numbers of all words
unfoldable pub numbers : List (List ℕ) → Result (List ℕ) PlanKind
numbers [] = Ok []
numbers (word ∷ words) = do
  n ← number word
  ns ← numbers words
  Ok (n ∷ ns)

-- the same of pages, blocks, counts, bits or events
unfoldable pub small_numbers : List (List ℕ) → Result (List ℕ) PlanKind
small_numbers [] = Ok []
small_numbers (word ∷ words) = do
  n ← small_number word
  ns ← small_numbers words
  Ok (n ∷ ns)

-- what follows a front, where the word begins with it
unfoldable pub after_front : List ℕ → List ℕ → Option (List ℕ)
after_front front word = some_if (bytes_eq (take (length front) word) front) (drop (length front) word)

-- the parts of a text between separators
abbrev pub parts_between : ℕ → List ℕ → List (List ℕ)
parts_between separator [] = [] ∷ []
parts_between separator (byte ∷ bytes) =
    if byte == separator then [] ∷ parts_between separator bytes else with_byte byte (parts_between separator bytes)

-- two texts around one separator
abbrev pub pair_of : List (List ℕ) → Option (List ℕ × List ℕ)
pair_of (first ∷ second ∷ []) = Some (first, second)
pair_of _ = None

-- the two texts around the only separator
unfoldable pub halves : ℕ → List ℕ → Option (List ℕ × List ℕ)
halves separator text = pair_of (parts_between separator text)

-- a span `A-B` with A below B, which begins at or after the end of the one before and ends within
-- the largest page
unfoldable pub span_from : ℕ → List ℕ → Result (ℕ × ℕ) PlanKind
span_from end text = do
  ends ← there (halves 45 text) BadNumber
  first ← number ends.0
  last ← number ends.1
  _ ← rule (nat_le end first && nat_lt first last && nat_le last longest_page) BadNumber
  Ok (first, last)

-- spans one after the other
unfoldable pub spans_from : ℕ → List (List ℕ) → Result (List (ℕ × ℕ)) PlanKind
spans_from end [] = Ok []
spans_from end (text ∷ texts) = do
  span ← span_from end text
  spans ← spans_from span.1 texts
  Ok (span ∷ spans)

-- the tears with a text behind their name: `seed:N`, `spans:A-B,C-D`
abbrev pub long_tear : (seed spans : Option (List ℕ)) → Result Tear PlanKind
long_tear (Some text) spans = do
  n ← number text
  Ok (FromSeed n)
long_tear None (Some text) = do
  spans ← spans_from 0 (parts_between 44 text)
  Ok (Spans spans)
long_tear None None = Err BadNumber

-- a tear: `none`, `all`, or one with a text behind its name
unfoldable pub tear : List ℕ → Result Tear PlanKind
tear word =
    if bytes_eq word (codes "none") then Ok Nothing
    else if bytes_eq word (codes "all") then Ok Everything
    else long_tear (after_front (codes "seed:") word) (after_front (codes "spans:") word)

-- the only byte that was decoded
abbrev pub one_byte : Result (List ℕ) FromHexError → Option ℕ
one_byte (Ok (byte ∷ [])) = Some byte
one_byte _ = None

-- the byte of two hexadecimal digits
unfoldable pub byte_of : List ℕ → Option ℕ
byte_of digits = one_byte (decode_sized digits 1)

-- the bytes of pairs of digits
abbrev pub decoded_bytes : Result (List ℕ) FromHexError → Option (List ℕ)
decoded_bytes (Ok bytes) = Some bytes
decoded_bytes (Err e) = None

-- what follows `fill:`
unfoldable pub fill_piece : List ℕ → Result Piece PlanKind
fill_piece text = do
  parts ← there (halves 58 text) BadNumber
  byte ← there (byte_of parts.0) BadNumber
  len ← number parts.1
  Ok (Fill byte len)

-- what follows `seed:`
unfoldable pub seed_piece : List ℕ → Result Piece PlanKind
seed_piece text = do
  parts ← there (halves 58 text) BadNumber
  seed ← number parts.0
  len ← number parts.1
  Ok (Seed seed len)

-- what follows `hex:`
unfoldable pub hex_piece : List ℕ → Result Piece PlanKind
hex_piece text = do
  bytes ← there (decoded_bytes (decode_of text)) BadNumber
  Ok (Hex bytes)

-- a piece: `fill:XX:LEN`, `seed:N:LEN`, or `hex:` and pairs of digits
abbrev pub piece_by_front : (fill seed hex : Option (List ℕ)) → Result Piece PlanKind
piece_by_front (Some text) seed hex = fill_piece text
piece_by_front None (Some text) hex = seed_piece text
piece_by_front None None (Some text) = hex_piece text
piece_by_front None None None = Err BadNumber

-- the piece of a word
unfoldable pub piece : List ℕ → Result Piece PlanKind
piece word = piece_by_front (after_front (codes "fill:") word) (after_front (codes "seed:") word) (after_front
    (codes "hex:") word)

-- the pieces of all words
unfoldable pub pieces : List (List ℕ) → Result (List Piece) PlanKind
pieces [] = Ok []
pieces (word ∷ words) = do
  first ← piece word
  others ← pieces words
  Ok (first ∷ others)

-- the bytes of a piece
abbrev pub piece_bytes : Piece → List ℕ
piece_bytes (Fill byte len) = replicate len byte
piece_bytes (Seed seed len) = map (seed_byte seed) (numbers_from 0 len)
piece_bytes (Hex bytes) = bytes

-- how many bytes a piece is
abbrev pub piece_length : Piece → ℕ
piece_length (Fill byte len) = len
piece_length (Seed seed len) = len
piece_length (Hex bytes) = length bytes

-- a byte of a NAME: a letter, a digit or `_`
abbrev pub is_name_byte : ℕ → Bool
is_name_byte byte = is_ascii_alphanumeric byte || byte == 95

-- the first byte is a letter
abbrev pub begins_with_letter : List ℕ → Bool
begins_with_letter [] = false
begins_with_letter (byte ∷ bytes) = is_ascii_alphabetic byte

-- a NAME: 1 to 32 letters, digits and `_`, the first of them a letter
unfoldable pub is_name : List ℕ → Bool
is_name word = begins_with_letter word && list_all is_name_byte word && nat_le (length word) 32

-- digits without leading zeros
abbrev pub has_no_leading_zero : List ℕ → Bool
has_no_leading_zero [] = true
has_no_leading_zero (digit ∷ digits) = not (digit == 48) || nat_le (length digits) 0

-- the number of such decimal digits
abbrev pub plain_decimal : Option (List ℕ) → Option ℕ
plain_decimal None = None
plain_decimal (Some digits) = if has_no_leading_zero digits then number_in 10 digits else None

-- the number of `mtdJ`
unfoldable pub device_number : List ℕ → Option ℕ
device_number word = plain_decimal (after_front (codes "mtd") word)

-- two numbers, where both are there
abbrev pub both_numbers : Option ℕ → Option ℕ → Option (ℕ × ℕ)
both_numbers (Some c) (Some k) = Some (c, k)
both_numbers _ _ = None

-- the numbers of two texts
abbrev pub numbers_of_pair : Option (List ℕ × List ℕ) → Option (ℕ × ℕ)
numbers_of_pair None = None
numbers_of_pair (Some (c, k)) = both_numbers (number_of c) (number_of k)

-- the numbers of `C.K`
unfoldable pub chip_numbers : List ℕ → Option (ℕ × ℕ)
chip_numbers word = numbers_of_pair (halves 46 word)

-- the kind of a weak place
abbrev pub weak_kind : List ℕ → Option WeakKind
weak_kind word =
    if bytes_eq word (codes "program") then Some Program else if bytes_eq word (codes "erase") then Some Erase else None
