-- The words of a call, and what they ask for.
use Rattle.std.specs.Prelude.{◌≡◌, ℕ, ◌<◌, ◌≤◌, if◌then◌else◌, List, [], ◌∷◌, drop, map, codes, bytes_eq, string_bytes, String, Option, Some, None, option_map, option_and_then, ⊤, refl}
use Rattle.std.specs.declared.alloc.Global.{Global}
use Rattle.plan_grammar.specs.Forms.{plain_decimal}
use Rattle.plan_grammar.specs.Limits.{most_bytes}
use Rattle.bus_script.specs.Script.{most_bytes as most_script_bytes}
use Rattle.code_words.specs.Inputs.{longest_input, strength_of}
use Rattle.nandlab.specs.declared.request.Request.{Request}
use Rattle.nandlab.specs.declared.request.Request.TheVariants.{Check, Replay, Run, Make, Bus, Encode, Decode}

-- the words of a call, without the program's name
abbrev pub Words : Type 0
Words = List (String Global)

-- the words behind the first argument of a program, which is its name
abbrev pub words_behind : Words → Words
words_behind arguments = drop 1 arguments

-- their texts
abbrev pub texts_of : Words → List (List ℕ)
texts_of words = map string_bytes words

-- the words without the first `--`
abbrev pub without_dashes : List (List ℕ) → List (List ℕ)
without_dashes [] = []
without_dashes (word ∷ words) = if bytes_eq word (codes "--") then words else word ∷ without_dashes words

-- what one word asks for
abbrev pub word_request : List ℕ → Option Request
word_request word =
    if bytes_eq word (codes "check") then Some Check
    else (if bytes_eq word (codes "replay") then Some Replay
    else (if bytes_eq word (codes "run") then Some Run
    else (if bytes_eq word (codes "bus") then Some Bus else None)))

-- a number from 1 to 16 in decimal, without leading zeros
abbrev pub strength_in : List ℕ → Option ℕ
strength_in number = option_and_then strength_of (plain_decimal (Some number))

-- what a word and a number ask for: the number is decimal, without leading zeros and below 2^64, and
-- for the code from 1 to 16
abbrev pub number_request : List ℕ → List ℕ → Option Request
number_request word number =
    if bytes_eq word (codes "make") then option_map Make (plain_decimal (Some number))
    else (if bytes_eq word (codes "encode14") then option_map Encode (strength_in number)
    else (if bytes_eq word (codes "decode14") then option_map Decode (strength_in number) else None))

-- what words without `--` ask for
abbrev pub plain_request : List (List ℕ) → Option Request
plain_request (word ∷ []) = word_request word
plain_request (word ∷ number ∷ []) = number_request word number
plain_request _ = None

-- what words ask for, of which one may be `--`; none where they are not accepted
abbrev pub text_request : List (List ℕ) → Option Request
text_request words = plain_request (without_dashes words)

-- what the words of a call ask for
abbrev pub request_of : Words → Option Request
request_of words = text_request (texts_of words)

-- the most bytes that a request may be given; none where it reads nothing
abbrev pub most_read : Request → Option ℕ
most_read Check = Some most_bytes
most_read Replay = Some most_bytes
most_read Run = Some most_bytes
most_read (Make n) = None
most_read Bus = Some most_script_bytes
most_read (Encode t) = Some longest_input
most_read (Decode t) = Some longest_input

-- a strength of the code that it names is one, from 1 to 16
abbrev pub HasStrength : Request → Type 0
HasStrength Check = ⊤
HasStrength Replay = ⊤
HasStrength Run = ⊤
HasStrength (Make n) = ⊤
HasStrength Bus = ⊤
HasStrength (Encode t) = (0 < t) × (t ≤ 16)
HasStrength (Decode t) = (0 < t) × (t ≤ 16)

-- the most bytes that these words may be given; none where they ask for none or are not accepted
abbrev pub most_asked : Option Request → Option ℕ
most_asked None = None
most_asked (Some request) = most_read request

-- what a call is given of the bytes that its source has left, as far as they are told: all of them,
-- and no bytes where it reads nothing
abbrev pub given_of : Option ℕ → Option (List ℕ) → Option (List ℕ)
given_of None left = Some []
given_of (Some most) left = left

-- the same for the words of a call
abbrev pub given_to : Words → Option (List ℕ) → Option (List ℕ)
given_to words left = given_of (most_asked (request_of words)) left

pub dashes_before_the_word : text_request (codes "--" ∷ codes "run" ∷ []) ≡ Some Run
dashes_before_the_word = refl

pub dashes_twice : text_request (codes "--" ∷ codes "check" ∷ codes "--" ∷ []) ≡ None
dashes_twice = refl

pub leading_zero : text_request (codes "make" ∷ codes "007" ∷ []) ≡ None
leading_zero = refl

pub strength_0 : text_request (codes "encode14" ∷ codes "0" ∷ []) ≡ None
strength_0 = refl

pub strength_17 : text_request (codes "decode14" ∷ codes "17" ∷ []) ≡ None
strength_17 = refl

pub strength_04 : text_request (codes "encode14" ∷ codes "04" ∷ []) ≡ None
strength_04 = refl

pub strength_16 : text_request (codes "decode14" ∷ codes "16" ∷ []) ≡ Some (Decode 16)
strength_16 = refl
