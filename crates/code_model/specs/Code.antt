-- BCH codes over steps of bytes, and the code word nearest to a word. Generator, order of bits and
-- mask are those of lib/bch and of nand_ecc's software BCH.
use Rattle.std.specs.Prelude.{◌≡◌, ℕ, zero, suc, ◌+◌, ◌-◌, ◌*◌, ◌/◌, ◌^◌, ◌<◌, ◌≤◌, Bool, ◌&&◌, nat_eq, nat_lt, List, [], ◌∷◌, ◌++◌, length, map, replicate, Option, Some, None, find, bit_xor}
use Rattle.std.specs.List.{list_all}
use Rattle.code_model.specs.Binary.{remainder, IsPrimitive}
use Rattle.code_model.specs.Generator.{generator_of}
use Rattle.code_model.specs.Word.{number_from, AreBits, IsMultiple, distance}
use Rattle.code_model.specs.Bits.{bits_of, bytes_of, xor_bytes}

-- a code: the degree and the modulus of its field, how many wrong bits it corrects, and the bytes
-- of a step
pub record Code : Type 0 where
  pub degree : ℕ
  pub modulus : ℕ
  pub strength : ℕ
  pub step_bytes : ℕ

-- the code over steps of 512 bytes that corrects t wrong bits
abbrev pub code_512 : ℕ → Code
code_512 t = record { degree = 13; modulus = 0x201b; strength = t; step_bytes = 512 }

-- the code over steps of 1024 bytes that corrects t wrong bits
abbrev pub code_1024 : ℕ → Code
code_1024 t = record { degree = 14; modulus = 0x402b; strength = t; step_bytes = 1024 }

-- the bits of a step's body
abbrev pub body_bits : Code → ℕ
body_bits code = 8 * code.step_bytes

-- the bits of a step's parity, as many as the generator's degree
abbrev pub parity_bits : Code → ℕ
parity_bits code = code.degree * code.strength

-- the bytes that hold the parity bits
abbrev pub parity_len : Code → ℕ
parity_len code = (parity_bits code + 7) / 8

-- the bits of a word: body and parity
abbrev pub word_bits : Code → ℕ
word_bits code = body_bits code + parity_bits code

-- the generator polynomial
abbrev pub generator : Code → ℕ
generator code = generator_of code.degree code.modulus code.strength

-- a body and its parity which, as a polynomial with the highest coefficient first, are a multiple
-- of the generator
pub record IsCodeWord (code : Code) (word : List ℕ) : Type 0 where
  pub long : length word ≡ word_bits code
  pub bits : AreBits word
  pub multiple : IsMultiple code.degree code.modulus code.strength word

-- the code is a BCH code: its modulus is primitive, and its words are shorter than 2^m
pub record IsBchCode (code : Code) : Type 0 where
  pub primitive : IsPrimitive code.degree code.modulus
  pub short : word_bits code < 2 ^ code.degree

-- c is a code word that differs from w in exactly d places, at most as many as the code corrects
pub record IsNearest (code : Code) (w c : List ℕ) (d : ℕ) : Type 0 where
  pub word : IsCodeWord code c
  pub apart : distance w c ≡ d
  pub near : d ≤ code.strength

-- each code word differs from w in more places than the code corrects
abbrev pub NoneNear : Code → List ℕ → Type 0
NoneNear code w = (c : List ℕ) → IsCodeWord code c → code.strength < distance w c

-- what a decoder answers to a word: the nearest code word with its distance, or nothing where none
-- is near
abbrev pub Decodes : Code → List ℕ → Option (List ℕ × ℕ) → Type 0
Decodes code w (Some (c, d)) = IsNearest code w c d
Decodes code w None = NoneNear code w

-- the test of `IsCodeWord`: as many bits as a word has, with no remainder by the generator
unfoldable pub is_code_word : Code → List ℕ → Bool
is_code_word code word =
    nat_eq (length word) (word_bits code) && list_all (λ b. nat_lt b 2) word && nat_eq (remainder (parity_bits code) (generator code) (number_from 0 word)) 0

-- b before each of these words
unfoldable pub put_before : ℕ → List (List ℕ) → List (List ℕ)
put_before b [] = []
put_before b (w ∷ words) = (b ∷ w) ∷ put_before b words

-- all words that differ from this one in exactly d places
unfoldable pub words_at : ℕ → List ℕ → List (List ℕ)
words_at zero word = word ∷ []
words_at (suc d) [] = []
words_at (suc d) (b ∷ word) = put_before b (words_at (suc d) word) ++ put_before (1 - b) (words_at d word)

-- the word with its distance, or else what is found later
unfoldable pub found_or : Option (List ℕ) → ℕ → (Unit {0} → Option (List ℕ × ℕ)) → Option (List ℕ × ℕ)
found_or (Some c) d later = Some (c, d)
found_or None d later = later tt

-- the first code word among the words that differ in d places, in d + 1, and so on, for n distances
unfoldable pub nearest_from : Code → ℕ → ℕ → List ℕ → Option (List ℕ × ℕ)
nearest_from code zero d w = None
nearest_from code (suc n) d w = found_or (find (is_code_word code) (words_at d w)) d (λ u. nearest_from code n (d + 1) w)

-- the nearest code word and its distance, where one is near
unfoldable pub nearest : Code → List ℕ → Option (List ℕ × ℕ)
nearest code w = nearest_from code (code.strength + 1) 0 w

-- the remainder of a body, moved up by the parity's bits, by the generator
unfoldable pub parity_number : Code → List ℕ → ℕ
parity_number code body = remainder (parity_bits code) (generator code) (number_from 0 (bits_of body) * 2 ^ parity_bits code)

-- the parity bytes that complete a body to a code word, with padding bits 0
unfoldable pub parity_of : Code → List ℕ → List ℕ
parity_of code body = bytes_of (parity_len code) (parity_number code body * 2 ^ (8 * parity_len code - parity_bits code))

-- the complement of the parity of an erased body, which turns that parity into 0xFF
unfoldable pub mask_of : Code → List ℕ
mask_of code = map (λ byte. bit_xor byte 0xff) (parity_of code (replicate code.step_bytes 0xff))

-- parity bytes with the mask put on or taken off
unfoldable pub masked : Code → List ℕ → List ℕ
masked code parity = xor_bytes parity (mask_of code)
