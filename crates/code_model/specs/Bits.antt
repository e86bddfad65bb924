-- Bits of bytes, as the numbers 0 and 1. Bit 0 is the highest bit of the first byte, the order in
-- which lib/bch reads a message and its parity.
use Rattle.std.specs.Prelude.{ℕ, zero, suc, ◌-◌, ◌/◌, ◌%◌, ◌^◌, List, [], ◌∷◌, ◌++◌, slice_index, bit_xor}
use Rattle.code_model.specs.Word.{number_from}

-- the eight bits of a byte, the highest first
abbrev pub byte_bits : ℕ → List ℕ
byte_bits byte =
    byte / 128 % 2 ∷ byte / 64 % 2 ∷ byte / 32 % 2 ∷ byte / 16 % 2
    ∷ byte / 8 % 2 ∷ byte / 4 % 2 ∷ byte / 2 % 2 ∷ byte % 2 ∷ []

-- the bits of bytes
unfoldable pub bits_of : List ℕ → List ℕ
bits_of [] = []
bits_of (byte ∷ bytes) = byte_bits byte ++ bits_of bytes

-- the byte in which bit k stands
abbrev pub byte_with_bit : ℕ → ℕ
byte_with_bit k = k / 8

-- the value that bit k has in its byte
abbrev pub value_of_bit : ℕ → ℕ
value_of_bit k = 2 ^ (7 - k % 8)

-- bit k of bytes
abbrev pub bit_of : List ℕ → ℕ → ℕ
bit_of bytes k = slice_index bytes (byte_with_bit k) / value_of_bit k % 2

-- n bits of bytes, from the k-th on
unfoldable pub bits_from : List ℕ → ℕ → ℕ → List ℕ
bits_from bytes k zero = []
bits_from bytes k (suc n) = bit_of bytes k ∷ bits_from bytes (suc k) n

-- the bytes of bits, eight to a byte; fewer than eight at the end make none
unfoldable pub bytes_of_bits : List ℕ → List ℕ
bytes_of_bits (a ∷ b ∷ c ∷ d ∷ e ∷ f ∷ g ∷ h ∷ bits) = number_from 0 (a ∷ b ∷ c ∷ d ∷ e ∷ f ∷ g ∷ h ∷ []) ∷ bytes_of_bits bits
bytes_of_bits _ = []

-- the low n bytes of a number, the highest first
unfoldable pub bytes_of : ℕ → ℕ → List ℕ
bytes_of zero number = []
bytes_of (suc n) number = number / 256 ^ n % 256 ∷ bytes_of n number

-- two lists of bytes summed byte by byte, as far as both go
unfoldable pub xor_bytes : List ℕ → List ℕ → List ℕ
xor_bytes [] ys = []
xor_bytes (x ∷ xs) [] = []
xor_bytes (x ∷ xs) (y ∷ ys) = bit_xor x y ∷ xor_bytes xs ys
