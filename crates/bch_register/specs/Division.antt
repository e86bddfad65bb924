-- Bodies of bytes divided by a generator.
use Rattle.std.specs.Prelude.{ℕ, ◌+◌, ◌-◌, ◌*◌, ◌/◌, ◌^◌, List}
use Rattle.code_model.specs.Binary.{remainder}
use Rattle.code_model.specs.Bits.{bits_of, bytes_of}
use Rattle.code_model.specs.Word.{number_from}

-- the polynomial x^256 + modulus
abbrev pub with_top : ℕ → ℕ
with_top modulus = 2 ^ 256 + modulus

-- the remainder of a body's polynomial, moved up by the generator's degree
abbrev pub parity_number_of : ℕ → ℕ → List ℕ → ℕ
parity_number_of degree generator body = remainder degree generator (number_from 0 (bits_of body) * 2 ^ degree)

-- its coefficients in bytes, the highest first, with padding bits 0
abbrev pub parity_bytes_of : ℕ → ℕ → List ℕ → List ℕ
parity_bytes_of degree generator body =
    let len = (degree + 7) / 8 in bytes_of len (parity_number_of degree generator body * 2 ^ (8 * len - degree))
