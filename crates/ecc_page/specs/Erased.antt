-- Steps of an erased page in which a few bits have gone to 0.
use Rattle.std.specs.Prelude.{◌≡◌, ℕ, ◌*◌, Bool, nat_eq, List, ◌++◌, take, drop, replicate, count_by, Some}
use Rattle.code_model.specs.Bits.{bits_of}
use Rattle.nand_model.specs.Page.{StepRead}

-- a bit that is 0
abbrev pub is_zero : ℕ → Bool
is_zero bit = nat_eq bit 0

-- how many bits of a step's word are 0; the padding does not count
abbrev pub zero_bits : ℕ → List ℕ → List ℕ → ℕ
zero_bits t body stored = count_by is_zero (bits_of body ++ take (13 * t) (bits_of stored))

-- each bit of the step's word was read as 1, its padding as it was stored, and n bits were put
-- right
pub record IsErasedRead (t : ℕ) (stored : List ℕ) (n : ℕ) (read : StepRead) : Type 0 where
  pub body : read.body ≡ replicate 512 0xff
  pub parity : bits_of read.parity ≡ replicate (13 * t) 1 ++ drop (13 * t) (bits_of stored)
  pub corrected : read.corrected ≡ Some n
