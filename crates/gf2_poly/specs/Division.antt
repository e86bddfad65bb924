-- Division with remainder.
use Rattle.std.specs.Prelude.{ℕ, ◌^◌, ◌<◌, ◌≡◌, bit_xor}
use Rattle.code_model.specs.Binary.{product, HasDegree}

-- r has a lower degree than b, and differs from a by a multiple of b
pub record IsRemainder (a b r : ℕ) : Type 0 where
  pub lower : (degree : ℕ) → HasDegree degree b → r < 2 ^ degree
  pub multiple : (quotient : ℕ) × (a ≡ bit_xor (product quotient b) r)
