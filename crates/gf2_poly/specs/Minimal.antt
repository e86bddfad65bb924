-- The coefficients of minimal polynomials, as elements of the field.
use Rattle.std.specs.Prelude.{ℕ, List}
use Rattle.code_model.specs.Binary.{times, power}
use Rattle.code_model.specs.Poly.{locator}
use Rattle.code_model.specs.Generator.{conjugates}

-- the coefficients of the product of X + x^(j 2^k) for k from 0 to m - 1, the lowest first
abbrev pub minimal_coefficients : ℕ → ℕ → ℕ → List ℕ
minimal_coefficients m f j = locator (times m f) (conjugates m f m (power m f 2 j))
