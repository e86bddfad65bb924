-- The generator of the code for t errors, over the field of 2^m elements modulo f.
use Rattle.std.specs.Prelude.{ℕ, zero, suc, ◌+◌, ◌*◌, List, [], ◌∷◌}
use Rattle.code_model.specs.Binary.{product, times, power}
use Rattle.code_model.specs.Poly.{locator}

-- the number whose binary digits are the list, the lowest first
unfoldable pub packed : List ℕ → ℕ
packed [] = 0
packed (c ∷ cs) = 2 * packed cs + c

-- a, a^2, a^4 and so on: n of them
unfoldable pub conjugates : ℕ → ℕ → ℕ → ℕ → List ℕ
conjugates m f zero a = []
conjugates m f (suc n) a = a ∷ conjugates m f n (times m f a a)

-- the product of X + x^(j 2^k) for k from 0 to m - 1
unfoldable pub minimal_of : ℕ → ℕ → ℕ → ℕ
minimal_of m f j = packed (locator (times m f) (conjugates m f m (power m f 2 j)))

-- the product of the first t minimal polynomials of odd powers
unfoldable pub generator_of : ℕ → ℕ → ℕ → ℕ
generator_of m f zero = 1
generator_of m f (suc t) = product (generator_of m f t) (minimal_of m f (2 * t + 1))
