-- Words of bits, the highest coefficient first.
use Rattle.std.specs.Prelude.{ℕ, ◌+◌, ◌*◌, ◌<◌, ◌≡◌, List, [], ◌∷◌, length, cond, nat_eq}
use Rattle.code_model.specs.Binary.{product}
use Rattle.code_model.specs.Generator.{generator_of}
use Rattle.code_model.specs.Poly.{Every}

-- the polynomial of a word, after the coefficients of a
unfoldable pub number_from : ℕ → List ℕ → ℕ
number_from a [] = a
number_from a (b ∷ bs) = number_from (2 * a + b) bs

-- each is 0 or 1
abbrev pub AreBits : List ℕ → Type 0
AreBits bs = Every (λ b. b < 2) bs

-- the polynomial of a word is a multiple of the generator
abbrev pub IsMultiple : ℕ → ℕ → ℕ → List ℕ → Type 0
IsMultiple m f t bs = (q : ℕ) × (number_from 0 bs ≡ product q (generator_of m f t))

-- the degrees at which two words of one length differ
unfoldable pub differences : List ℕ → List ℕ → List ℕ
differences [] ys = []
differences (x ∷ xs) [] = []
differences (x ∷ xs) (y ∷ ys) = let rest = differences xs ys in cond (nat_eq x y) rest (length xs ∷ rest)

-- at how many degrees two words of one length differ
abbrev pub distance : List ℕ → List ℕ → ℕ
distance xs ys = length (differences xs ys)
