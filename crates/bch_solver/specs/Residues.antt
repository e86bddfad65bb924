-- Polynomials modulo a locator: 17 coefficients, the lowest first.
use Rattle.std.specs.Prelude.{ℕ, ◌-◌, ◌^◌, ◌<◌, ◌≤◌, ◌≡◌, List, length, slice_index}
use Rattle.code_model.specs.Binary.{times, power}
use Rattle.code_model.specs.Poly.{Every, value}
use Rattle.code_model.proofs.KeyEquation.{ArePlaces}
use Rattle.bch_solver.specs.Rows.{AllBelow, polynomial_of}

-- the value at x of 17 coefficients
abbrev pub value_17 : ℕ → ℕ → List ℕ → ℕ → ℕ
value_17 m f coefficients x = value (times m f) (polynomial_of coefficients 16) x

-- the square of v times x
abbrev pub square_times : ℕ → ℕ → ℕ → ℕ → ℕ
square_times m f v x = times m f x (times m f v v)

-- a monic polynomial of a degree e from 1 to 16
pub record IsModulus (m e : ℕ) (c : List ℕ) : Type 0 where
  pub some : 0 < e
  pub few : e < 17
  pub small : AllBelow (2 ^ m) c
  pub lead : slice_index c e ≡ 1
  pub above : (l : ℕ) → e < l → slice_index c l ≡ 0

-- a polynomial of a degree below e
pub record IsResidue (m e : ℕ) (r : List ℕ) : Type 0 where
  pub small : AllBelow (2 ^ m) r
  pub above : (l : ℕ) → e ≤ l → slice_index r l ≡ 0

-- a polynomial of degree e is 0 at a power of x that belongs to no bit of a word of n bits
pub record IsRootBeyond (m f n d e : ℕ) (c : List ℕ) : Type 0 where
  pub outside : n ≤ d
  pub within : d < 2 ^ m - 1
  pub root : value (times m f) (polynomial_of c e) (power m f 2 d) ≡ 0

-- a polynomial does not have e different roots other than 0
abbrev pub LacksRoots : ℕ → ℕ → ℕ → List ℕ → Type 0
LacksRoots m f e c =
    (xs : List ℕ) → ArePlaces (2 ^ m) xs → length xs ≡ e → Every (λ x. value_17 m f c x ≡ 0) xs → ⊥
