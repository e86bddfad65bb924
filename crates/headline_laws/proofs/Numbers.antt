-- Numbers in a row.
use Rattle.std.proofs.Common.{◌≡◌, ◌<◌, ◌+◌, ℕ, zero, suc, length, get_or, refl, ap, arith}
use Rattle.nand_model.specs.Sizes.{numbers_from}

pub length-numbers : (first count : ℕ) → length (numbers_from first count) ≡ count
length-numbers first zero = refl
length-numbers first (suc count) = ap suc (length-numbers (first + 1) count)

pub number_at : (first count k d : ℕ) → k < count → get_or (numbers_from first count) k d ≡ first + k
number_at first zero k d there = absurd (omega (arith, there))
number_at first (suc count) zero d there = omega arith
number_at first (suc count) (suc k) d there = let e = number_at (first + 1) count k d (omega (arith, there)) in omega (arith, e)
