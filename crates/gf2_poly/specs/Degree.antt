-- Sums of degrees.
use Rattle.std.specs.Prelude.{ℕ, ◌+◌, ◌^◌, ◌<◌, ◌≤◌}

-- the degrees of a and b, or bounds on them, have a sum of at most n
pub record DegreeSumAtMost (n a b : ℕ) : Type 0 where
  pub left : ℕ
  pub right : ℕ
  pub within : left + right ≤ n
  pub left_bound : a < 2 ^ (left + 1)
  pub right_bound : b < 2 ^ (right + 1)
