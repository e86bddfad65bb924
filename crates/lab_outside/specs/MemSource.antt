-- A source in memory.
use Rattle.std.specs.Prelude.{ℕ, List}

-- what contracts see of a source in memory
pub record MemInput : Type 0 where
  -- the bytes that no call has given yet
  pub left : List ℕ
  -- the most bytes that one call gives
  pub piece : ℕ
  -- the numbers of the calls that fail, counted from 1
  pub failing : List ℕ
  -- the calls so far, and those of them that failed
  pub calls : ℕ
  pub faults : ℕ
