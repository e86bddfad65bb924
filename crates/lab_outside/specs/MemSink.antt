-- A sink in memory.
use Rattle.std.specs.Prelude.{ℕ, List}

-- what contracts see of a sink in memory
pub record MemOutput : Type 0 where
  -- the bytes that were written
  pub held : List ℕ
  -- the most bytes that it ever holds, and the most that one call takes
  pub room : ℕ
  pub piece : ℕ
  -- the numbers of the calls that fail, counted from 1
  pub failing : List ℕ
  -- the calls so far, and those of them that failed
  pub calls : ℕ
  pub faults : ℕ
