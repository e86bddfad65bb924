-- What is kept of boots tells their lines.
use Rattle.std.specs.Prelude.{◌≡◌, ℕ, ◌≤◌, List, sum_by}
use Rattle.plan_grammar.specs.declared.lines.BootLines.{BootLines}
use Rattle.plan_grammar.specs.Limits.{most_flips}
use Rattle.plan_grammar.specs.Faults.{flips_of}

-- the number of flip lines of these boots
pub record AreFlips (boots : List BootLines) (flips : ℕ) : Type 0 where
  pub count_is : flips ≡ sum_by flips_of boots
  pub few : flips ≤ most_flips
