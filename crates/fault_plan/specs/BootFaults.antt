-- The faults of a controller in a boot.
use Rattle.std.specs.Prelude.{List, Option}
use Rattle.nand_model.specs.declared.words.Flip.{Flip}
use Rattle.nand_model.specs.declared.words.CutAt.{CutAt}

-- the flips in the order of their lines, and the cut, if there is one
pub record BootFaults : Type 0 where
  pub flips : List Flip
  pub cut : Option CutAt
