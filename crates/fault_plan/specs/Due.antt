-- Which flips are due before a page event.
use Rattle.std.specs.Prelude.{ℕ, List, drop, Option}
use Rattle.std.specs.List.{position_from}
use Rattle.nand_model.specs.Flips.{is_due}
use Rattle.nand_model.specs.declared.words.Flip.{Flip}

-- the first place at or after `from` of a flip that is due
abbrev pub first_due : List Flip → (event from : ℕ) → Option ℕ
first_due flips event from = position_from (is_due event) from (drop from flips)
