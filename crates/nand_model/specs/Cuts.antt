-- The power cut of a boot.
use Rattle.std.specs.Prelude.{ℕ, ◌==◌, if◌then◌else◌, Option, Some, None}
use Rattle.nand_model.specs.declared.words.CutAt.{CutAt}
use Rattle.nand_model.specs.declared.tear.Tear.{Tear}

-- the cut's tear, where the cut names this page event
abbrev pub tear_at : Option CutAt → ℕ → Option Tear
tear_at None event = None
tear_at (Some cut) event = if cut.event == event then Some cut.tear else None
